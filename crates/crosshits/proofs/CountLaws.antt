-- How many counters a cross's bins have.
-- Assumes nothing.
use mathlib.Core.Path.{◌≡◌, ap, ◌∙◌}
use mathlib.Core.List.{List, [], ◌∷◌}
use Prim.Native.Nat.{ℕ, ◌+◌, ◌-◌, ◌*◌, ◌≤◌, ◌<◌}
use native.Mathlib.Omega.{arith}
use lib.ListN.{length, length-append}
use Rattle.model.specs.Table.{Kind, cover, ignore, illegal, default}
use Rattle.model.specs.Counters.{cross_counters}
use Rattle.model.specs.Format.{byte, kind_from, CrossBinHead, cross_bin_head, table_of}
use Rattle.model.proofs.RawLaws.{length-rows}
use Rattle.products.specs.Shapes.{Fits, Stands}
use Rattle.products.specs.declared.shapes.Shape.{Shape}
use Rattle.products.specs.declared.places.Place.{Place}
use Rattle.products.proofs.Exact.{cross_placed}
use Rattle.crosses.specs.Flags.{heads_at, label_of}
use Rattle.crosses.specs.Labels.{bin_labels}
use Rattle.crosses.proofs.Laws.{labels_turn}
use Rattle.crosses.proofs.FlagsExact.{counters_length}

-- at most one for each bin
pub labels-few : (hs : List CrossBinHead) → length (bin_labels 0 0 hs) ≤ length hs
unfolding bin_labels
labels-few [] = omega arith
labels-few (h ∷ hs) = omega (arith, length-append (label_of 0 0 h.kind) (bin_labels 0 0 hs), one h.kind, labels-few hs)
  where
    one : (k : Kind) → length (label_of 0 0 k) ≤ 1
    one cover = omega arith
    one ignore = omega arith
    one illegal = omega arith
    one default = omega arith

pub labels-sum : (s : List ℕ) (b n i k x sum : ℕ) → i < n → k ≡ byte s (b + 3 * i) → x ≡ length (label_of 0 0 (kind_from k))
    → sum + length (bin_labels 0 0 (heads_at s (b + 3 * i) (n - i))) ≡ sum + x + length (bin_labels 0 0 (heads_at s (b + 3 * (i + 1)) (n - (i + 1))))
labels-sum s b n i k x sum h ek ex =
    omega (arith, ap length (labels_turn 0 0 s b n i k h ek), length-append (label_of 0 0 (kind_from k)) (bin_labels 0 0 (heads_at s (b + 3 * (i + 1)) (n - (i + 1)))))

-- its bins and its products
pub counters_sum : (s : List ℕ) (p : Place) (h : Shape) (stands : Stands s p) → Fits (table_of s) p.number h → (k n : ℕ) → k ≡ byte s (p.cross + 12) → n ≡ length (bin_labels 0 0 (heads_at s p.bins k))
    → (n + h.total ≡ length (cross_counters (table_of s) p.number)) × (n + h.total ≤ 65535)
counters_sum s p h stands fits k n ek en =
    let e = counters_length s p stands in
    let same = en ∙ ap (λ (j : ℕ). length (bin_labels 0 0 (heads_at s p.bins j))) ek in
    let few = labels-few (heads_at s p.bins (byte s (p.cross + 12))) in
    let rows = length-rows (cross_bin_head s []) 3 p.bins (byte s (p.cross + 12)) in
    let good = cross_placed s p stands in
    (omega (arith, e, same, fits.products), omega (arith, same, few, rows, good.few, fits.whole.small))
