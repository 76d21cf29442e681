-- The guard of a cover bin stands in the record of the value bin that it comes of.
-- Assumes nothing.
use mathlib.Core.Path.{◌≡◌, refl, sym, ap, ap₂, ◌∙◌, subst}
use mathlib.Core.Bool.{Bool, true, false, ◌||◌, cond}
use mathlib.Core.List.{List, [], ◌∷◌, ◌++◌, map}
use Prim.Native.Nat.{ℕ, zero, suc, ◌+◌, ◌*◌, ◌≤◌, ◌<◌}
use native.Mathlib.Omega.{arith}
use lib.Dec.{eqb}
use lib.ListN.{length, get_or}
use borrow.Author.Tests.{ne_eqb}
use Rattle.model.specs.Lists.{up_from}
use Rattle.model.specs.Table.{Kind, cover, ignore, illegal, default, ValueBin, Table, no_value_bin}
use Rattle.model.specs.Values.{bin_count}
use Rattle.model.specs.Counters.{CoverBin, listed, auto, no_cover_bin, Counter, value_bin, point_at, auto_count, has_auto, bin_counters, value_counters, auto_counters, transition_counters, point_counters, cover_bins}
use Rattle.model.specs.Sampling.{guard_true, cover_guard}
use Rattle.model.specs.Format.{byte, u16, guard_from, decode, decoded, accepted, table_of}
use Rattle.model.specs.Raw.{bins_at, records_place, record_count}
use Rattle.model.specs.Register.{point_total}
use Rattle.model.proofs.Readers.{All, all_append}
use Rattle.model.proofs.RawValues.{length-bins}
use Rattle.model.proofs.Sections.{accepted_decodes}
use Rattle.model.proofs.Limits.{covers-append, covers-map, no-covers}
use Rattle.arrays.specs.Flat.{covers, origin}
use Rattle.values.proofs.PointExact.{bins_raw}
use Rattle.values.proofs.Ready.{all_near}
use Rattle.found.specs.Found.{OriginsAt, bin_guard, guard_at}

pub all_of : {A : Type 0} (P : A → Type 0) (d : A) (xs : List A) → All P xs → (i : ℕ) → i < length xs → P (get_or xs i d)
all_of P d [] h i k = absurd (omega arith)
all_of P d (x ∷ xs) h zero k = h.0
all_of P d (x ∷ xs) h (suc i) k = all_of P d xs h.1 i (omega arith)

-- ---- a cover bin comes of one of n value bins

abbrev From : ℕ → CoverBin → Type 0
From n (listed b k) = b < n
From n (auto p k) = Unit {0}

module _ (t : Table) (p n : ℕ) where
  from_map : (f : ℕ → CoverBin) → ((k : ℕ) → From n (f k)) → (ks : List ℕ) → All (From n) (cover_bins (map (λ k. value_bin (f k)) ks))
  from_map f h ks = subst (All (From n)) (sym (covers-map f ks)) (go ks)
    where
      go : (ks : List ℕ) → All (From n) (map f ks)
      go [] = tt
      go (k ∷ ks) = (h k, go ks)

  from_append : (xs ys : List Counter) → All (From n) (cover_bins xs) → All (From n) (cover_bins ys) → All (From n) (cover_bins (xs ++ ys))
  from_append xs ys h k = subst (All (From n)) (sym (covers-append xs ys)) (all_append (From n) (cover_bins xs) (cover_bins ys) h k)

  from_bin : (b : ℕ) → b < n → (k : Kind) (m : ℕ) → All (From n) (cover_bins (bin_counters b k m))
  unfolding cover_bins
  from_bin b h cover m = from_map (listed b) (λ k. h) (up_from 0 m)
  from_bin b h ignore m = tt
  from_bin b h illegal m = tt
  from_bin b h default m = tt

  from_bins : (b : ℕ) (vs : List ValueBin) → b + length vs ≤ n → All (From n) (cover_bins (value_counters t p b vs))
  unfolding value_counters
  from_bins b [] h = unfold cover_bins in tt
  from_bins b (v ∷ vs) h = from_append (cond (eqb v.point p) (bin_counters b v.kind m) []) (value_counters t p (suc b) vs) (go (eqb v.point p)) (from_bins (suc b) vs (omega arith))
    where
      m : ℕ
      m = bin_count (point_at t p) v.form v.ranges

      go : (c : Bool) → All (From n) (cover_bins (cond c (bin_counters b v.kind m) []))
      go true = from_bin b (omega arith) v.kind m
      go false = unfold cover_bins in tt

  covers_from : length t.value_bins ≤ n → All (From n) (covers t p)
  unfolding covers point_counters
  covers_from h =
      from_append (value_counters t p 0 t.value_bins ++ auto_counters t p) (transition_counters p 0 t.transition_bins)
      (from_append (value_counters t p 0 t.value_bins) (auto_counters t p) (from_bins 0 t.value_bins (omega arith)) (autos (has_auto t p)))
      (subst (All (From n)) (sym (no-covers p 0 t.transition_bins)) tt)
    where
      autos : (c : Bool) → All (From n) (cover_bins (cond c (map (λ k. value_bin (auto p k)) (up_from 0 (auto_count (point_at t p)))) []))
      autos true = from_map (auto p) (λ k. tt) (up_from 0 (auto_count (point_at t p)))
      autos false = unfold cover_bins in tt

-- ---- its record

record-guard : (s : List ℕ) (a r n b : ℕ) → b < n → guard_from (byte s (a + 8 * b + 5)) ≡ (get_or (bins_at s a r n) b no_value_bin).guard
unfolding bins_at
record-guard s a r zero b h = absurd (omega arith)
record-guard s a r (suc n) zero h = ap (λ (x : ℕ). guard_from (byte s x)) (let z : a + 8 * 0 + 5 ≡ a + 5 = omega arith in z)
record-guard s a r (suc n) (suc b) h =
    ap (λ (x : ℕ). guard_from (byte s x)) (let z : a + 8 * suc b + 5 ≡ (a + 8) + 8 * b + 5 = omega arith in z) ∙ record-guard s (a + 8) (r + 17 * u16 s (a + 6)) n b (omega arith)

module _ (s w : List ℕ) (ok : accepted s ≡ true) (p : ℕ) (inside : p < point_total (table_of s)) where
  d : decode s ≡ decoded (table_of s)
  d = accepted_decodes s ok

  many : length (table_of s).value_bins ≡ record_count s 1
  many = ap length (bins_raw s (table_of s) d p inside) ∙ length-bins s (records_place s 1) (records_place s 2) (record_count s 1)

  bin_guard_lem : (c : CoverBin) → From (record_count s 1) c → bin_guard s w (records_place s 1) (origin c) ≡ guard_true w (cover_guard (table_of s) c)
  unfolding bin_guard
  bin_guard_lem (listed b k) h =
      ap (◌|| guard_true w (guard_from (byte s (records_place s 1 + 8 * b + 5)))) (ne_eqb b 65535 (λ e. omega (arith, (all_near s (table_of s) d p inside).few_bins)))
      ∙ ap (guard_true w) (record-guard s (records_place s 1) (records_place s 2) (record_count s 1) b h ∙ ap (λ (bs : List ValueBin). (get_or bs b no_value_bin).guard) (sym (bins_raw s (table_of s) d p inside)))
  bin_guard_lem (auto q k) h = unfold guard_true in refl

  -- the guard that the code reads is the cover bin's
  pub guard_exact : (o : List ℕ) → OriginsAt (table_of s) p o → (bins : ℕ) → bins ≡ records_place s 1 → (k : ℕ) → k < length (covers (table_of s) p)
      → guard_at s w o bins k ≡ guard_true w (cover_guard (table_of s) (get_or (covers (table_of s) p) k no_cover_bin))
  unfolding OriginsAt
  guard_exact o at bins e k h =
      ap₂ (bin_guard s w) e (at k h)
      ∙ bin_guard_lem (get_or (covers (table_of s) p) k no_cover_bin) (all_of (From (record_count s 1)) no_cover_bin (covers (table_of s) p) (covers_from (table_of s) p (record_count s 1) (omega (arith, many))) k h)

  pub bins_low : records_place s 1 < 1000000000
  bins_low = (all_near s (table_of s) d p inside).bins_near
