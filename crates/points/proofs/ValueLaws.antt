-- The reading of a point as the code has it, and what an accepted table grants of the point's places.
-- Assumes nothing.
use mathlib.Core.Path.{◌≡◌, sym, ap, ◌∙◌, subst}
use mathlib.Core.Bool.{Bool, true, false, cond}
use mathlib.Core.List.{List, [], ◌++◌}
use Prim.Native.Nat.{ℕ, ◌+◌, ◌-◌, ◌*◌, ◌^◌, ◌≤◌, ◌<◌}
use native.Mathlib.Omega.{arith}
use lib.ListN.{length, replicate, length-map}
use Rattle.model.specs.Lists.{as_bit}
use Rattle.model.specs.Table.{Point, Table}
use Rattle.model.specs.Values.{lowest}
use Rattle.model.specs.Counters.{point_at, value_counters, auto_counters}
use Rattle.model.specs.Sampling.{Reading, known, reading, is_in, hits}
use Rattle.model.specs.Format.{point_record, accepted, table_of}
use Rattle.model.specs.Register.{point_total, run_stretches}
use Rattle.model.proofs.Sections.{accepted_decodes}
use Rattle.ranges.specs.Types.{Wide}
use Rattle.layout.specs.declared.Layout.{Layout}
use Rattle.layout.specs.Places.{layout_of}
use Rattle.arrays.specs.Flat.{hit_flags, reading_code, reading_from}
use Rattle.arrays.specs.declared.reading.Reading as code
use Rattle.arrays.specs.declared.reading.Reading.TheVariants.{Known}
use Rattle.arrays.proofs.FlatLaws.{from_code}
use Rattle.values.specs.Points.{Near}
use Rattle.values.proofs.PointExact.{point_raw}
use Rattle.values.proofs.Ready.{all_near, wide}
use Rattle.points.specs.Hits.{value_hits}
use Rattle.points.proofs.Counted.{no_hits}

-- ---- the reading

pub code-known : (r : Reading) (v : ℕ) → Known v ≡ reading_code r → r ≡ known v
code-known r v e = sym (ap reading_from e ∙ from_code r)

-- ---- the places of a layout

low-top : (x : Point) → lowest x ≤ 8589934592
low-top x = go x.signed
  where
    go : (b : Bool) → cond b (2147483648 - 2 ^ (x.width - 1)) 2147483648 ≤ 8589934592
    go true = omega arith
    go false = omega arith

module _ (s : List ℕ) (ok : accepted s ≡ true) (p : ℕ) (inside : p < point_total (table_of s)) (l : Layout) (e : l ≡ layout_of s) where
  pub places_ready : Near (l.points + 11 * p) l.bins l.ranges l.bin_count l.transitions l.transition_count × Wide s (l.points + 11 * p)
  unfolding layout_of
  places_ready =
      let t = table_of s in
      let d = accepted_decodes s ok in
      subst (λ (x : Layout). Near (x.points + 11 * p) x.bins x.ranges x.bin_count x.transitions x.transition_count × Wide s (x.points + 11 * p)) (sym e)
      (all_near s t d p inside, wide s t d p inside)

  pub record_is : point_at (table_of s) p ≡ point_record s (l.points + 11 * p)
  unfolding layout_of
  record_is = point_raw s (table_of s) (accepted_decodes s ok) p inside ∙ sym (ap (λ (x : Layout). point_record s (x.points + 11 * p)) e)

  pub low_ready : (low : ℕ) → low ≡ lowest (point_record s (l.points + 11 * p)) → low ≤ 8589934592
  low_ready low z = rw z (low-top (point_record s (l.points + 11 * p)))

-- ---- a reading with no value hits nothing

pub hits-none : (t : Table) (w : List ℕ) (p : ℕ) (x : code.Reading) → x ≡ reading_code (reading t w p) → ((f : ℕ → Bool) → is_in f (reading_from x) ≡ false)
    → value_hits t w p ≡ replicate (length (value_hits t w p)) 0
unfolding value_hits hit_flags
hits-none t w p x e h =
    let cs = value_counters t p 0 t.value_bins ++ auto_counters t p in
    no_hits t w p (λ f. ap (is_in f) (sym (ap reading_from e ∙ from_code (reading t w p))) ∙ h f) (run_stretches [])
    ∙ ap (λ (n : ℕ). replicate n 0) (sym (length-map cs (λ c. as_bit (hits t w (run_stretches []) c))))
