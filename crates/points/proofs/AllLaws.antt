-- The counters of a point, and of all points.
-- Assumes nothing.
use mathlib.Core.Path.{◌≡◌, sym, ap, ◌∙◌}
use mathlib.Core.Bool.{true}
use mathlib.Core.List.{List, [], ◌++◌, map, map-append}
use Prim.Native.Nat.{ℕ, zero, suc, ◌+◌, ◌-◌, ◌*◌, ◌^◌, ◌≤◌, ◌<◌}
use native.Mathlib.Omega.{arith}
use lib.ListN.{length, get_or, take, length-append}
use lib.Seq.{get_or-take}
use Rattle.model.specs.Lists.{up_from, concat_of}
use Rattle.model.specs.Table.{Table}
use Rattle.model.specs.Counters.{Counter, point_counters}
use Rattle.model.specs.Sampling.{Reading, reading, is_skipped}
use Rattle.model.specs.Format.{accepted, table_of}
use Rattle.model.specs.Register.{point_total, in_widths}
use Rattle.model.proofs.Sections.{accepted-layout, accepted_decodes}
use Rattle.model.proofs.AccessTransitions.{transitions_access}
use Rattle.model.proofs.Lists.{from_step, from_end, get_d-row}
use Rattle.model.proofs.RawExact.{few_points}
use Rattle.arrays.specs.Flat.{all_point_counters, reading_code, reading_codes, reading_from}
use Rattle.arrays.specs.declared.reading.Reading as code
use Rattle.arrays.specs.declared.reading.Reading.TheVariants.{Skipped}
use Rattle.arrays.proofs.FlatLaws.{from_code}
use Rattle.values.proofs.PointExact.{few_counters}
use Rattle.layout.specs.declared.Layout.{Layout}
use Rattle.layout.specs.Places.{layout_of}
use Rattle.layout.proofs.PlaceLaws.{points-total}

-- ---- one point

pub skip_code : (r : Reading) (x : code.Reading) → x ≡ reading_code r → is_skipped (reading_from x) ≡ is_skipped r
skip_code r x e = ap (λ (y : code.Reading). is_skipped (reading_from y)) e ∙ ap is_skipped (from_code r)

module _ (s w lens : List ℕ) (ok : accepted s ≡ true) (widths : in_widths (table_of s) w ≡ true) (words : (j : ℕ) → get_or lens j 0 < 2 ^ 32) (p : ℕ) (inside : p < point_total (table_of s)) where
  pub few_bins : length (table_of s).transition_bins ≤ 64
  few_bins = (transitions_access s (table_of s) (length s) (accepted-layout s ok)).0.high

-- ---- all points

module _ {A : Type 0} (f : Counter → A) (t : Table) (n i : ℕ) where
  pub points_turn : i < n → map f (concat_of (point_counters t) (up_from i (n - i))) ≡ map f (point_counters t i) ++ map f (concat_of (point_counters t) (up_from (i + 1) (n - (i + 1))))
  unfolding concat_of
  points_turn h = ap (λ (ps : List ℕ). map f (concat_of (point_counters t) ps)) (from_step i n h) ∙ map-append f (point_counters t i) (concat_of (point_counters t) (up_from (i + 1) (n - (i + 1))))

  pub points_end : n ≤ i → map f (concat_of (point_counters t) (up_from i (n - i))) ≡ []
  unfolding concat_of
  points_end h = ap (λ (ps : List ℕ). map f (concat_of (point_counters t) ps)) (from_end i n h)

pub points-all : {A : Type 0} (f : Counter → A) (t : Table) (n : ℕ) → n ≡ point_total t → map f (concat_of (point_counters t) (up_from 0 (n - 0))) ≡ map f (all_point_counters t)
unfolding all_point_counters
points-all f t n e = ap (λ (m : ℕ). map f (concat_of (point_counters t) (up_from 0 m))) (let z : n - 0 ≡ point_total t = omega arith in z)

-- ---- the readings

pub code_read : (t : Table) (w : List ℕ) (a : List code.Reading) (p : ℕ) → take (point_total t) a ≡ reading_codes t w → p < point_total t → get_or a p Skipped ≡ reading_code (reading t w p)
unfolding reading_codes
code_read t w a p e h = sym (get_or-take (point_total t) a p Skipped h) ∙ ap (λ (x : List code.Reading). get_or x p Skipped) e ∙ get_d-row (λ q. reading_code (reading t w q)) 0 (point_total t) p Skipped h ∙ ap (λ (q : ℕ). reading_code (reading t w q)) (let z : 0 + p ≡ p = omega arith in z)

module _ (s : List ℕ) (ok : accepted s ≡ true) where
  pub point_number : (l : Layout) → l ≡ layout_of s → (l.point_count ≡ point_total (table_of s)) × (point_total (table_of s) ≤ 16)
  point_number l e = (points-total s ok l.point_count (ap (λ (x : Layout). x.point_count) e), few_points s ok)

  pub few_here : (p : ℕ) → p < point_total (table_of s) → length (point_counters (table_of s) p) ≤ 256
  few_here p h = few_counters s (table_of s) (accepted_decodes s ok) p h

  -- 256 elements for each point are enough
  pub counters_room : (n i : ℕ) → i + n ≤ point_total (table_of s) → length (concat_of (point_counters (table_of s)) (up_from i n)) ≤ 256 * n
  unfolding concat_of up_from
  counters_room zero i h = omega arith
  counters_room (suc n) i h =
      omega (arith, length-append (point_counters (table_of s) i) (concat_of (point_counters (table_of s)) (up_from (suc i) n)), few_here i (omega arith), counters_room n (suc i) (omega arith))
