-- The totals of a table that was read, as sums over its bytes.
-- Assumes nothing.
use mathlib.Core.Path.{◌≡◌, refl, sym, ap, ap₂, ◌∙◌, subst, fun_ext}
use mathlib.Core.List.{List}
use Prim.Native.Nat.{ℕ, ◌+◌}
use native.Mathlib.Omega.{arith}
use mathlib.Core.Bool.{Bool, true, false, cond, ◌&&◌}
use lib.Dec.{leb}
use lib.ListN.{length}
use Rattle.model.specs.Lists.{up_from, all, sum_of}
use Rattle.model.specs.Table.{Kind, cover, ignore, illegal, default, CrossBin, Cross, Table, no_cross}
use Rattle.model.specs.Counters.{product_of, within_limits}
use Rattle.model.specs.Ranges.{transitions_of, counters_at, covers_at, limits_in}
use Rattle.model.specs.Raw.{rows, crosses_at, raw_table, records_place, record_count}
use Rattle.model.specs.Register.{counter_total, illegal_total, run_total}
use Rattle.model.proofs.Booleans.{and_right}
use Rattle.model.proofs.Limits.{limits_exact}
use Rattle.model.proofs.Readers.{All}
use Rattle.model.proofs.WellFormed.{InPoints}
use Rattle.layout.specs.Places.{layout_of}
use Rattle.layout.specs.declared.Layout.{Layout}
use Rattle.limits.specs.Walks.{Readable, walk_sum, after, is_byte, value_illegals, cross_kinds, next_cross, cross_illegals, mosts_in, next_transition}
use Rattle.limits.specs.Bins.{here, counters_in, point_fits, cross_products, cross_fits}
use Rattle.limits.specs.Tallies.{Counted, counters_within}
use Rattle.model.proofs.Measure.{illegals_of, cross_sum, sum-add, sum_same, illegal-total, run-total}
use Rattle.model.proofs.Measure as measure
use Rattle.std.specs.Prelude.{Option, Some, None}
use Rattle.model.proofs.Lists.{all_same}
use Rattle.limits.proofs.RawSums.{covers_in, cover-byte, illegal-byte, bins_kinds, transitions_kinds, crosses_kinds, transitions_mosts}
use Rattle.limits.proofs.ReadLaws.{read_well, bin_points, transition_points}
use Rattle.limits.proofs.PointLaws.{points_length}
use Rattle.limits.proofs.CrossLaws.{size_fits, crosses_fit, crosses_products}
use Rattle.limits.proofs.RowLaws.{all_numbers, rows_up, walk_up}

-- cover and illegal cross bins together
cross-split : (c : Cross) → cross_sum transitions_of c ≡ cross_sum covers_in c + cross_sum illegals_of c
cross-split c = ap (λ (f : CrossBin → ℕ). sum_of f c.bins) (fun_ext λ b. go b.kind) ∙ sum-add (λ b. covers_in b.kind) (λ b. illegals_of b.kind) c.bins
  where
    go : (k : Kind) → transitions_of k ≡ covers_in k + illegals_of k
    go cover = refl
    go ignore = refl
    go illegal = refl
    go default = refl

abbrev fits_at : Table → ℕ → Bool
fits_at t p = leb (counters_at t p) 256

-- the limits over the crosses by themselves
limits-crosses : (t : Table) → limits_in t ≡ (all (fits_at t) (up_from 0 (length t.points)) && all (size_fits t) t.crosses)
unfolding limits_in
limits-crosses t = ap (all (fits_at t) (up_from 0 (length t.points)) &&◌) (all_numbers (size_fits t) no_cross t.crosses)

crosses-inside : (s : List ℕ) → Readable s → All (λ x. InPoints (record_count s 0) x.points) (crosses_at s (records_place s 7) (records_place s 8) (records_place s 9) (record_count s 7))
unfolding raw_table
crosses-inside s known = subst (λ (n : ℕ). All (λ x. InPoints n x.points) (raw_table s).crosses) (points_length s) (read_well s known).crosses

-- a sum that is there if all terms fit
no_sum : (b : Bool) (n : ℕ) → None ≡ cond b (Some n) None → false ≡ b
no_sum true n e = absurd (cc)
no_sum false n e = refl

some_sum : (b : Bool) (n m : ℕ) → Some m ≡ cond b (Some n) None → (true ≡ b) × (m ≡ n)
some_sum true n m e = (refl, cc)
some_sum false n m e = absurd (cc)

and_false : (b : Bool) → (b && false) ≡ false
and_false true = refl
and_false false = refl

module _ (s : List ℕ) (l : Layout) (laid : l ≡ layout_of s) where
  pub illegal_sum : Readable s → (a b c : ℕ)
      → a ≡ value_illegals s l
      → b ≡ walk_sum 0 (is_byte s 2) (after 4) (l.transitions + 1) l.transition_count
      → c ≡ cross_illegals s l
      → a + b + c ≡ illegal_total (raw_table s)
  unfolding layout_of raw_table
  illegal_sum known a b c ea eb ec =
      ap₂ ◌+◌
      (ap₂ ◌+◌
      (ea ∙ ap (value_illegals s) laid ∙ sym (bins_kinds s illegals_of 2 illegal-byte (records_place s 1) (records_place s 2) (record_count s 1)))
      (eb ∙ ap (λ (l : Layout). walk_sum 0 (is_byte s 2) (after 4) (l.transitions + 1) l.transition_count) laid
      ∙ sym (transitions_kinds s illegals_of 2 illegal-byte (records_place s 3) (records_place s 4) (records_place s 5) (records_place s 6) (record_count s 3))))
      (ec ∙ ap (cross_illegals s) laid
      ∙ sym (crosses_kinds s illegals_of 2 illegal-byte (records_place s 7) (records_place s 8) (records_place s 9) (record_count s 7)))
      ∙ sym (illegal-total (raw_table s) (bin_points s known) (transition_points s known))

  pub run_sum : (a : ℕ) → a ≡ walk_sum 0 (mosts_in s) (next_transition s) (l.transitions, l.sequences, l.steps) l.transition_count → a ≡ run_total (raw_table s)
  unfolding layout_of raw_table
  run_sum a e =
      e ∙ ap (λ (l : Layout). walk_sum 0 (mosts_in s) (next_transition s) (l.transitions, l.sequences, l.steps) l.transition_count) laid
      ∙ sym (transitions_mosts s (records_place s 3) (records_place s 4) (records_place s 5) (records_place s 6) (record_count s 3)) ∙ sym (run-total (raw_table s))

  within_both : Readable s → (covers singles : List ℕ) → Counted s covers singles → (a b : Bool) → a ≡ all (point_fits covers singles) (rows here 1 0 l.point_count)
      → b ≡ all (cross_fits covers s) (rows here 13 l.crosses l.cross_count) → (a && b) ≡ within_limits (raw_table s)
  unfolding layout_of
  within_both known covers singles counted a b ea eb =
      ap₂ ◌&&◌
      (ea ∙ ap (all (point_fits covers singles)) (rows_up 0 l.point_count) ∙ ap (λ (n : ℕ). all (point_fits covers singles) (up_from 0 n)) number ∙ all_same (point_fits covers singles) (fits_at (raw_table s)) 0 (length (raw_table s).points) λ p lo hi. ap (λ (n : ℕ). leb n 256) (counted.all_counters p (omega (arith, points_length s))))
      (eb ∙ ap (λ (l : Layout). all (cross_fits covers s) (rows here 13 l.crosses l.cross_count)) laid ∙ sym fits)
      ∙ sym (limits-crosses (raw_table s)) ∙ sym (limits_exact (raw_table s) (read_well s known))
    where
      number : l.point_count ≡ length (raw_table s).points
      number = ap (λ (l : Layout). l.point_count) laid ∙ sym (points_length s)

      fits : all (size_fits (raw_table s)) (raw_table s).crosses ≡ all (cross_fits covers s) (rows here 13 (records_place s 7) (record_count s 7))
      fits = unfold raw_table in (crosses_fit s covers counted.cover_bins (records_place s 7) (records_place s 8) (records_place s 9) (record_count s 7) (crosses-inside s known))

  counters_sum : Readable s → (covers singles : List ℕ) → Counted s covers singles → (a b c d : ℕ)
      → a ≡ walk_sum 0 (counters_in covers singles) (after 1) 0 l.point_count
      → b ≡ walk_sum 0 (cross_kinds s 0) (next_cross s) (l.crosses, l.cross_bins) l.cross_count
      → c ≡ cross_illegals s l
      → d ≡ walk_sum 0 (cross_products covers s) (after 13) l.crosses l.cross_count
      → within_limits (raw_table s) ≡ true → a + (b + c + d) ≡ counter_total (raw_table s)
  unfolding layout_of
  counters_sum known covers singles counted a b c d ea eb ec ed within =
      ap₂ ◌+◌ points (ap₂ ◌+◌ bins products) ∙ sym (measure.counter_total (raw_table s) (read_well s known) within)
    where
      number : l.point_count ≡ length (raw_table s).points
      number = ap (λ (l : Layout). l.point_count) laid ∙ sym (points_length s)

      points : a ≡ sum_of (counters_at (raw_table s)) (up_from 0 (length (raw_table s).points))
      points =
          ea ∙ walk_up (counters_in covers singles) 0 l.point_count ∙ ap (λ (n : ℕ). sum_of (counters_in covers singles) (up_from 0 n)) number
          ∙ sum_same (counters_in covers singles) (counters_at (raw_table s)) 0 (length (raw_table s).points) (λ p lo hi. counted.all_counters p (omega (arith, points_length s)))

      kinds : (F : Kind → ℕ) (v n : ℕ) → sum_of (cross_sum F) (raw_table s).crosses ≡ walk_sum 0 (cross_kinds s v) (next_cross s) (records_place s 7, records_place s 8) (record_count s 7)
          → n ≡ walk_sum 0 (cross_kinds s v) (next_cross s) (l.crosses, l.cross_bins) l.cross_count → n ≡ sum_of (cross_sum F) (raw_table s).crosses
      kinds F v n h e = e ∙ ap (λ (l : Layout). walk_sum 0 (cross_kinds s v) (next_cross s) (l.crosses, l.cross_bins) l.cross_count) laid ∙ sym h

      bins : b + c ≡ sum_of (cross_sum transitions_of) (raw_table s).crosses
      bins =
          ap₂ ◌+◌
          (kinds covers_in 0 b (unfold raw_table in (crosses_kinds s covers_in 0 cover-byte (records_place s 7) (records_place s 8) (records_place s 9) (record_count s 7))) eb)
          (kinds illegals_of 2 c (unfold raw_table in (crosses_kinds s illegals_of 2 illegal-byte (records_place s 7) (records_place s 8) (records_place s 9) (record_count s 7))) ec)
          ∙ sym (sum-add (cross_sum covers_in) (cross_sum illegals_of) (raw_table s).crosses)
          ∙ ap (λ (f : Cross → ℕ). sum_of f (raw_table s).crosses) (fun_ext λ x. sym (cross-split x))

      fit : all (size_fits (raw_table s)) (raw_table s).crosses ≡ true
      fit = and_right (all (fits_at (raw_table s)) (up_from 0 (length (raw_table s).points))) (all (size_fits (raw_table s)) (raw_table s).crosses)
          (sym (limits-crosses (raw_table s)) ∙ sym (limits_exact (raw_table s) (read_well s known)) ∙ within)

      products : d ≡ sum_of (λ x. product_of (covers_at (raw_table s)) x.points) (raw_table s).crosses
      products =
          ed ∙ ap (λ (l : Layout). walk_sum 0 (cross_products covers s) (after 13) l.crosses l.cross_count) laid
          ∙ sym (unfold raw_table in (crosses_products s covers counted.cover_bins (records_place s 7) (records_place s 8) (records_place s 9) (record_count s 7) (crosses-inside s known) fit))

  abbrev Points : List ℕ → List ℕ → Option ℕ
  Points covers singles = cond (all (point_fits covers singles) (rows here 1 0 l.point_count)) (Some (walk_sum 0 (counters_in covers singles) (after 1) 0 l.point_count)) None

  abbrev Products : List ℕ → Option ℕ
  Products covers = cond (all (cross_fits covers s) (rows here 13 l.crosses l.cross_count)) (Some (walk_sum 0 (cross_products covers s) (after 13) l.crosses l.cross_count)) None

  module _ (known : Readable s) (covers singles : List ℕ) (counted : Counted s covers singles) where
    fits : (a b : Bool) → a ≡ all (point_fits covers singles) (rows here 1 0 l.point_count) → b ≡ all (cross_fits covers s) (rows here 13 l.crosses l.cross_count) → counters_within (raw_table s) ≡ cond (a && b) (Some (counter_total (raw_table s))) None
    fits a b ea eb = ap (λ (w : Bool). cond w (Some (counter_total (raw_table s))) None) (sym (within_both known covers singles counted a b ea eb))

    -- a point has too many counters
    pub points_over : None ≡ Points covers singles → None ≡ counters_within (raw_table s)
    points_over e = sym (fits false _ (no_sum _ _ e) refl)

    -- a cross has too many products
    pub products_over : None ≡ Products covers → None ≡ counters_within (raw_table s)
    products_over e = sym (fits _ false refl (no_sum _ _ e) ∙ ap (λ (w : Bool). cond w (Some (counter_total (raw_table s))) None) (and_false (all (point_fits covers singles) (rows here 1 0 l.point_count))))

    pub none_over : (a b c d : ℕ) → Some a ≡ Points covers singles
        → b ≡ walk_sum 0 (cross_kinds s 0) (next_cross s) (l.crosses, l.cross_bins) l.cross_count
        → c ≡ cross_illegals s l
        → Some d ≡ Products covers
        → Some (a + (b + c + d)) ≡ counters_within (raw_table s)
    none_over a b c d ea eb ec ed =
        let pa = some_sum _ _ a ea in
        let pd = some_sum _ _ d ed in
        let within : within_limits (raw_table s) ≡ true = sym (within_both known covers singles counted true true pa.0 pd.0) in
        ap Some (counters_sum known covers singles counted a b c d pa.1 eb ec pd.1 within)
        ∙ ap (λ (w : Bool). cond w (Some (counter_total (raw_table s))) None) (sym within)
