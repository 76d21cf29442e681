-- Laws of the readings by places, and that they are the model's.
-- Assumes nothing.
use mathlib.Core.Path.{◌≡◌, sym, ap, ◌∙◌, subst}
use mathlib.Core.Bool.{Bool, true, false, not, ◌&&◌}
use mathlib.Core.List.{List, ◌∷◌, map}
use Prim.Native.Nat.{ℕ, ◌+◌, ◌-◌, ◌*◌, ◌^◌, ◌≤◌, ◌<◌}
use native.Mathlib.Omega.{arith}
use borrow.Author.Rules.{rules}
use borrow.Author.Tests.{eq-eqb, ne_eqb, ltb-true, not-true, not-false}
use lib.Dec.{eqb, ltb}
use lib.ListN.{length, set}
use Rattle.model.specs.Table.{Point}
use Rattle.model.specs.Values.{read_value}
use Rattle.model.specs.Counters.{point_at}
use Rattle.model.specs.Sampling.{value_word, unknown_word, guard_true, reading}
use Rattle.model.specs.Format.{byte, point_record, guard_from, accepted, table_of}
use Rattle.model.specs.Raw.{record_count, records_place, count_place}
use Rattle.model.specs.Register.{point_total, in_widths}
use Rattle.model.proofs.Booleans.{and_left}
use Rattle.model.proofs.Limits.{all_from}
use Rattle.model.proofs.Lists.{map_same, from_step, from_end}
use Rattle.model.proofs.Sections.{accepted_decodes}
use Rattle.model.proofs.RawExact.{many_points, few_points}
use Rattle.ranges.specs.Types.{typed}
use Rattle.arrays.specs.Put.{put}
use Rattle.arrays.specs.Flat.{reading_code, reading_codes}
use Rattle.arrays.specs.declared.reading.Reading as code
use Rattle.arrays.specs.declared.reading.Reading.TheVariants.{Skipped, Unknown, Known}
use Rattle.arrays.proofs.PutLaws.{put-nil, put-cons}
use Rattle.values.proofs.PointExact.{point_raw}
use Rattle.values.proofs.Ready.{wide}
use Rattle.points.specs.Readings.{reading_of, code_at, codes_from, Read}
use Rattle.layout.specs.Places.{layout_of}

-- ---- one reading

module _ (s w : List ℕ) (at p g : ℕ) (y : Bool) (eg : g ≡ byte s (at + 2)) (ey : y ≡ guard_true w (guard_from g)) where
  guard_is : (b : Bool) → y ≡ b → guard_true w (point_record s at).guard ≡ b
  guard_is b e = ap (λ (k : ℕ). guard_true w (guard_from k)) (sym eg) ∙ sym ey ∙ e

  pub code_skipped : not y ≡ true → Skipped ≡ code_at s w at p
  unfolding code_at
  code_skipped e = rw (guard_is false (not-true y e))

  module _ (u : ℕ) (eu : u ≡ unknown_word w p) (e : not y ≡ false) where
    pub code_unknown : (u ≡ 0 → ⊥) → Unknown ≡ code_at s w at p
    unfolding code_at
    code_unknown z = rw (guard_is true (not-false y e), ne_eqb (unknown_word w p) 0 (λ h. z (eu ∙ h)))

    pub code-known : (x width sign r : ℕ) → u ≡ 0 → x ≡ value_word w p → width ≡ byte s at → sign ≡ byte s (at + 1) → r ≡ read_value (typed width (eqb sign 1)) x → Known r ≡ code_at s w at p
    unfolding code_at
    code-known x width sign r z ex ew es er = rw (guard_is true (not-false y e), eq-eqb (unknown_word w p) 0 (sym eu ∙ z)) (ap Known (er ∙ rw (ex, ew, es)))

pub ruleset codes = (rules, code_skipped, code_unknown, code-known)

-- ---- all readings

module _ (s w : List ℕ) (at n i : ℕ) where
  pub codes_turn : (r : code.Reading) (l : List code.Reading) → i < n → i < length l → r ≡ code_at s w (at + 11 * i) i → put (i + 1) (codes_from s w at (i + 1) (n - (i + 1))) (set l i r) ≡ put i (codes_from s w at i (n - i)) l
  unfolding codes_from
  codes_turn r l h k e =
      put-cons i r (codes_from s w at (i + 1) (n - (i + 1))) l k
      ∙ ap (λ (z : List code.Reading). put i z l) (ap (◌∷ codes_from s w at (i + 1) (n - (i + 1))) e ∙ sym (ap (map (λ p. code_at s w (at + 11 * p) p)) (from_step i n h)))

  pub codes_end : (l : List code.Reading) → n ≤ i → put i (codes_from s w at i (n - i)) l ≡ l
  unfolding codes_from
  codes_end l h = ap (λ (z : List ℕ). put i (map (λ p. code_at s w (at + 11 * p) p) z) l) (from_end i n h) ∙ put-nil i l

module _ (s w : List ℕ) (ok : accepted s ≡ true) where
  -- the point's record says what the point is
  pub same_point : (p : ℕ) → p < point_total (table_of s) → point_at (table_of s) p ≡ point_record s (records_place s 0 + 11 * p)
  same_point p h = point_raw s (table_of s) (accepted_decodes s ok) p h

  pub reading_raw : (p : ℕ) → p < point_total (table_of s) → reading (table_of s) w p ≡ reading_of (point_record s (records_place s 0 + 11 * p)) w p
  unfolding reading
  reading_raw p h = ap (λ (x : Point). reading_of x w p) (same_point p h)

  pub codes_exact : reading_codes (table_of s) w ≡ codes_from s w (records_place s 0) 0 (record_count s 0)
  unfolding reading_codes codes_from code_at
  codes_exact =
      map_same (λ p. reading_code (reading (table_of s) w p)) (λ p. code_at s w (records_place s 0 + 11 * p) p) 0 (point_total (table_of s)) (λ p a b. ap reading_code (reading_raw p (omega arith)))
      ∙ ap (λ (n : ℕ). codes_from s w (records_place s 0) 0 n) (many_points s ok)

  pub value_in : in_widths (table_of s) w ≡ true → (p : ℕ) → p < point_total (table_of s) → value_word w p < 2 ^ (point_at (table_of s) p).width
  unfolding in_widths
  value_in e p h =
      let t = table_of s in
      ltb-true (value_word w p) (2 ^ (point_at t p).width)
      (and_left (ltb (value_word w p) (2 ^ (point_at t p).width)) (ltb (unknown_word w p) (2 ^ (point_at t p).width))
      (all_from (λ p. ltb (value_word w p) (2 ^ (point_at t p).width) && ltb (unknown_word w p) (2 ^ (point_at t p).width)) 0 (point_total t) e p (omega arith) (omega arith)))

  pub all_read : in_widths (table_of s) w ≡ true → Read s w (records_place s 0) (record_count s 0)
  all_read e = record {
    wide = λ p h. wide s (table_of s) (accepted_decodes s ok) p (omega (arith, many_points s ok));
    within = λ p h.
        let k : p < point_total (table_of s) = omega (arith, many_points s ok) in
        subst (λ (x : Point). value_word w p < 2 ^ x.width) (same_point p k) (value_in e p k);
  }

  -- the points' records are the first of the table
  module _ (n : ℕ) (e : n ≡ (layout_of s).point_count) where
    counted : n ≡ record_count s 0
    unfolding layout_of
    counted = e

    pub read-ready : in_widths (table_of s) w ≡ true → (n ≤ 16) × Read s w 2 n
    unfolding records_place count_place
    read-ready h = (omega (arith, many_points s ok, few_points s ok, counted), subst (Read s w 2) (sym counted) (all_read h))

    pub read-codes : codes_from s w 2 0 n ≡ reading_codes (table_of s) w
    unfolding records_place count_place
    read-codes = ap (codes_from s w 2 0) counted ∙ sym codes_exact
