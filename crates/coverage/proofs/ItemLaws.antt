-- Weights and at-leasts of an accepted table's items, and loops over the items.
-- Assumes nothing.
use mathlib.Core.Path.{◌≡◌, refl, ap, sym, ◌∙◌}
use mathlib.Core.Bool.{Bool, true, false, cond}
use mathlib.Core.List.{List}
use Prim.Native.Nat.{ℕ, ◌+◌, ◌-◌, ◌*◌, ◌≤◌, ◌<◌, zero, suc}
use native.Mathlib.Omega.{arith}
use lib.Dec.{ltb}
use lib.ListN.{length, get_or, get_or-append, length-map, get_or-eq_default}
use borrow.Author.Tests.{ltb-true, ltb-false}
use Rattle.model.specs.Lists.{up_from}
use Rattle.model.specs.Table.{Point, Cross, Table, no_point, no_cross}
use Rattle.model.specs.Figures.{item_count, at_least, weight}
use Rattle.model.specs.Format.{u16, u32, point_record, accepted, table_of}
use Rattle.model.specs.Raw.{record_count, records_place, points_at, crosses_at, raw_table}
use Rattle.model.proofs.RawLaws.{length-rows, get_d_rows}
use Rattle.model.proofs.RawExact.{accepted_raw, many_points, many_crosses, few_points, few_crosses}
use Rattle.model.proofs.Lists.{length-up_from, get_d-row}
use Rattle.model.proofs.RawCrosses.{length-crosses}
use Rattle.arrays.specs.Put.{put}
use Rattle.arrays.proofs.PutLaws.{put-zero}
use Rattle.coverage.specs.Items.{RecordsOf, least_at, weight_at, leasts_of}
use Rattle.coverage.specs.declared.records.ItemRecords.{ItemRecords}

-- ---- records

module _ (s : List ℕ) where
  cross_at : (c b k m i : ℕ) → i < m
      → ((get_or (crosses_at s c b k m) i no_cross).at_least ≡ u32 s (c + 13 * i + 8)) × ((get_or (crosses_at s c b k m) i no_cross).weight ≡ u16 s (c + 13 * i + 6))
  unfolding crosses_at
  cross_at c b k zero i h = absurd (omega arith)
  cross_at c b k (suc m) zero h =
      let e : c ≡ c + 13 * 0 = omega arith in
      (ap (λ (x : ℕ). u32 s (x + 8)) e, ap (λ (x : ℕ). u16 s (x + 6)) e)
  cross_at c b k (suc m) (suc i) h =
      let e : c + 13 + 13 * i ≡ c + 13 * suc i = omega arith in
      let r = cross_at (c + 13) _ _ m i (omega arith) in
      (r.0 ∙ ap (λ (x : ℕ). u32 s (x + 8)) e, r.1 ∙ ap (λ (x : ℕ). u16 s (x + 6)) e)

  cross_past : (c b k m i : ℕ) → m ≤ i → get_or (crosses_at s c b k m) i no_cross ≡ no_cross
  cross_past c b k m i h = get_or-eq_default (crosses_at s c b k m) no_cross {n = i} (omega (arith, length-crosses s c b k m))

  module _ (p n c b k m i : ℕ) where
    abbrev points : List Point
    points = points_at s p n

    abbrev crosses : List Cross
    crosses = crosses_at s c b k m

    least-raw : least_at s p n c m i ≡ cond (ltb i (length points)) (get_or points i no_point).at_least (get_or crosses (i - length points) no_cross).at_least
    unfolding least_at
    least-raw = rw (length-rows (point_record s) 11 p n) (go (ltb i n) refl)
      where
        at-cross : (q : Bool) → ltb (i - n) m ≡ q → cond q (u32 s (c + 13 * (i - n) + 8)) 1 ≡ (get_or crosses (i - n) no_cross).at_least
        at-cross true e = sym (cross_at c b k m (i - n) (ltb-true (i - n) m e)).0
        at-cross false e = sym (ap (λ (x : Cross). x.at_least) (cross_past c b k m (i - n) (ltb-false (i - n) m e)))

        go : (q : Bool) → ltb i n ≡ q
            → cond q (u32 s (p + 11 * i + 5)) (cond (ltb (i - n) m) (u32 s (c + 13 * (i - n) + 8)) 1) ≡ cond q (get_or points i no_point).at_least (get_or crosses (i - n) no_cross).at_least
        go true e = sym (ap (λ (x : Point). x.at_least) (get_d_rows (point_record s) 11 p n i no_point (ltb-true i n e)))
        go false e = at-cross (ltb (i - n) m) refl

    weight-raw : weight_at s p n c m i ≡ cond (ltb i (length points)) (get_or points i no_point).weight (get_or crosses (i - length points) no_cross).weight
    unfolding weight_at
    weight-raw = rw (length-rows (point_record s) 11 p n) (go (ltb i n) refl)
      where
        at-cross : (q : Bool) → ltb (i - n) m ≡ q → cond q (u16 s (c + 13 * (i - n) + 6)) 0 ≡ (get_or crosses (i - n) no_cross).weight
        at-cross true e = sym (cross_at c b k m (i - n) (ltb-true (i - n) m e)).1
        at-cross false e = sym (ap (λ (x : Cross). x.weight) (cross_past c b k m (i - n) (ltb-false (i - n) m e)))

        go : (q : Bool) → ltb i n ≡ q
            → cond q (u16 s (p + 11 * i + 3)) (cond (ltb (i - n) m) (u16 s (c + 13 * (i - n) + 6)) 0) ≡ cond q (get_or points i no_point).weight (get_or crosses (i - n) no_cross).weight
        go true e = sym (ap (λ (x : Point). x.weight) (get_d_rows (point_record s) 11 p n i no_point (ltb-true i n e)))
        go false e = at-cross (ltb (i - n) m) refl

-- ---- an accepted table

module _ (s : List ℕ) (ok : accepted s ≡ true) where
  pub items_few : item_count (table_of s) ≤ 24
  items_few = omega (arith, few_points s ok, few_crosses s ok)

  least_exact : (i : ℕ) → least_at s (records_place s 0) (record_count s 0) (records_place s 7) (record_count s 7) i ≡ at_least (table_of s) i
  unfolding raw_table
  least_exact i =
      least-raw s (records_place s 0) (record_count s 0) (records_place s 7) (records_place s 8) (records_place s 9) (record_count s 7) i ∙ ap (λ (t : Table). at_least t i) (sym (accepted_raw s ok))

  weight_exact : (i : ℕ) → weight_at s (records_place s 0) (record_count s 0) (records_place s 7) (record_count s 7) i ≡ weight (table_of s) i
  unfolding raw_table
  weight_exact i =
      weight-raw s (records_place s 0) (record_count s 0) (records_place s 7) (records_place s 8) (records_place s 9) (record_count s 7) i ∙ ap (λ (t : Table). weight t i) (sym (accepted_raw s ok))

  counted : record_count s 0 + record_count s 7 ≡ item_count (table_of s)
  counted = omega (arith, many_points s ok, many_crosses s ok)

  -- the same by the records of the table
  module _ (r : ItemRecords) (own : RecordsOf s r) where
    pub least-own : (i : ℕ) → least_at s r.points r.point_count r.crosses r.cross_count i ≡ at_least (table_of s) i
    least-own i = rw (own.points, own.point_count, own.crosses, own.cross_count) (least_exact i)

    pub weight-own : (i : ℕ) → weight_at s r.points r.point_count r.crosses r.cross_count i ≡ weight (table_of s) i
    weight-own i = rw (own.points, own.point_count, own.crosses, own.cross_count) (weight_exact i)

    pub own-count : r.point_count + r.cross_count ≡ item_count (table_of s)
    own-count = rw (own.point_count, own.cross_count) counted

-- the at-least stands at the item's number
pub least-there : (t : Table) (l l' : List ℕ) → l' ≡ put 0 (leasts_of t) l → (j : ℕ) → j < item_count t → get_or l' j 0 ≡ at_least t j
unfolding leasts_of
least-there t l l' e j h =
    let n = length-map (up_from 0 (item_count t)) (at_least t) in
    let m = length-up_from 0 (item_count t) in
    let z : 0 + j ≡ j = omega arith in
    ap (λ (x : List ℕ). get_or x j 0) (e ∙ put-zero (leasts_of t) l)
    ∙ get_or-append (leasts_of t) _ 0 j (omega arith)
    ∙ get_d-row (at_least t) 0 (item_count t) j 0 h
    ∙ ap (at_least t) z
