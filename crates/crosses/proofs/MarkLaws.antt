-- Where the marks of each cross begin, how many there are, and what stands there.
-- Assumes nothing.
use mathlib.Core.Path.{◌≡◌, refl, sym, ap, ap₂, ◌∙◌, subst}
use mathlib.Core.Bool.{Bool, true, false}
use mathlib.Core.List.{List, ◌++◌}
use Prim.Native.Nat.{ℕ, zero, suc, ◌+◌, ◌*◌, ◌-◌, ◌≤◌, ◌<◌}
use native.Mathlib.Numerals.{add-one}
use native.Mathlib.Omega.{arith}
use lib.Dec.{leb, ltb}
use lib.ListN.{length, take, drop, length-append, length-drop, take-append-drop}
use lib.Seq.{length-take-le, take-append-le, drop-append-le, drop_at, take-take}
use borrow.Author.Tests.{leb-true, ltb-true, ltb-false}
use borrow.Rule.Slice.PartMut.{put_mid, mid_len}
use Rattle.model.specs.Lists.{up_from, all, concat_of}
use Rattle.model.specs.Table.{Table}
use Rattle.model.specs.Counters.{cross_counters, point_counters, product_count, within_limits}
use Rattle.model.specs.Format.{accepted, table_of}
use Rattle.model.proofs.Booleans.{and_right}
use Rattle.model.proofs.Limits.{all_from}
use Rattle.model.proofs.Sections.{acceptance, accepted_decodes}
use Rattle.model.proofs.Measure.{cross-length}
use Rattle.model.proofs.RawExact.{few_crosses}
use Rattle.arrays.specs.Flat.{all_cross_counters}
use Rattle.products.specs.Marks.{cross_marks}
use Rattle.crosses.specs.Marked.{mark_start, mark_total, Marked}

-- ---- lists

-- what stands in the first part of a list does not depend on the second
front_same : (a k : ℕ) (p y z : List ℕ) → a + k ≤ length p → take k (drop a (p ++ y)) ≡ take k (drop a (p ++ z))
front_same a k p y z h = front y ∙ sym (front z)
  where
    front : (x : List ℕ) → take k (drop a (p ++ x)) ≡ take k (drop a p)
    front x = ap (take k) (drop-append-le a p x (omega arith)) ∙ take-append-le k (drop a p) x (omega (arith, length-drop a p))

-- a part of k elements was lent: what stands before it, and in it
module _ (at k : ℕ) (xs ys : List ℕ) (fit : at ≤ length xs) where
  part_before : (a n : ℕ) → a + n ≤ at → take n (drop a (put_mid at k xs ys)) ≡ take n (drop a xs)
  part_before a n h =
      front_same a n (take at xs) (ys ++ drop k (drop at xs)) (drop at xs) (omega (arith, length-take-le at xs fit))
      ∙ ap (λ (l : List ℕ). take n (drop a l)) (take-append-drop at xs)

  part_in : (n : ℕ) → n ≤ length ys → take n (drop at (put_mid at k xs ys)) ≡ take n ys
  part_in n h =
      let rest = drop k (drop at xs) in
      ap (take n) (drop_at (take at xs) (ys ++ rest) at (length-take-le at xs fit)) ∙ take-append-le n ys rest h

-- ---- where the marks begin

module _ (t : Table) where
  pub start_none : 0 ≡ mark_start t 0
  unfolding mark_start
  start_none = refl

  pub start_next : (c : ℕ) → mark_start t (c + 1) ≡ mark_start t c + product_count t c
  unfolding mark_start
  start_next c = ap (mark_start t) (add-one c)

  -- those of a cross end where those of the next begin, or before
  pub start_before : (n c : ℕ) → c < n → mark_start t c + product_count t c ≤ mark_start t n
  unfolding mark_start
  start_before zero c h = absurd (let z : c < 0 = h in omega arith)
  start_before (suc n) c h = go (start_before n c) (ltb c n) refl
    where
      go : (c < n → mark_start t c + product_count t c ≤ mark_start t n) → (b : Bool) → ltb c n ≡ b → mark_start t c + product_count t c ≤ mark_start t n + product_count t n
      go f true e = omega (arith, f (ltb-true c n e))
      go f false e = let z : n ≡ c = omega (arith, ltb-false c n e) in subst (λ (x : ℕ). mark_start t c + product_count t c ≤ mark_start t x + product_count t x) (sym z) (omega arith)

  starts_few : (n i : ℕ) → mark_start t (i + n) ≤ mark_start t i + length (concat_of (cross_counters t) (up_from i n))
  unfolding mark_start concat_of up_from
  starts_few zero i = let z : i + 0 ≡ i = omega arith in omega (arith, ap (mark_start t) z)
  starts_few (suc n) i =
      let rest = concat_of (cross_counters t) (up_from (suc i) n) in
      let z : i + suc n ≡ suc i + n = omega arith in
      subst (λ (x : ℕ). mark_start t x ≤ mark_start t i + length (cross_counters t i ++ rest)) (sym z)
      (omega (arith, starts_few n (suc i), length-append (cross_counters t i) rest, cross-length t i))

  -- there are at most as many as counters of crosses
  pub marks_counters : mark_total t ≤ length (all_cross_counters t)
  unfolding all_cross_counters mark_start
  marks_counters =
      let n = length t.crosses in
      let z : 0 + n ≡ n = omega arith in
      subst (λ (x : ℕ). mark_start t x ≤ length (concat_of (cross_counters t) (up_from 0 n))) z (omega (arith, starts_few n 0))

  -- ---- cross after cross

  -- the array has the marks of the first n crosses
  abbrev pub MarkedTo : ℕ → List ℕ → Type 0
  MarkedTo n marks = (c : ℕ) → c < n → take (product_count t c) (drop (mark_start t c) marks) ≡ cross_marks t c

  pub marked_none : (marks : List ℕ) → MarkedTo 0 marks
  marked_none marks c h = absurd (let z : c < 0 = h in omega arith)

  pub marked_all : (n : ℕ) (marks : List ℕ) → length t.crosses ≤ n → MarkedTo n marks → Marked t marks
  unfolding Marked
  marked_all n marks h m c k = m c (omega arith)

-- the marks of cross c begin at `at`, and there are as many as `size` says
pub record Here (t : Table) (c at size : ℕ) : Type 0 where
  pub inside : c < length t.crosses
  pub start : at ≡ mark_start t c
  pub many : size ≡ product_count t c

module _ (t : Table) (c at size : ℕ) (here : Here t c at size) where
  pub at_next : at + size ≡ mark_start t (c + 1)
  at_next = omega (arith, start_next t c, here.start, here.many)

  pub marks_end : at + size ≤ mark_total t
  marks_end = omega (arith, start_before t (length t.crosses) c here.inside, here.start, here.many)

  module _ (xs : List ℕ) (room : mark_total t ≤ length xs) where
    pub marks-room : at + size ≤ length xs
    marks-room = omega (arith, marks_end)

    pub part_room : size ≤ length (take (length xs - at) (drop at xs))
    part_room = omega (arith, mid_len at (length xs) xs (omega arith), marks-room)

    -- they stand in the part that begins there
    pub marks-at : Marked t xs → take size (take (length xs - at) (drop at xs)) ≡ cross_marks t c
    unfolding Marked
    marks-at m =
        take-take size (length xs - at) (drop at xs) (omega (arith, marks-room))
        ∙ ap₂ (λ (k a : ℕ). take k (drop a xs)) here.many here.start
        ∙ m c here.inside

    -- they were written to that part
    pub marked_turn : (ys : List ℕ) → length ys ≡ length (take (length xs - at) (drop at xs)) → MarkedTo t c xs → take size ys ≡ cross_marks t c
        → MarkedTo t (c + 1) (put_mid at (length xs - at) xs ys)
    marked_turn ys e m w d k = go (ltb d c) refl
      where
        fit : at ≤ length xs
        fit = omega (arith, marks-room)

        go : (b : Bool) → ltb d c ≡ b → take (product_count t d) (drop (mark_start t d) (put_mid at (length xs - at) xs ys)) ≡ cross_marks t d
        go true q =
            let j = ltb-true d c q in
            part_before at (length xs - at) xs ys fit (mark_start t d) (product_count t d) (omega (arith, start_before t c d j, here.start)) ∙ m d j
        go false q =
            let z : d ≡ c = omega (arith, ltb-false d c q) in
            ap₂ (λ (n a : ℕ). take n (drop a (put_mid at (length xs - at) xs ys))) (ap (product_count t) z ∙ sym here.many) (ap (mark_start t) z ∙ sym here.start)
            ∙ part_in at (length xs - at) xs ys fit size (omega (arith, part_room))
            ∙ w
            ∙ ap (cross_marks t) (sym z)

-- ---- an accepted table

module _ (s : List ℕ) (ok : accepted s ≡ true) where
  abbrev T : Table
  T = table_of s

  products_few : (c : ℕ) → c < length (table_of s).crosses → product_count (table_of s) c ≤ 1024
  unfolding within_limits
  products_few c h =
      let points = all (λ p. leb (length (point_counters T p)) 256) (up_from 0 (length T.points)) in
      let crosses = all (λ c. leb (product_count T c) 1024) (up_from 0 (length T.crosses)) in
      leb-true (product_count T c) 1024 (all_from (λ c. leb (product_count T c) 1024) 0 (length T.crosses) (and_right points crosses (acceptance s T (accepted_decodes s ok)).limited) c (omega arith) (omega arith))

  start_few : (c : ℕ) → c ≤ length (table_of s).crosses → mark_start (table_of s) c ≤ 1024 * c
  unfolding mark_start
  start_few zero h = omega arith
  start_few (suc c) h = omega (arith, start_few c (omega arith), products_few c (omega arith))

  -- eight crosses of at most 1,024 products
  pub marks_few : mark_total (table_of s) ≤ 8192
  marks_few = omega (arith, start_few (length T.crosses) (omega arith), few_crosses s ok)

  pub marks_small : (c at size : ℕ) → Here (table_of s) c at size → at + size ≤ 8192
  marks_small c at size here = omega (arith, marks_end T c at size here, marks_few)
