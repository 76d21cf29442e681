-- All points: what the plan and the lists have of each, and its row of 257 elements, written after those of the points before.
-- Assumes nothing.
use mathlib.Core.Path.{◌≡◌, refl, sym, ap, ◌∙◌, subst}
use mathlib.Core.Bool.{Bool, true, false}
use mathlib.Core.List.{List, ◌∷◌, ◌++◌}
use Prim.Native.Nat.{ℕ, ◌+◌, ◌-◌, ◌*◌, ◌/◌, ◌≤◌, ◌<◌}
use native.Mathlib.Omega.{arith}
use lib.Dec.{ltb}
use lib.ListN.{length, get_or, set, take, drop, length-take, length-drop, length-set, length-append, take-append-drop}
use lib.Seq.{get_or-take, get_or-drop, drop-drop, length-take-le, drop-append-le, take-append-le, take_all}
use borrow.Author.Tests.{ltb-true, ltb-false}
use borrow.Rule.Slice.PartMut.{put_mid}
use Rattle.model.specs.Table.{Table}
use Rattle.model.specs.Sampling.{reading}
use Rattle.model.specs.Raw.{records_place}
use Rattle.model.specs.Register.{point_total}
use Rattle.model.proofs.Lists.{get_d-row}
use Rattle.layout.specs.Places.{layout_of, bin_sections_of}
use Rattle.layout.specs.declared.BinSections.{BinSections}
use Rattle.arrays.specs.Put.{put}
use Rattle.arrays.specs.Flat.{covers, Origins, reading_code, reading_codes, Readings}
use Rattle.arrays.specs.declared.reading.Reading as code
use Rattle.arrays.specs.declared.reading.Reading.TheVariants.{Skipped}
use Rattle.arrays.proofs.PutLaws.{part-back, put-zero, put-put, put_same, put-cons, put_in, put-before, part-put, drop-put, length-put}
use Rattle.parts.specs.Words.{plan_rows_at}
use Rattle.parts.specs.Point.{RowsOf}
use Rattle.meets.specs.Plan.{segment, PointPlan}
use Rattle.places.specs.Places.{hit_parts, FoundAt}
use Rattle.found.specs.Found.{OriginsAt}

-- ---- what a point has

-- the lists from its origins on
pub origins-at : (t : Table) (p : ℕ) (a : List ℕ) → p < point_total t → length (covers t p) ≤ 256 → 64 + 256 * point_total t ≤ length a → Origins t (drop 64 a)
    → OriginsAt t p (take (length a - (64 + 256 * p)) (drop (64 + 256 * p) a))
unfolding Origins OriginsAt
origins-at t p a h few room o k i =
    get_or-take (length a - (64 + 256 * p)) (drop (64 + 256 * p) a) k 0 (omega arith)
    ∙ get_or-drop (64 + 256 * p) a k 0
    ∙ ap (λ (x : ℕ). get_or a x 0) (let z : 64 + 256 * p + k ≡ 64 + (256 * p + k) = omega arith in z)
    ∙ sym (get_or-drop 64 a (256 * p + k) 0)
    ∙ o p k h i

-- its segment of rows
pub rows_of_lem : (t : Table) (p : ℕ) (w : List ℕ) (from mid cuts to : ℕ) → PointPlan t p w from mid cuts to → RowsOf t p (plan_rows_at (segment w from mid) 0 (length (segment w from mid) / 7)) (length (covers t p))
rows_of_lem t p w from mid cuts to o =
    let long : length (take (mid - from) (drop from w)) ≡ mid - from = simp (length-take, length-drop) (omega (arith, o.order, o.order₁, o.order₂, o.order₃)) in
    subst (λ (n : ℕ). RowsOf t p (plan_rows_at (segment w from mid) 0 (n / 7)) (length (covers t p))) (sym long) o.rows_of

-- its reading
pub code_at : (t : Table) (w : List ℕ) (a : List code.Reading) (p : ℕ) → Readings t w a → p < point_total t → get_or a p Skipped ≡ reading_code (reading t w p)
unfolding reading_codes
code_at t w a p e h =
    sym (get_or-take (point_total t) a p Skipped h) ∙ ap (λ (x : List code.Reading). get_or x p Skipped) e.codes
    ∙ get_d-row (λ q. reading_code (reading t w q)) 0 (point_total t) p Skipped h ∙ ap (λ (q : ℕ). reading_code (reading t w q)) (let z : 0 + p ≡ p = omega arith in z)

pub bins-place : (s : List ℕ) (l : BinSections) → l ≡ bin_sections_of s → l.bins ≡ records_place s 1
unfolding layout_of
bins-place s l e = ap (λ (x : BinSections). x.bins) e

-- ---- its row

pub row_room : (p n : ℕ) (l : List ℕ) → p < n → 257 * n ≤ length l → 257 ≤ length (take (length l - 257 * p) (drop (257 * p) l))
row_room p n l h k = simp (length-take, length-drop) (omega arith)

-- the list from a on was lent, and has come back with xs written at its start
module _ (a : ℕ) (xs l ys : List ℕ) (fit : a + length xs ≤ length l) (kept : length ys ≡ length (take (length l - a) (drop a l))) (e : ys ≡ put 0 xs (take (length l - a) (drop a l))) where
  long : length ys ≡ length l - a
  long = kept ∙ simp (length-take, length-drop) (omega arith)

  -- what was lent, past xs
  rest : drop (length xs) (take (length l - a) (drop a l)) ≡ take (length l - (a + length xs)) (drop (a + length xs) (put a xs l))
  rest =
      let n : length (drop a l) ≡ length l - a = length-drop a l in
      let m : length (drop (a + length xs) (put a xs l)) ≡ length l - (a + length xs) = length-drop (a + length xs) (put a xs l) ∙ ap (◌- (a + length xs)) (length-put a xs l fit) in
      ap (drop (length xs)) (take_all (length l - a) (drop a l) (omega arith))
      ∙ drop-drop (length xs) a l
      ∙ sym (drop-put a (length xs) xs l refl fit)
      ∙ sym (take_all (length l - (a + length xs)) (drop (a + length xs) (put a xs l)) (omega arith))

  pub row_back : put_mid a (length l - a) l ys ≡ put a xs l
  row_back =
      let z : length l - a ≡ (a + (length l - a)) - a = omega arith in
      ap (λ (m : ℕ). put_mid a m l ys) z ∙ part-back a (length l - a) l ys long
      ∙ ap (λ (x : List ℕ). put a x l) (e ∙ put-zero xs (take (length l - a) (drop a l)) ∙ ap (xs ++◌) rest)
      ∙ sym (put-put a xs (take (length l - (a + length xs)) (drop (a + length xs) (put a xs l))) l fit)
      ∙ put_same (a + length xs) (length l - (a + length xs)) (put a xs l) (omega (arith, length-put a xs l fit))

-- ---- the rows of the first n points

abbrev pub FoundTo : Table → List ℕ → ℕ → List ℕ → Type 0
FoundTo t s n a = (p : ℕ) → p < n → FoundAt t s a p

-- what was written further on left a part as it was
part-kept : (n : ℕ) (xs l : List ℕ) (a k : ℕ) → n ≤ length l → a + k ≤ n → take k (drop a (put n xs l)) ≡ take k (drop a l)
unfolding put
part-kept n xs l a k fit h =
    let e = length-take-le n l fit in
    front (take n l ++ xs) (drop (n + length xs) l) (omega (arith, length-append (take n l) xs)) ∙ front (take n l) xs (omega arith)
    ∙ sym (front (take n l) (drop n l) (omega arith)) ∙ ap (λ (x : List ℕ). take k (drop a x)) (take-append-drop n l)
  where
    front : (x y : List ℕ) → a + k ≤ length x → take k (drop a (x ++ y)) ≡ take k (drop a x)
    front x y i = ap (take k) (drop-append-le a x y (omega arith)) ∙ take-append-le k (drop a x) y (omega (arith, length-drop a x))

module _ (t : Table) (s : List ℕ) (n : ℕ) (a : List ℕ) (room : 257 * n + 257 ≤ length a) (few : (p : ℕ) → p < n + 1 → length (hit_parts t s p) ≤ 256) where
  row : List ℕ
  row = length (hit_parts t s n) ∷ hit_parts t s n

  b : List ℕ
  b = put (257 * n) row a

  earlier : (p : ℕ) → p < n → FoundAt t s a p → FoundAt t s b p
  unfolding b
  earlier p h o =
      record {
        count = put-before (257 * n) row a (257 * p) 0 (omega arith) (omega arith) ∙ o.count;
        parts = part-kept (257 * n) row a (257 * p + 1) (length (hit_parts t s p)) (omega arith) (omega (arith, few p (omega arith))) ∙ o.parts;
      }

  this : FoundAt t s b n
  unfolding b row
  this =
      let k = few n (omega arith) in
      let z : 257 * n ≡ 257 * n + 0 = omega arith in
      record {
        count = ap (λ (x : ℕ). get_or b x 0) z ∙ put_in (257 * n) row a 0 0 (omega arith) (omega arith);
        parts = ap (λ (l : List ℕ). take (length (hit_parts t s n)) (drop (257 * n + 1) l)) (sym (put-cons (257 * n) (length (hit_parts t s n)) (hit_parts t s n) a (omega arith))) ∙ part-put (257 * n + 1) (length (hit_parts t s n)) (hit_parts t s n) (set a (257 * n) (length (hit_parts t s n))) refl (simp length-set (omega arith));
      }

  pub found_turn : (c : List ℕ) → c ≡ put (257 * n) (length (hit_parts t s n) ∷ hit_parts t s n) a → FoundTo t s n a → FoundTo t s (n + 1) c
  unfolding b row
  found_turn c e done p h = go (ltb p n) refl
    where
      go : (x : Bool) → ltb p n ≡ x → FoundAt t s c p
      go true y = subst (λ (l : List ℕ). FoundAt t s l p) (sym e) (earlier p (ltb-true p n y) (done p (ltb-true p n y)))
      go false y =
          let same : n ≡ p = omega (arith, ltb-false p n y) in
          subst (λ (l : List ℕ). FoundAt t s l p) (sym e) (subst (FoundAt t s b) same this)
