-- A point's rows: what was found of it, and the places of its bins.
-- Assumes nothing.
use mathlib.Core.Path.{◌≡◌, refl, sym, ap, ◌∙◌}
use mathlib.Core.Bool.{true}
use mathlib.Core.List.{List, [], ◌∷◌, ◌++◌}
use Prim.Native.Nat.{ℕ, suc, ◌+◌, ◌-◌, ◌*◌, ◌≤◌, ◌<◌}
use native.Mathlib.Omega.{arith}
use lib.ListN.{length, get_or, take, drop, length-drop}
use lib.Seq.{get_or-drop, drop-drop, take_all, take-take}
use borrow.Rule.Slice.PartMut.{put_mid}
use Rattle.model.specs.Table.{Table}
use Rattle.model.specs.Counters.{Counter, value_bin, default_bin, illegal_bin, transition, illegal_transition, cross_bin, illegal_cross, product, point_counters, cover_bins}
use Rattle.model.specs.Format.{accepted, table_of}
use Rattle.model.specs.Register.{point_total}
use Rattle.arrays.specs.Put.{put}
use Rattle.arrays.specs.Flat.{covers, point_start}
use Rattle.arrays.proofs.PutLaws.{part-back, put-zero, put-put, put_same, drop-put, length-put}
use Rattle.places.specs.Places.{places_from, is_plain, plain_places, PlaceRows, hit_parts, Found}
use Rattle.points.proofs.AllLaws.{few_here}
use Rattle.hits.specs.Places.{FoundOf, PlacesOf, PlainsOf}

-- ---- a list from one element on

tail-is : (k : ℕ) (a : List ℕ) → take (length a - k) (drop k a) ≡ drop k a
tail-is k a = take_all (length a - k) (drop k a) (omega (arith, length-drop k a))

pub tail-length : (k : ℕ) (a : List ℕ) → length (take (length a - k) (drop k a)) ≡ length a - k
tail-length k a = ap length (tail-is k a) ∙ length-drop k a

-- it was lent, and has come back with xs written at its start
module _ (a : ℕ) (xs l ys : List ℕ) (fit : a + length xs ≤ length l) (kept : length ys ≡ length (take (length l - a) (drop a l))) (e : ys ≡ put 0 xs (take (length l - a) (drop a l))) where
  past : drop (length xs) (take (length l - a) (drop a l)) ≡ take (length l - (a + length xs)) (drop (a + length xs) (put a xs l))
  past =
      ap (drop (length xs)) (tail-is a l) ∙ drop-drop (length xs) a l ∙ sym (drop-put a (length xs) xs l refl fit) ∙ sym (tail-is (a + length xs) (put a xs l))
      ∙ ap (λ (n : ℕ). take (n - (a + length xs)) (drop (a + length xs) (put a xs l))) (length-put a xs l fit)

  pub tail_back : put_mid a (length l - a) l ys ≡ put a xs l
  tail_back =
      let z : length l - a ≡ (a + (length l - a)) - a = omega arith in
      ap (λ (m : ℕ). put_mid a m l ys) z ∙ part-back a (length l - a) l ys (kept ∙ tail-length a l)
      ∙ ap (λ (x : List ℕ). put a x l) (e ∙ put-zero xs (take (length l - a) (drop a l)) ∙ ap (xs ++◌) past)
      ∙ sym (put-put a xs (take (length l - (a + length xs)) (drop (a + length xs) (put a xs l))) l fit)
      ∙ put_same (a + length xs) (length l - (a + length xs)) (put a xs l) (omega (arith, length-put a xs l fit))

-- ---- what was found

pub found-row : (t : Table) (w : List ℕ) (p : ℕ) (a : List ℕ) → Found t w a → p < point_total t → FoundOf t w p (take (length a - 257 * p) (drop (257 * p) a))
unfolding Found
found-row t w p a f h =
    record {
      count = ap (λ (l : List ℕ). get_or l 0 0) (tail-is (257 * p) a) ∙ get_or-drop (257 * p) a 0 0 ∙ ap (λ (x : ℕ). get_or a x 0) (let z : 257 * p + 0 ≡ 257 * p = omega arith in z) ∙ (f p h).count;
      parts = ap (λ (l : List ℕ). take (length (hit_parts t w p)) (drop 1 l)) (tail-is (257 * p) a) ∙ ap (take (length (hit_parts t w p))) (drop-drop 1 (257 * p) a) ∙ (f p h).parts;
    }

-- ---- the places

-- no counter is of a cover bin and of a plain bin
bins-apart : (n : ℕ) (cs : List Counter) → length (cover_bins cs) + length (places_from is_plain n cs) ≤ length cs
unfolding cover_bins places_from
bins-apart n [] = omega arith
bins-apart n (value_bin c ∷ cs) = omega (arith, bins-apart (suc n) cs)
bins-apart n (default_bin b ∷ cs) = omega (arith, bins-apart (suc n) cs)
bins-apart n (illegal_bin b ∷ cs) = omega (arith, bins-apart (suc n) cs)
bins-apart n (transition b ∷ cs) = omega (arith, bins-apart (suc n) cs)
bins-apart n (illegal_transition b ∷ cs) = omega (arith, bins-apart (suc n) cs)
bins-apart n (cross_bin c i ∷ cs) = omega (arith, bins-apart (suc n) cs)
bins-apart n (illegal_cross c i ∷ cs) = omega (arith, bins-apart (suc n) cs)
bins-apart n (product c ds ∷ cs) = omega (arith, bins-apart (suc n) cs)

-- the numbers at the start of a point's row
pub record Counted (t : Table) (p : ℕ) (a : List ℕ) : Type 0 where
  pub plains : get_or a (258 * p) 0 ≡ length (plain_places t p)
  pub parts : get_or a (258 * p + 1) 0 ≡ length (covers t p)
  pub few : length (covers t p) + length (plain_places t p) ≤ 256

pub counted : (s : List ℕ) → accepted s ≡ true → (p : ℕ) → p < point_total (table_of s) → (a : List ℕ) → PlaceRows (table_of s) a → Counted (table_of s) p a
unfolding PlaceRows covers plain_places
counted s ok p h a r =
    let t = table_of s in
    record {
      plains = ap (λ (x : ℕ). get_or a x 0) (let z : 258 * p ≡ 258 * p + 0 = omega arith in z) ∙ sym (get_or-drop (258 * p) a 0 0) ∙ (r p h).plains;
      parts = sym (get_or-drop (258 * p) a 1 0) ∙ (r p h).parts;
      few = omega (arith, bins-apart (point_start t p) (point_counters t p), few_here s ok p h);
    }

module _ (t : Table) (p : ℕ) (h : p < point_total t) (a : List ℕ) (r : PlaceRows t a) where
  pub covers_row : PlacesOf t p (take (length a - (258 * p + 2)) (drop (258 * p + 2) a))
  unfolding PlaceRows PlacesOf
  covers_row k i =
      ap (λ (l : List ℕ). get_or l k 0) (tail-is (258 * p + 2) a) ∙ get_or-drop (258 * p + 2) a k 0 ∙ ap (λ (x : ℕ). get_or a x 0) (let z : 258 * p + 2 + k ≡ 258 * p + (2 + k) = omega arith in z)
      ∙ sym (get_or-drop (258 * p) a (2 + k) 0) ∙ (r p h).of_covers k i

  pub plains_row : (c q : ℕ) → c ≡ length (covers t p) → q ≡ length (plain_places t p) → PlainsOf t p (take ((258 * p + 2 + c + q) - (258 * p + 2 + c)) (drop (258 * p + 2 + c) a))
  unfolding PlaceRows PlainsOf
  plains_row c q ec eq =
      let n = length (plain_places t p) in
      take-take n ((258 * p + 2 + c + q) - (258 * p + 2 + c)) (drop (258 * p + 2 + c) a) (omega arith)
      ∙ ap (λ (x : ℕ). take n (drop x a)) (let z : 258 * p + 2 + c ≡ 258 * p + (2 + length (covers t p)) = omega arith in z)
      ∙ ap (take n) (sym (drop-drop (2 + length (covers t p)) (258 * p) a))
      ∙ (r p h).of_plains
