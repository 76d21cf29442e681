-- One look at each piece answers which parts still hold a value from lo to hi.
-- Assumes nothing.
use mathlib.Core.Path.{◌≡◌, refl, sym, ap, ap₂, ◌∙◌}
use mathlib.Core.Bool.{Bool, true, false, not, ◌&&◌, ◌||◌, cond}
use mathlib.Core.List.{List, [], ◌∷◌}
use Prim.Native.Nat.{ℕ, suc, ◌+◌, ◌-◌, ◌/◌, ◌^◌, ◌≤◌, ◌<◌}
use native.Mathlib.Omega.{arith}
use lib.Dec.{leb, eqb}
use lib.ListN.{length, get_or, take, drop, length-take, length-drop}
use lib.Pow.{pow_pos}
use borrow.Rule.Slice.PartMut.{put_mid}
use borrow.Author.Tests.{leb-true, leb-false, le-leb, eqb-true, eq-eqb, not-true}
use Rattle.model.specs.Lists.{up_from, any, one_of, as_bit}
use Rattle.model.specs.Table.{Range, span, pattern, Table}
use Rattle.model.specs.Values.{lowest, highest, values, in_type, in_range}
use Rattle.model.specs.Counters.{CoverBin, no_cover_bin, point_at, point_of, excluded_value, holds, meets, has_value}
use Rattle.model.proofs.Booleans.{false-true, and_left, and_right, or_right, bool_eq}
use Rattle.model.proofs.Readers.{All}
use Rattle.model.proofs.Lists.{map_numbers, length-row}
use Rattle.model.proofs.Searches.{any-from-some, some-any-from}
use Rattle.arrays.specs.Put.{put}
use Rattle.arrays.specs.Flat.{covers}
use Rattle.arrays.proofs.PutLaws.{part-back}
use Rattle.spans.specs.Point.{SpansOf, free_value}
use Rattle.meets.specs.Pieces.{Piece, piece_holds, part_holds, pieces_at, Begins, PiecesOf, met_bit, met_bits}
use Rattle.meets.specs.Met.{left_in, pattern_met, is_met, met_parts, met_flags, Asked}
use Rattle.meets.proofs.FreeLaws.{Finds, finds_of}

-- one that passes the test, with its property; what is true of it is true of one of the list
some_in : {A : Type 0} (P : A → Type 0) (g : A → Bool) (xs : List A) → All P xs → any g xs ≡ true → (x : A) × P x × (g x ≡ true) × ((h : A → Bool) → h x ≡ true → any h xs ≡ true)
unfolding any
some_in P g [] ps e = absurd (false-true e)
some_in P g (x ∷ xs) ps e = go (g x) refl e (some_in P g xs ps.1)
  where
    go : (b : Bool) → g x ≡ b → (b || any g xs) ≡ true → (any g xs ≡ true → (y : _) × P y × (g y ≡ true) × ((h : _ → Bool) → h y ≡ true → any h xs ≡ true))
        → (y : _) × P y × (g y ≡ true) × ((h : _ → Bool) → h y ≡ true → (h x || any h xs) ≡ true)
    go true e₁ e₂ k = (x, ps.0, e₁, λ h e₃. ap (◌|| any h xs) e₃)
    go false e₁ e₂ k = let s = k e₂ in (s.0, s.1, s.2, λ h e₃. or_right (h x) (any h xs) (s.3 h e₃))

-- the piece is of part k, and met
abbrev met_piece : (ℕ → ℕ) → ℕ → ℕ → ℕ → Piece → Bool
met_piece f lo hi k q = eqb q.part k && is_met f lo hi q.range

met-any : (f : ℕ → ℕ) (lo hi k : ℕ) (qs : List Piece) → one_of k (met_parts f lo hi qs) ≡ any (met_piece f lo hi k) qs
unfolding met_parts any
met-any f lo hi k [] = unfold one_of in refl
met-any f lo hi k (q ∷ qs) = one (is_met f lo hi q.range) (met-any f lo hi k qs)
  where
    flip : (x y : ℕ) → eqb x y ≡ (eqb y x && true)
    flip x y = bool_eq (eqb x y) (eqb y x && true) (λ e. ap (◌&& true) (eq-eqb y x (sym (eqb-true x y e)))) (λ e. eq-eqb x y (sym (eqb-true y x (and_left (eqb y x) true e))))

    never : (b : Bool) → (b && false) ≡ false
    never true = refl
    never false = refl

    one : (b : Bool) → one_of k (met_parts f lo hi qs) ≡ any (met_piece f lo hi k) qs → one_of k (cond b (q.part ∷ met_parts f lo hi qs) (met_parts f lo hi qs)) ≡ ((eqb q.part k && b) || any (met_piece f lo hi k) qs)
    one true e = unfold one_of in (ap₂ ◌||◌ (flip k q.part) e)
    one false e = e ∙ sym (ap (◌|| any (met_piece f lo hi k) qs) (never (eqb q.part k)))

module _ (t : Table) (p : ℕ) (f : ℕ → ℕ) (finds : Finds (lowest (point_at t p)) (highest (point_at t p)) (excluded_value t p) f) (lo hi : ℕ) (above : lowest (point_at t p) ≤ lo) (under : hi ≤ highest (point_at t p)) where
  low : ℕ
  low = lowest (point_at t p)

  typed : (v : ℕ) → lo ≤ v → v ≤ hi → in_type (point_at t p) v ≡ true
  typed v l u = ap₂ ◌&&◌ (le-leb (lowest (point_at t p)) v (omega arith)) (le-leb v (highest (point_at t p)) (omega arith))

  -- a piece that is met holds a value that is left
  abbrev Witness : Range → Type 0
  Witness R = (v : ℕ) × (lo ≤ v) × (v ≤ hi) × (in_range R v ≡ true) × (excluded_value t p v ≡ false)

  met_witness : (R : Range) → Begins t p R → is_met f lo hi R ≡ true → Witness R
  met_witness (span a b) s e = go (leb a (f lo)) refl
    where
      both : (leb a hi && leb (f lo) b) ≡ true
      both = and_left (leb a hi && leb (f lo) b) (leb (f lo) hi) e

      h₁ : a ≤ hi
      h₁ = leb-true a hi (and_left (leb a hi) (leb (f lo) b) both)

      h₂ : f lo ≤ b
      h₂ = leb-true (f lo) b (and_right (leb a hi) (leb (f lo) b) both)

      h₃ : f lo ≤ hi
      h₃ = leb-true (f lo) hi (and_right (leb a hi && leb (f lo) b) (leb (f lo) hi) e)

      go : (c : Bool) → leb a (f lo) ≡ c → Witness (span a b)
      go true q = (f lo, finds.from lo above, h₃, ap₂ ◌&&◌ q (le-leb (f lo) b h₂), finds.left lo above (omega (arith, h₃)))
      go false q = (a, omega (arith, finds.from lo above, leb-false a (f lo) q), h₁, ap₂ ◌&&◌ (le-leb a a (omega arith)) (le-leb a b s.2), s.1)
  met_witness (pattern bits mask) s e =
      let found = any-from-some (left_in f bits mask) lo (suc hi - lo) (unfold pattern_met in e) in
      let v = found.0 in
      let fit = and_left (in_range (pattern bits mask) v) (eqb (f v) v) found.3 in
      let still = eqb-true (f v) v (and_right (in_range (pattern bits mask) v) (eqb (f v) v) found.3) in
      let top : v ≤ hi = omega (arith, found.1, found.2) in
      (v, found.1, top, fit, sym (ap (excluded_value t p) still) ∙ finds.left v (omega (arith, found.1)) (omega arith))

  -- and a piece that holds one is met
  witness_met : (R : Range) → Witness R → is_met f lo hi R ≡ true
  witness_met (span a b) w =
      let v = w.0 in
      let l = leb-true a v (and_left (leb a v) (leb v b) w.3) in
      let u = leb-true v b (and_right (leb a v) (leb v b) w.3) in
      let m : f lo ≤ v = finds.below lo v above w.1 (omega (arith, w.2)) w.4 in
      ap₂ ◌&&◌ (ap₂ ◌&&◌ (le-leb a hi (omega (arith, w.2))) (le-leb (f lo) b (omega arith))) (le-leb (f lo) hi (omega (arith, w.2)))
  witness_met (pattern bits mask) w =
      let v = w.0 in
      let m : f v ≤ v = finds.below v v (omega (arith, w.1)) (omega arith) (omega (arith, w.2)) w.4 in
      unfold pattern_met in (some-any-from (left_in f bits mask) lo (suc hi - lo) v w.1 (omega (arith, w.1, w.2)) (ap₂ ◌&&◌ w.3 (eq-eqb (f v) v (omega (arith, finds.from v (omega (arith, w.1)))))))

  module _ (qs : List Piece) (o : PiecesOf t p qs) (k : ℕ) (few : k < length (covers t p)) where
    bin : CoverBin
    bin = get_or (covers t p) k no_cover_bin

    part-met : one_of k (met_parts f lo hi qs) ≡ meets t (get_or (covers t p) k no_cover_bin) lo hi
    unfolding meets part_holds
    part-met = met-any f lo hi k qs ∙ bool_eq (any (met_piece f lo hi k) qs) (any (holds t (get_or (covers t p) k no_cover_bin)) (up_from lo (suc hi - lo))) there back
      where
        there : any (met_piece f lo hi k) qs ≡ true → any (holds t (get_or (covers t p) k no_cover_bin)) (up_from lo (suc hi - lo)) ≡ true
        there e =
            let found = some_in (λ q. Begins t p q.range) (met_piece f lo hi k) qs o.begins e in
            let q = found.0 in
            let w = met_witness q.range found.1 (and_right (eqb q.part k) (is_met f lo hi q.range) found.2) in
            let held = found.3 (piece_holds k w.0) (ap₂ ◌&&◌ (and_left (eqb q.part k) (is_met f lo hi q.range) found.2) w.3) in
            some-any-from (holds t (get_or (covers t p) k no_cover_bin)) lo (suc hi - lo) w.0 w.1 (omega (arith, w.1, w.2))
            (sym (o.exact k w.0 few (typed w.0 w.1 w.2)) ∙ ap₂ ◌&&◌ held (ap not w.4))

        back : any (holds t (get_or (covers t p) k no_cover_bin)) (up_from lo (suc hi - lo)) ≡ true → any (met_piece f lo hi k) qs ≡ true
        back e =
            let some = any-from-some (holds t (get_or (covers t p) k no_cover_bin)) lo (suc hi - lo) e in
            let v = some.0 in
            let top : v ≤ hi = omega (arith, some.1, some.2) in
            let here = o.exact k v few (typed v some.1 top) ∙ some.3 in
            let free = not-true (excluded_value t p v) (and_right (any (piece_holds k v) qs) (not (excluded_value t p v)) here) in
            let found = some_in (λ q. Begins t p q.range) (piece_holds k v) qs o.begins (and_left (any (piece_holds k v) qs) (not (excluded_value t p v)) here) in
            let q = found.0 in
            found.3 (met_piece f lo hi k)
            (ap₂ ◌&&◌ (and_left (eqb q.part k) (in_range q.range v) found.2) (witness_met q.range (v, some.1, top, and_right (eqb q.part k) (in_range q.range v) found.2, free)))

-- the flags by the pieces are the model's
pub met-flags : (t : Table) (p : ℕ) (ws : List ℕ) (lo hi : ℕ) (qs : List Piece) → SpansOf t p ws → PiecesOf t p qs → lowest (point_at t p) ≤ lo → hi ≤ highest (point_at t p)
    → met_flags (free_value ws (lowest (point_at t p))) lo hi qs (length (covers t p)) ≡ met_bits t p lo hi
unfolding met_flags met_bits
met-flags t p ws lo hi qs s o above under =
    map_numbers (λ j. as_bit (one_of j (met_parts (free_value ws (lowest (point_at t p))) lo hi qs))) (met_bit t lo hi) no_cover_bin (covers t p) 0
    (λ k h. ap as_bit (ap (λ (j : ℕ). one_of j (met_parts (free_value ws (lowest (point_at t p))) lo hi qs)) (let z : 0 + k ≡ k = omega arith in z) ∙ part-met t p (free_value ws (lowest (point_at t p))) (finds_of t p ws s) lo hi above under qs o k h))

-- a bin has a value exactly if it holds one of the whole type
pub has-meets : (t : Table) (c : CoverBin) → has_value t c ≡ meets t c (lowest (point_at t (point_of t c))) (highest (point_at t (point_of t c)))
unfolding has_value values meets
has-meets t c =
    let q = point_at t (point_of t c) in
    let number : 2 ^ q.width ≡ suc (highest q) - lowest q = omega (arith, pow_pos q.width) in
    ap (λ (n : ℕ). any (holds t c) (up_from (lowest q) n)) number

-- ---- the bytes that were lent

pub lent_length : {A : Type 0} (at n : ℕ) (l : List A) → at + n ≤ length l → length (take (at + n - at) (drop at l)) ≡ n
lent_length at n l h = simp (length-take, length-drop) (omega arith)

pub answered : (t : Table) (p : ℕ) (ws words : List ℕ) (low lo hi parts at : ℕ) (out ys : List ℕ) → Asked t p ws words low lo hi parts → at + parts ≤ length out
    → ys ≡ met_flags (free_value ws low) lo hi (pieces_at words 0 (length words / 2)) (length (take (at + parts - at) (drop at out))) → put_mid at (at + parts - at) out ys ≡ put at (met_bits t p lo hi) out
answered t p ws words low lo hi parts at out ys o fit e =
    part-back at parts out ys (ap length e ∙ number ∙ lent_length at parts out fit)
    ∙ ap (λ (xs : List ℕ). put at xs out)
    (e
    ∙ ap (λ (n : ℕ). met_flags (free_value ws low) lo hi qs n) (lent_length at parts out fit ∙ o.count)
    ∙ ap (λ (x : ℕ). met_flags (free_value ws x) lo hi qs (length (covers t p))) o.lowest
    ∙ met-flags t p ws lo hi qs o.free o.pieces
    (leb-true (lowest (point_at t p)) lo (and_left (leb (lowest (point_at t p)) lo) (leb lo (highest (point_at t p))) o.from))
    (leb-true hi (highest (point_at t p)) (and_right (leb (lowest (point_at t p)) hi) (leb hi (highest (point_at t p))) o.to)))
  where
    qs : List Piece
    qs = pieces_at words 0 (length words / 2)

    number : length (met_flags (free_value ws low) lo hi qs (length (take (at + parts - at) (drop at out)))) ≡ length (take (at + parts - at) (drop at out))
    number = unfold met_flags in (length-row (λ j. as_bit (one_of j (met_parts (free_value ws low) lo hi qs))) 0 (length (take (at + parts - at) (drop at out))))
