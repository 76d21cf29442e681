-- The cover bins among the points' counters.
-- Assumes nothing.
use mathlib.Core.Path.{◌≡◌, refl, sym, ap, ap₂, ◌∙◌}
use mathlib.Core.Bool.{Bool, true, false, cond}
use mathlib.Core.List.{List, [], ◌∷◌, ◌++◌, map, append_assoc, map-append}
use Prim.Native.Nat.{ℕ, zero, suc, ◌+◌, ◌-◌, ◌≤◌, ◌<◌}
use native.Mathlib.Omega.{arith}
use lib.Dec.{eqb}
use lib.ListN.{length, get_or, take, length-append, length-map, length-take, get_or-append}
use lib.Seq.{get_or-take, get_or-append-add}
use Rattle.model.specs.Lists.{up_from, concat_of, as_bit}
use Rattle.model.specs.Table.{Table}
use Rattle.model.specs.Counters.{Counter, value_bin, default_bin, illegal_bin, transition, illegal_transition, cross_bin, illegal_cross, product, point_counters, cover_bins}
use Rattle.model.specs.Register.{point_total}
use Rattle.arrays.specs.Flat.{kind_of, kinds_of, all_point_counters, point_start, covers}
use Rattle.points.specs.Gates.{pick_one, picked, Kinded, Flagged}

pub pick-most : (k x : ℕ) → length (pick_one k x) ≤ 1
pick-most k x = go (eqb k 0)
  where
    go : (b : Bool) → length (cond b (x ∷ []) []) ≤ 1
    go true = omega arith
    go false = omega arith

pub picked-few : (kinds xs : List ℕ) (n i : ℕ) → length (picked kinds xs i n) ≤ n
unfolding picked
picked-few kinds xs zero i = omega arith
picked-few kinds xs (suc n) i =
    omega (arith, length-append (pick_one (get_or kinds i 0) (get_or xs i 0)) (picked kinds xs (i + 1) n), pick-most (get_or kinds i 0) (get_or xs i 0), picked-few kinds xs n (i + 1))

-- ---- what is picked of a point's counters

module _ (g : Counter → Bool) where
  pick_head : (c : Counter) (cs : List Counter) → pick_one (kind_of c) (as_bit (g c)) ++ map (λ b. as_bit (g (value_bin b))) (cover_bins cs) ≡ map (λ b. as_bit (g (value_bin b))) (cover_bins (c ∷ cs))
  unfolding cover_bins
  pick_head (value_bin b) cs = refl
  pick_head (default_bin b) cs = refl
  pick_head (illegal_bin b) cs = refl
  pick_head (transition b) cs = refl
  pick_head (illegal_transition b) cs = refl
  pick_head (cross_bin c i) cs = refl
  pick_head (illegal_cross c i) cs = refl
  pick_head (product c ds) cs = refl

  picked_exact : (kinds xs : List ℕ) (cs : List Counter) (i : ℕ) → ((j : ℕ) → j < length cs → get_or kinds (i + j) 0 ≡ get_or (map kind_of cs) j 0)
      → ((j : ℕ) → j < length cs → get_or xs (i + j) 0 ≡ get_or (map (λ c. as_bit (g c)) cs) j 0)
      → picked kinds xs i (length cs) ≡ map (λ b. as_bit (g (value_bin b))) (cover_bins cs)
  unfolding picked
  picked_exact kinds xs [] i h k = unfold cover_bins in refl
  picked_exact kinds xs (c ∷ cs) i h k =
      ap₂ ◌++◌
      (ap₂ pick_one (ap (λ (j : ℕ). get_or kinds j 0) (let z : i ≡ i + 0 = omega arith in z) ∙ h 0 (omega arith)) (ap (λ (j : ℕ). get_or xs j 0) (let z : i ≡ i + 0 = omega arith in z) ∙ k 0 (omega arith)))
      (picked_exact kinds xs cs (i + 1) (λ j l. ap (λ (m : ℕ). get_or kinds m 0) (let z : i + 1 + j ≡ i + suc j = omega arith in z) ∙ h (suc j) (omega arith)) (λ j l. ap (λ (m : ℕ). get_or xs m 0) (let z : i + 1 + j ≡ i + suc j = omega arith in z) ∙ k (suc j) (omega arith)))
      ∙ pick_head c cs

-- ---- a point's counters among all

concat-from : {B : Type 0} (f : ℕ → List B) (m i k : ℕ) → concat_of f (up_from i (m + k)) ≡ concat_of f (up_from i m) ++ concat_of f (up_from (i + m) k)
unfolding concat_of up_from
concat-from f zero i k = ap₂ (λ (a n : ℕ). concat_of f (up_from a n)) (let z : i ≡ i + 0 = omega arith in z) (let z : 0 + k ≡ k = omega arith in z)
concat-from f (suc m) i k =
    ap (λ (n : ℕ). concat_of f (up_from i n)) (let z : suc m + k ≡ suc (m + k) = omega arith in z)
    ∙ ap (f i ++◌) (concat-from f m (suc i) k ∙ ap (λ (a : ℕ). concat_of f (up_from (suc i) m) ++ concat_of f (up_from a k)) (let z : suc i + m ≡ i + suc m = omega arith in z))
    ∙ sym (append_assoc (f i) (concat_of f (up_from (suc i) m)) (concat_of f (up_from (i + suc m) k)))

module _ (t : Table) (p : ℕ) (inside : p < point_total t) where
  all_split : all_point_counters t ≡ concat_of (point_counters t) (up_from 0 p) ++ (point_counters t p ++ concat_of (point_counters t) (up_from (suc p) (point_total t - suc p)))
  unfolding all_point_counters
  all_split =
      ap (λ (n : ℕ). concat_of (point_counters t) (up_from 0 n)) (let z : point_total t ≡ p + suc (point_total t - suc p) = omega arith in z)
      ∙ concat-from (point_counters t) p 0 (suc (point_total t - suc p))
      ∙ ap (λ (a : ℕ). concat_of (point_counters t) (up_from 0 p) ++ concat_of (point_counters t) (up_from a (suc (point_total t - suc p)))) (let z : 0 + p ≡ p = omega arith in z)
      ∙ (unfold concat_of up_from in refl)

  all_long : length (all_point_counters t) ≡ point_start t p + (length (point_counters t p) + length (concat_of (point_counters t) (up_from (suc p) (point_total t - suc p))))
  unfolding point_start
  all_long =
      ap length all_split
      ∙ length-append (concat_of (point_counters t) (up_from 0 p)) (point_counters t p ++ concat_of (point_counters t) (up_from (suc p) (point_total t - suc p)))
      ∙ ap (length (concat_of (point_counters t) (up_from 0 p)) +◌) (length-append (point_counters t p) (concat_of (point_counters t) (up_from (suc p) (point_total t - suc p))))

  pub start_within : point_start t p + length (point_counters t p) ≤ length (all_point_counters t)
  start_within = omega (arith, all_long)

  at_point : (f : Counter → ℕ) (j : ℕ) → j < length (point_counters t p) → get_or (map f (all_point_counters t)) (point_start t p + j) 0 ≡ get_or (map f (point_counters t p)) j 0
  unfolding point_start
  at_point f j h =
      let b = concat_of (point_counters t) (up_from 0 p) in
      let a = concat_of (point_counters t) (up_from (suc p) (point_total t - suc p)) in
      let mine = point_counters t p in
      ap (λ (l : List ℕ). get_or l (length b + j) 0) (ap (map f) all_split ∙ map-append f b (mine ++ a) ∙ ap (map f b ++◌) (map-append f mine a))
      ∙ ap (λ (n : ℕ). get_or (map f b ++ (map f mine ++ map f a)) (n + j) 0) (sym (length-map b f))
      ∙ get_or-append-add (map f b) (map f mine ++ map f a) j 0
      ∙ get_or-append (map f mine) (map f a) 0 j (omega (arith, length-map mine f))

  pub list_point : (l : List ℕ) (f : Counter → ℕ) → take (length (all_point_counters t)) l ≡ map f (all_point_counters t) → (j : ℕ) → j < length (point_counters t p) → get_or l (point_start t p + j) 0 ≡ get_or (map f (point_counters t p)) j 0
  list_point l f e j h =
      sym (get_or-take (length (all_point_counters t)) l (point_start t p + j) 0 (omega (arith, start_within)))
      ∙ ap (λ (x : List ℕ). get_or x (point_start t p + j) 0) e ∙ at_point f j h

  pub picked_covers : (g : Counter → Bool) (kinds flags : List ℕ) → Kinded t kinds → Flagged g t flags → picked kinds flags (point_start t p) (length (point_counters t p)) ≡ map (λ b. as_bit (g (value_bin b))) (covers t p)
  unfolding Kinded Flagged kinds_of covers
  picked_covers g kinds flags k f =
      picked_exact g kinds flags (point_counters t p) (point_start t p) (λ j h. list_point kinds kind_of k j h) (λ j h. list_point flags (λ c. as_bit (g c)) f j h)

pub kinds-long : (t : Table) (kinds : List ℕ) → Kinded t kinds → length (all_point_counters t) ≤ length kinds
unfolding Kinded kinds_of
kinds-long t kinds e = omega (arith, ap length e, length-take (length (all_point_counters t)) kinds, length-map (all_point_counters t) kind_of)
