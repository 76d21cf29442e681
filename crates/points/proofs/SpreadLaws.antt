-- The counters of the points by what is known of their cover bins.
-- Assumes nothing.
use mathlib.Core.Path.{◌≡◌, refl, sym, ap, ap₂, ◌∙◌}
use mathlib.Core.Bool.{Bool, true, cond}
use mathlib.Core.List.{List, [], ◌∷◌, ◌++◌, map}
use Prim.Native.Nat.{ℕ, suc, ◌+◌, ◌-◌, ◌*◌, ◌≤◌, ◌<◌}
use native.Mathlib.Omega.{arith}
use lib.Dec.{eqb}
use lib.ListN.{length, get_or, set, length-map}
use borrow.Author.Tests.{eq-eqb, ne_eqb}
use Rattle.model.specs.Lists.{up_from, concat_of, as_bit}
use Rattle.model.specs.Table.{Table}
use Rattle.model.specs.Counters.{Counter, value_bin, default_bin, illegal_bin, transition, illegal_transition, cross_bin, illegal_cross, product, no_cover_bin, value_counters, auto_counters, transition_counters, point_counters, cover_bins, has_value}
use Rattle.model.specs.Figures.{in_total}
use Rattle.model.specs.Format.{accepted, table_of}
use Rattle.model.specs.Register.{point_total}
use Rattle.model.proofs.Readers.{All, all_append, all_map}
use Rattle.model.proofs.Lists.{one_left, none_left}
use Rattle.model.proofs.RawExact.{few_points}
use Rattle.arrays.specs.Put.{put}
use Rattle.arrays.specs.Flat.{kind_of, kinds_of, total_flags, all_point_counters, point_start, covers, Tells}
use Rattle.arrays.proofs.PutLaws.{put-nil, put-cons}
use Rattle.points.specs.Gates.{Kinded}
use Rattle.points.specs.Spread.{spread_one, next_at, spread}
use Rattle.points.proofs.Counted.{ValueOf, TransitionOf, all_values, all_transitions}
use Rattle.points.proofs.AllLaws.{points_turn, points_end, points-all, counters_room}
use Rattle.points.proofs.GateLaws.{list_point}

pub one_cover : (k x : ℕ) → k ≡ 0 → x ≡ spread_one k x
one_cover k x e = sym (ap (λ (b : Bool). cond b x (as_bit (eqb k 3))) (eq-eqb k 0 e))

pub one_other : (k x y : ℕ) → (k ≡ 0 → ⊥) → y ≡ as_bit (eqb k 3) → y ≡ spread_one k x
one_other k x y h e = e ∙ sym (ap (λ (b : Bool). cond b x (as_bit (eqb k 3))) (ne_eqb k 0 h))

module _ (kinds xs : List ℕ) (from n i : ℕ) where
  pub spread_turn : (at next y : ℕ) (l : List ℕ) → i < n → from + i < length l → y ≡ spread_one (get_or kinds (from + i) 0) (get_or xs at 0) → next ≡ next_at (get_or kinds (from + i) 0) at
      → put (from + (i + 1)) (spread kinds xs (from + (i + 1)) next (n - (i + 1))) (set l (from + i) y) ≡ put (from + i) (spread kinds xs (from + i) at (n - i)) l
  unfolding spread
  spread_turn at next y l h k ey en =
      let z : from + (i + 1) ≡ from + i + 1 = omega arith in
      ap (λ (j : ℕ). put j (spread kinds xs j next (n - (i + 1))) (set l (from + i) y)) z
      ∙ put-cons (from + i) y (spread kinds xs (from + i + 1) next (n - (i + 1))) l k
      ∙ ap₂ (λ (v a : ℕ). put (from + i) (v ∷ spread kinds xs (from + i + 1) a (n - (i + 1))) l) ey en
      ∙ sym (ap (λ (m : ℕ). put (from + i) (spread kinds xs (from + i) at m) l) (one_left n i h))

  pub spread_end : (at : ℕ) (l : List ℕ) → n ≤ i → put (from + i) (spread kinds xs (from + i) at (n - i)) l ≡ l
  unfolding spread
  spread_end at l h = ap (λ (m : ℕ). put (from + i) (spread kinds xs (from + i) at m) l) (none_left n i h) ∙ put-nil (from + i) l

pub spread-start : (kinds xs : List ℕ) (from at n : ℕ) (l : List ℕ) → put (from + 0) (spread kinds xs (from + 0) at (n - 0)) l ≡ put from (spread kinds xs from at n) l
spread-start kinds xs from at n l = ap₂ (λ (j m : ℕ). put j (spread kinds xs j at m) l) (let z : from + 0 ≡ from = omega arith in z) (let z : n - 0 ≡ n = omega arith in z)

-- ---- a point's counters

-- the counter is a point's
abbrev OfPoint : Counter → Type 0
OfPoint (value_bin c) = Unit {0}
OfPoint (default_bin b) = Unit {0}
OfPoint (illegal_bin b) = Unit {0}
OfPoint (transition b) = Unit {0}
OfPoint (illegal_transition b) = Unit {0}
OfPoint (cross_bin c i) = ⊥
OfPoint (illegal_cross c i) = ⊥
OfPoint (product c cs) = ⊥

module _ (t : Table) (p : ℕ) where
  value_of_lem : (c : Counter) → ValueOf t p c → OfPoint c
  value_of_lem (value_bin c) e = tt
  value_of_lem (default_bin b) e = tt
  value_of_lem (illegal_bin b) e = tt
  value_of_lem (transition b) e = absurd e
  value_of_lem (illegal_transition b) e = absurd e
  value_of_lem (cross_bin c i) e = absurd e
  value_of_lem (illegal_cross c i) e = absurd e
  value_of_lem (product c cs) e = absurd e

  transition_of : (c : Counter) → TransitionOf t p c → OfPoint c
  transition_of (value_bin c) e = absurd e
  transition_of (default_bin b) e = absurd e
  transition_of (illegal_bin b) e = absurd e
  transition_of (transition b) e = tt
  transition_of (illegal_transition b) e = tt
  transition_of (cross_bin c i) e = absurd e
  transition_of (illegal_cross c i) e = absurd e
  transition_of (product c cs) e = absurd e

  all_of : All OfPoint (point_counters t p)
  unfolding point_counters
  all_of =
      let mine = value_counters t p 0 t.value_bins ++ auto_counters t p in
      let others = transition_counters p 0 t.transition_bins in
      all_append OfPoint mine others (all_map (ValueOf t p) OfPoint value_of_lem mine (all_values t p)) (all_map (TransitionOf t p) OfPoint transition_of others (all_transitions t p))

module _ (t : Table) (kinds xs : List ℕ) where
  spread_exact : (cs : List Counter) (i at : ℕ) → All OfPoint cs → ((j : ℕ) → j < length cs → get_or kinds (i + j) 0 ≡ get_or (map kind_of cs) j 0)
      → ((k : ℕ) → k < length (cover_bins cs) → get_or xs (at + k) 0 ≡ as_bit (has_value t (get_or (cover_bins cs) k no_cover_bin)))
      → spread kinds xs i at (length cs) ≡ map (λ c. as_bit (in_total t c)) cs
  unfolding spread cover_bins in_total
  spread_exact [] i at a h k = refl
  spread_exact (c ∷ cs) i at a h k =
      ap (λ (z : ℕ). spread_one z (get_or xs at 0) ∷ spread kinds xs (i + 1) (next_at z at) (length cs)) (ap (λ (j : ℕ). get_or kinds j 0) (let z : i ≡ i + 0 = omega arith in z) ∙ h 0 (omega arith))
      ∙ go c a.0 k (λ at' k'. spread_exact cs (i + 1) at' a.1 (λ j l. ap (λ (m : ℕ). get_or kinds m 0) (let z : i + 1 + j ≡ i + suc j = omega arith in z) ∙ h (suc j) (omega arith)) k')
    where
      go : (c : Counter) → OfPoint c → ((k : ℕ) → k < length (cover_bins (c ∷ cs)) → get_or xs (at + k) 0 ≡ as_bit (has_value t (get_or (cover_bins (c ∷ cs)) k no_cover_bin)))
          → ((at : ℕ) → ((k : ℕ) → k < length (cover_bins cs) → get_or xs (at + k) 0 ≡ as_bit (has_value t (get_or (cover_bins cs) k no_cover_bin))) → spread kinds xs (i + 1) at (length cs) ≡ map (λ c. as_bit (in_total t c)) cs)
          → spread_one (kind_of c) (get_or xs at 0) ∷ spread kinds xs (i + 1) (next_at (kind_of c) at) (length cs) ≡ as_bit (in_total t c) ∷ map (λ c. as_bit (in_total t c)) cs
      go (value_bin b) e k ih =
          ap₂ ◌∷◌ (ap (λ (m : ℕ). get_or xs m 0) (let z : at ≡ at + 0 = omega arith in z) ∙ k 0 (omega arith))
          (ih (at + 1) (λ m l. ap (λ (n : ℕ). get_or xs n 0) (let z : at + 1 + m ≡ at + suc m = omega arith in z) ∙ k (suc m) (omega arith)))
      go (default_bin b) e k ih = ap (0 ∷◌) (ih at k)
      go (illegal_bin b) e k ih = ap (0 ∷◌) (ih at k)
      go (transition b) e k ih = ap (1 ∷◌) (ih at k)
      go (illegal_transition b) e k ih = ap (0 ∷◌) (ih at k)
      go (cross_bin c i) e k ih = absurd e
      go (illegal_cross c i) e k ih = absurd e
      go (product c ds) e k ih = absurd e

  pub point_totals : (p : ℕ) → p < point_total t → Kinded t kinds → Tells (has_value t) t xs → spread kinds xs (point_start t p) (256 * p) (length (point_counters t p)) ≡ total_flags t (point_counters t p)
  unfolding Kinded kinds_of Tells covers total_flags
  point_totals p h kd has = spread_exact (point_counters t p) (point_start t p) (256 * p) (all_of t p) (λ j l. list_point t p h kinds kind_of kd j l) (λ k l. has p k h l)

-- the points from number i on
unfoldable pub totals_from : Table → ℕ → ℕ → List ℕ
totals_from t i n = total_flags t (concat_of (point_counters t) (up_from i n))

module _ (t : Table) (n : ℕ) where
  pub totals_all : n ≡ point_total t → totals_from t 0 (n - 0) ≡ total_flags t (all_point_counters t)
  unfolding totals_from total_flags
  totals_all e = points-all (λ c. as_bit (in_total t c)) t n e

  pub totals_next : (i : ℕ) → i < n → totals_from t i (n - i) ≡ total_flags t (point_counters t i) ++ totals_from t (i + 1) (n - (i + 1))
  unfolding totals_from total_flags
  totals_next i h = points_turn (λ c. as_bit (in_total t c)) t n i h

  pub totals_none : (i c : ℕ) (l : List ℕ) → n ≤ i → put c (totals_from t i (n - i)) l ≡ l
  unfolding totals_from total_flags
  totals_none i c l h = ap (λ (z : List ℕ). put c z l) (points_end (λ c. as_bit (in_total t c)) t n i h) ∙ put-nil c l

pub totals-length : (t : Table) (cs : List Counter) → length (total_flags t cs) ≡ length cs
unfolding total_flags
totals-length t cs = length-map cs (λ c. as_bit (in_total t c))

module _ (s : List ℕ) (ok : accepted s ≡ true) where
  pub totals_room : (n i c size : ℕ) → n ≡ point_total (table_of s) → i ≤ n → c ≤ 256 * i → 256 * point_total (table_of s) ≤ size → c + length (totals_from (table_of s) i (n - i)) ≤ size
  unfolding totals_from
  totals_room n i c size e k h big =
      let cs = concat_of (point_counters (table_of s)) (up_from i (n - i)) in
      omega (arith, counters_room s ok (n - i) i (omega arith), few_points s ok, totals-length (table_of s) cs)
