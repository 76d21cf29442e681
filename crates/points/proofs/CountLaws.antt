-- How many cover bins a point has, by the kinds of its counters.
-- Assumes nothing.
use mathlib.Core.Path.{◌≡◌, refl, sym, ap, ap₂, ◌∙◌}
use mathlib.Core.Bool.{Bool, true, false, cond}
use mathlib.Core.List.{List, [], ◌∷◌, map}
use Prim.Native.Nat.{ℕ, zero, suc, ◌+◌, ◌-◌, ◌≤◌, ◌<◌}
use native.Mathlib.Omega.{arith}
use lib.Dec.{eqb}
use lib.ListN.{length, get_or, take, drop, length-append, length-map}
use Rattle.std.specs.List.{count_by}
use Rattle.std.proofs.lemmas.List.Sums.{sum_by-cons}
use lib.Seq.{take_all}
use Rattle.model.specs.Lists.{up_from, as_bit}
use Rattle.model.specs.Table.{Table}
use Rattle.model.specs.Counters.{Counter, point_counters}
use Rattle.model.specs.Register.{point_total}
use Rattle.model.proofs.Lists.{head_tail, from_step, from_end}
use Rattle.arrays.specs.Flat.{covers, cover_counts, all_point_counters, point_start}
use Rattle.points.specs.Gates.{pick_one, picked, Kinded, Flagged}
use Rattle.points.proofs.GateLaws.{picked_covers}

-- ---- what is picked, counted

pick-long : (k x y : ℕ) → length (pick_one k x) ≡ length (pick_one k y)
pick-long k x y = go (eqb k 0)
  where
    go : (b : Bool) → length (cond b (x ∷ []) []) ≡ length (cond b (y ∷ []) [])
    go true = refl
    go false = refl

picked-long : (kinds xs ys : List ℕ) (i n : ℕ) → length (picked kinds xs i n) ≡ length (picked kinds ys i n)
unfolding picked
picked-long kinds xs ys i zero = refl
picked-long kinds xs ys i (suc n) =
    omega (arith, length-append (pick_one (get_or kinds i 0) (get_or xs i 0)) (picked kinds xs (i + 1) n), length-append (pick_one (get_or kinds i 0) (get_or ys i 0)) (picked kinds ys (i + 1) n), pick-long (get_or kinds i 0) (get_or xs i 0) (get_or ys i 0), picked-long kinds xs ys (i + 1) n)

-- as many as are 0
pub counted_in : (kinds : List ℕ) (from n : ℕ) → from + n ≤ length kinds → count_by (λ k. eqb k 0) (take n (drop from kinds)) ≡ length (picked kinds kinds from n)
unfolding picked
counted_in kinds from zero h = refl
counted_in kinds from (suc n) h =
    let k = get_or kinds from 0 in
    ap (λ (l : List ℕ). count_by (λ x. eqb x 0) (take (suc n) l)) (head_tail kinds from 0 (omega arith))
    ∙ sum_by-cons (λ x. cond (eqb x 0) 1 0) k (take n (drop (from + 1) kinds))
    ∙ ap₂ ◌+◌ (one (eqb k 0)) (counted_in kinds (from + 1) n (omega arith))
    ∙ sym (length-append (pick_one k k) (picked kinds kinds (from + 1) n))
  where
    one : (b : Bool) → cond b 1 0 ≡ length (cond b (get_or kinds from 0 ∷ []) [])
    one true = refl
    one false = refl

-- every counter flagged
abbrev ones : Counter → ℕ
ones c = as_bit true

all_flagged : (t : Table) → Flagged (λ c. true) t (map ones (all_point_counters t))
unfolding Flagged
all_flagged t = take_all (length (all_point_counters t)) (map ones (all_point_counters t)) (omega (arith, length-map (all_point_counters t) ones))

pub covers-counted : (t : Table) (p : ℕ) → p < point_total t → (kinds : List ℕ) → Kinded t kinds → length (picked kinds kinds (point_start t p) (length (point_counters t p))) ≡ length (covers t p)
covers-counted t p inside kinds k =
    let flags = map ones (all_point_counters t) in
    picked-long kinds kinds flags (point_start t p) (length (point_counters t p))
    ∙ ap length (picked_covers t p inside (λ c. true) kinds flags k (all_flagged t))
    ∙ length-map (covers t p) (λ b. as_bit true)

-- ---- point after point

unfoldable pub counts_from : Table → ℕ → ℕ → List ℕ
counts_from t i n = map (λ p. length (covers t p)) (up_from i n)

module _ (t : Table) where
  pub counts_start : counts_from t 0 (point_total t - 0) ≡ cover_counts t
  unfolding counts_from cover_counts
  counts_start = ap (λ (n : ℕ). map (λ p. length (covers t p)) (up_from 0 n)) (let z : point_total t - 0 ≡ point_total t = omega arith in z)

  pub counts_turn : (i n : ℕ) → i < n → counts_from t i (n - i) ≡ length (covers t i) ∷ counts_from t (i + 1) (n - (i + 1))
  unfolding counts_from
  counts_turn i n h = ap (map (λ p. length (covers t p))) (from_step i n h)

  pub counts_end : (i n : ℕ) → n ≤ i → counts_from t i (n - i) ≡ []
  unfolding counts_from
  counts_end i n h = ap (map (λ p. length (covers t p))) (from_end i n h)
