-- The products of crosses, up to 1,025, as a loop multiplies them; and the crosses of a table that was read.
-- Assumes nothing.
use mathlib.Core.Path.{◌≡◌, refl, sym, ap, ap₂, ◌∙◌}
use mathlib.Core.Bool.{Bool, true, false, ◌&&◌}
use mathlib.Core.List.{List, [], ◌∷◌}
use Prim.Native.Nat.{ℕ, zero, suc, ◌+◌, ◌*◌, ◌-◌, ◌≤◌, ◌<◌, min}
use native.Mathlib.Nat.{sub-zero, mul-le-mul, mul_assoc}
use native.Mathlib.Omega.{arith}
use lib.Dec.{leb}
use lib.ListN.{get_or}
use borrow.Author.Tests.{leb-true, leb-false, le-leb}
use Rattle.model.specs.Lists.{up_from, all, sum_of}
use Rattle.model.specs.Table.{Cross, Table}
use Rattle.model.specs.Counters.{product_of}
use Rattle.model.specs.Format.{byte, cross_points}
use Rattle.model.specs.Ranges.{covers_at}
use Rattle.model.specs.Raw.{rows, crosses_at, token_total, record_count, raw_table}
use Rattle.model.proofs.Booleans.{and_left, and_right, bool_eq}
use Rattle.model.proofs.Readers.{All}
use Rattle.model.proofs.WellFormed.{InPoints}
use Rattle.model.proofs.Lists.{none_left, one_left}
use Rattle.limits.specs.Walks.{walk_sum, after}
use Rattle.limits.specs.Bins.{entry, here, capped, cross_point, points_from, cross_products, cross_fits}
use Rattle.limits.proofs.WalkLaws.{walk-cons}

-- ---- products up to 1,025

cap-times : (x g : ℕ) → min 1025 (x * g) ≡ min 1025 (min 1025 x * g)
cap-times x g = go (leb x 1025) refl g
  where
    large : (g : ℕ) → 1025 < x → min 1025 (x * g) ≡ min 1025 (1025 * g)
    large zero h = let z : x * 0 ≡ 0 = omega arith in ap (min 1025) z
    large (suc g) h =
        let a : 1025 * 1 ≤ x * suc g = mul-le-mul {n₁ = 1025} {m₁ = 1} {n₂ = x} {m₂ = suc g} (omega arith) (omega arith) in
        let b : 1025 * 1 ≤ 1025 * suc g = omega arith in
        (let z : min 1025 (x * suc g) ≡ 1025 = omega arith in z) ∙ (let z : 1025 ≡ min 1025 (1025 * suc g) = omega arith in z)

    go : (b : Bool) → leb x 1025 ≡ b → (g : ℕ) → min 1025 (x * g) ≡ min 1025 (min 1025 x * g)
    go true e g = let z : x ≡ min 1025 x = omega (arith, leb-true x 1025 e) in ap (λ (y : ℕ). min 1025 (y * g)) z
    go false e g = let z : 1025 ≡ min 1025 x = omega (arith, leb-false x 1025 e) in large g (leb-false x 1025 e) ∙ ap (λ (y : ℕ). min 1025 (y * g)) z

pub cap-fits : (n : ℕ) → leb (capped n) 1024 ≡ leb n 1024
cap-fits n = bool_eq _ _ (λ e. le-leb n 1024 (omega (arith, leb-true (capped n) 1024 e))) (λ e. le-leb (capped n) 1024 (omega (arith, leb-true n 1024 e)))

module _ (s : List ℕ) (c n : ℕ) (f : ℕ → ℕ) where
  pub products_start : capped (product_of f (points_from s c 0 n)) ≡ capped (1 * product_of f (points_from s c 0 (n - 0)))
  products_start = (let z : capped (product_of f (points_from s c 0 n)) ≡ capped (1 * product_of f (points_from s c 0 n)) = ap capped (let y : product_of f (points_from s c 0 n) ≡ 1 * product_of f (points_from s c 0 n) = omega arith in y) in rw sub-zero z)

  module _ (i acc whole : ℕ) (inv : whole ≡ capped (acc * product_of f (points_from s c i (n - i)))) where
    pub products-done : n ≤ i → acc ≤ 1025 → acc ≡ whole
    unfolding product_of up_from
    products-done h k = let y : whole ≡ capped (acc * 1) = rw (none_left n i h) at inv in omega arith

    pub products-on : (g r : ℕ) → i < n → g ≡ f (cross_point s c i) → r ≡ capped (acc * g) → whole ≡ capped (r * product_of f (points_from s c (i + 1) (n - (i + 1))))
    unfolding product_of up_from
    products-on g r h e k =
        let y : whole ≡ capped (acc * (f (cross_point s c i) * product_of f (points_from s c (suc i) (n - (i + 1))))) = rw (one_left n i h) at inv in
        y ∙ ap₂ (λ (x j : ℕ). capped (acc * (x * product_of f (points_from s c j (n - (i + 1)))))) (sym e) (let z : suc i ≡ i + 1 = omega arith in z)
        ∙ ap capped (sym (mul_assoc acc g (product_of f (points_from s c (i + 1) (n - (i + 1))))))
        ∙ cap-times (acc * g) (product_of f (points_from s c (i + 1) (n - (i + 1))))
        ∙ ap (λ (x : ℕ). capped (x * product_of f (points_from s c (i + 1) (n - (i + 1))))) (sym k)

-- ---- all crosses

abbrev pub size_fits : Table → Cross → Bool
size_fits t c = leb (product_of (covers_at t) c.points) 1024

module _ (s covers : List ℕ) (agree : (p : ℕ) → p < record_count s 0 → get_or covers p 0 ≡ covers_at (raw_table s) p) where
  abbrev Inside : List Cross → Type 0
  Inside cs = All (λ x. InPoints (record_count s 0) x.points) cs

  same_product : (ps : List ℕ) → InPoints (record_count s 0) ps → product_of (entry covers) ps ≡ product_of (covers_at (raw_table s)) ps
  unfolding product_of
  same_product [] h = refl
  same_product (p ∷ ps) h = ap₂ ◌*◌ (agree p h.0) (same_product ps h.1)

  pub crosses_fit : (c b k n : ℕ) → Inside (crosses_at s c b k n) → all (size_fits (raw_table s)) (crosses_at s c b k n) ≡ all (cross_fits covers s) (rows here 13 c n)
  unfolding all rows crosses_at cross_products
  crosses_fit c b k zero h = refl
  crosses_fit c b k (suc n) h =
      ap₂ ◌&&◌
      (ap (λ (m : ℕ). leb m 1024) (sym (same_product (cross_points s c) h.0)) ∙ sym (cap-fits (product_of (entry covers) (cross_points s c))))
      (crosses_fit (c + 13) (b + 3 * byte s (c + 12)) (k + 20 * token_total s b (byte s (c + 12))) n h.1)

  pub crosses_products : (c b k n : ℕ) → Inside (crosses_at s c b k n) → all (size_fits (raw_table s)) (crosses_at s c b k n) ≡ true
      → sum_of (λ x. product_of (covers_at (raw_table s)) x.points) (crosses_at s c b k n) ≡ walk_sum 0 (cross_products covers s) (after 13) c n
  unfolding all sum_of crosses_at
  crosses_products c b k zero h e = unfold walk_sum in refl
  crosses_products c b k (suc n) h e =
      let P = product_of (covers_at (raw_table s)) (cross_points s c) in
      let others = all (size_fits (raw_table s)) (crosses_at s (c + 13) (b + 3 * byte s (c + 12)) (k + 20 * token_total s b (byte s (c + 12))) n) in
      ap₂ ◌+◌ (first h.0 (leb-true P 1024 (and_left (leb P 1024) others e)))
      (crosses_products (c + 13) (b + 3 * byte s (c + 12)) (k + 20 * token_total s b (byte s (c + 12))) n h.1 (and_right (leb P 1024) others e))
      ∙ sym (walk-cons (cross_products covers s) (after 13) c n)
    where
      small : (a b : ℕ) → a ≡ b → b ≤ 1024 → b ≡ min 1025 a
      small a b e h = omega arith

      first : InPoints (record_count s 0) (cross_points s c) → product_of (covers_at (raw_table s)) (cross_points s c) ≤ 1024 → product_of (covers_at (raw_table s)) (cross_points s c) ≡ cross_products covers s c
      first i h = unfold cross_products in (small (product_of (entry covers) (cross_points s c)) (product_of (covers_at (raw_table s)) (cross_points s c)) (same_product (cross_points s c) i) h)
