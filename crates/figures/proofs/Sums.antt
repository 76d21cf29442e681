-- The group's two sums: item by item they come to those of all items, and their quotient is the model's figure of the group.
-- Assumes nothing.
use Prim.Native.Nat.{ℕ, suc, ◌+◌, ◌-◌, ◌*◌, ◌/◌, ◌^◌, ◌≤◌, ◌<◌}
use mathlib.Core.Path.{◌≡◌, refl, ap, ap₂, sym, ◌∙◌}
use mathlib.Core.Bool.{Bool, true, false, not, cond}
use mathlib.Core.List.{List, [], ◌∷◌, ◌++◌}
use native.Mathlib.Nat.{sub-zero, zero-mul, mul-le-mul_left, div-le_of_le-mul}
use native.Mathlib.Omega.{arith}
use native.Mathlib.Numerals.{add-one}
use lib.Dec.{eqb}
use borrow.Author.Tests.{eqb-true, ne_eqb}
use Rattle.model.specs.Lists.{up_from, keep, sum_of}
use Rattle.model.specs.Figures.{Item, counts, weighted, group_of}
use Rattle.figures.specs.Figures.{group_case, item, weight_of, sums, items_from, sums_from, AtMostFull, mean}
use Rattle.std.specs.Prelude as std
use Rattle.figures.specs.declared.Group.{Group}

abbrev group : ℕ → ℕ → Group
group weights sum = record { weights = weights; sum = sum }

-- ---- further items

sum-append : {A : Type 0} (f : A → ℕ) (p : A → Bool) (xs ys : List A) → sum_of f (keep p (xs ++ ys)) ≡ sum_of f (keep p xs) + sum_of f (keep p ys)
unfolding sum_of keep
sum-append f p [] ys = omega arith
sum-append {A} f p (x ∷ xs) ys = go (p x) (sum-append f p xs ys)
  where
    go : (b : Bool) → sum_of f (keep p (xs ++ ys)) ≡ sum_of f (keep p xs) + sum_of f (keep p ys)
        → sum_of f (cond b (x ∷ keep p (xs ++ ys)) (keep p (xs ++ ys))) ≡ sum_of f (cond b (x ∷ keep p xs) (keep p xs)) + sum_of f (keep p ys)
    go true ih = omega arith
    go false ih = ih

pub sums-append : (xs ys : List Item) → sums_from (sums xs) ys ≡ sums (xs ++ ys)
unfolding sums sums_from
sums-append xs ys = ap₂ group (sym (sum-append weight_of counts xs ys)) (sym (sum-append weighted counts xs ys))

pub sums-more : (g : Group) (xs ys : List Item) → sums_from (sums_from g xs) ys ≡ sums_from g (xs ++ ys)
unfolding sums sums_from
sums-more g xs ys = ap₂ group (omega (arith, sum-append weight_of counts xs ys)) (omega (arith, sum-append weighted counts xs ys))

pub sums-end : (g : Group) → sums_from g [] ≡ g
unfolding sums sums_from sum_of keep
sums-end g = ap₂ group (omega arith) (omega arith)

-- ---- one item

-- an item of total 0 drops out
pub item_dropped : (g : Group) (w t c : ℕ) → t ≡ 0 → g ≡ sums_from g (item w t c ∷ [])
unfolding sums sums_from sum_of keep
item_dropped g w t c e = rw e (ap₂ group (omega arith) (omega arith))

-- any other adds its weight, which may be 0, and its weighted figure
pub item-added : (g : Group) (w t c : ℕ) → 0 < t → group (g.weights + w) (g.sum + w * (10 ^ 8 * c / t)) ≡ sums_from g (item w t c ∷ [])
unfolding sums sums_from sum_of keep
item-added g w t c h = rw (ne_eqb t 0 (omega arith)) (go (eqb w 0) refl)
  where
    one : Bool → List Item
    one b = cond (not b) (item w t c ∷ []) []

    go : (b : Bool) → eqb w 0 ≡ b → group (g.weights + w) (g.sum + w * (10 ^ 8 * c / t)) ≡ group (g.weights + sum_of weight_of (one b)) (g.sum + sum_of weighted (one b))
    go true e =
        let z = eqb-true w 0 e in
        ap₂ group (omega arith) (rw (z, zero-mul))
    go false e = ap₂ group (omega arith) (omega arith)

-- an item's figure, rounded down, is at most 10^8
pub item-most : (w t c : ℕ) → c ≤ t → w * (10 ^ 8 * c / t) ≤ w * 10 ^ 8
item-most w t c h = mul-le-mul_left w (div-le_of_le-mul t (omega arith))

pub mean-most : (g : Group) → AtMostFull g → g.sum / g.weights ≤ 10 ^ 8
mean-most g h = div-le_of_le-mul g.weights (omega arith)

-- ---- a loop over the items 0, 1, 2 ..: the sums x of all are the sums g so far with those of the items left

module _ (f : ℕ → Item) where
  pub items_start : (n : ℕ) (g : Group) → g ≡ sums [] → sums (items_from f 0 n) ≡ sums_from g (items_from f 0 (n - 0))
  items_start n g e = rw (sub-zero, e) (sym (sums-append [] (items_from f 0 n)))

  module _ (n i : ℕ) (g x : Group) (inv : x ≡ sums_from g (items_from f i (n - i))) where
    pub items-done : n ≤ i → x ≡ g
    unfolding items_from up_from
    items-done h = let k : n - i ≡ 0 = omega arith in (rw k at inv) ∙ sums-end g

    pub items-on : (w t c : ℕ) (r : Group) → i < n → w ≡ (f i).weight → t ≡ (f i).total → c ≡ (f i).covered → r ≡ sums_from g (item w t c ∷ [])
        → x ≡ sums_from r (items_from f (i + 1) (n - (i + 1)))
    unfolding items_from up_from
    items-on w t c r h e₁ e₂ e₃ e =
        let k : n - i ≡ suc (n - (i + 1)) = omega arith in
        let one : r ≡ sums_from g (f i ∷ []) = rw (e₁, e₂, e₃) at e in
        (rw k at inv) ∙ rw (one, add-one i) (sym (sums-more g (f i ∷ []) _))

-- ---- the figure

pub mean-sums : (items : List Item) → mean (sums items) ≡ group_of items
unfolding sums group_of
mean-sums items = refl

-- the figure at a loop's end
pub figure-done : (f : ℕ → Item) (n i : ℕ) (g : Group) → sums (items_from f 0 n) ≡ sums_from g (items_from f i (n - i)) → n ≤ i
    → (r : std.Option ℕ) → r ≡ group_case (mean g) → r ≡ group_case (group_of (items_from f 0 n))
figure-done f n i g inv h r e = e ∙ ap (λ (s : Group). group_case (mean s)) (sym (items-done f n i g _ inv h)) ∙ ap group_case (mean-sums (items_from f 0 n))
