-- The item of each counter is one of the table's: a point, or a cross behind the points.
-- Assumes nothing.
use mathlib.Core.Path.{◌≡◌, sym, subst}
use mathlib.Core.Bool.{true}
use mathlib.Core.List.{List, [], ◌∷◌, ◌++◌, map, map-append}
use Prim.Native.Nat.{ℕ, zero, suc, ◌+◌, ◌<◌}
use native.Mathlib.Omega.{arith}
use lib.ListN.{length, replicate}
use Rattle.model.specs.Lists.{up_from, concat_of}
use Rattle.model.specs.Table.{Kind, cover, ignore, illegal, default, CrossBin, Table}
use Rattle.model.specs.Counters.{CoverBin, Counter, product, cross_at, products, point_counters, cross_bin_counter, cross_bin_counters, cross_counters, counters}
use Rattle.model.specs.Figures.{item_of, item_count}
use Rattle.model.specs.Format.{accepted, table_of}
use Rattle.model.proofs.Readers.{All, all_append, all_map}
use Rattle.arrays.specs.Flat.{items_of}
use Rattle.points.proofs.ItemLaws.{point_items}
use Rattle.coverage.proofs.ItemLaws.{items_few}

module _ (t : Table) where
  abbrev Own : ℕ → Type 0
  Own x = x < item_count t

  two_own : (xs ys : List Counter) → All Own (items_of t xs) → All Own (items_of t ys) → All Own (items_of t (xs ++ ys))
  unfolding items_of
  two_own xs ys h k = subst (All Own) (sym (map-append (item_of t) xs ys)) (all_append Own (map (item_of t) xs) (map (item_of t) ys) h k)

  all_own : (f : ℕ → List Counter) (i n : ℕ) → ((j : ℕ) → j < i + n → All Own (items_of t (f j))) → All Own (items_of t (concat_of f (up_from i n)))
  unfolding items_of concat_of up_from
  all_own f i zero h = tt
  all_own f i (suc n) h = two_own (f i) (concat_of f (up_from (suc i) n)) (h i (omega arith)) (all_own f (suc i) n (λ j l. h j (omega arith)))

  point_own : (p : ℕ) → p < length t.points → All Own (items_of t (point_counters t p))
  point_own p l = subst (All Own) (sym (point_items t p)) (go (length (point_counters t p)))
    where
      go : (n : ℕ) → All Own (replicate n p)
      go zero = tt
      go (suc n) = (omega arith, go n)

  module _ (c : ℕ) (l : c < length t.crosses) where
    bin-own : (i : ℕ) (k : Kind) → All Own (items_of t (cross_bin_counter c i k))
    unfolding items_of item_of
    bin-own i cover = (omega arith, tt)
    bin-own i ignore = tt
    bin-own i illegal = (omega arith, tt)
    bin-own i default = tt

    bins-own : (i : ℕ) (bs : List CrossBin) → All Own (items_of t (cross_bin_counters c i bs))
    unfolding cross_bin_counters items_of
    bins-own i [] = tt
    bins-own i (b ∷ bs) = two_own (cross_bin_counter c i b.kind) (cross_bin_counters c (suc i) bs) (bin-own i b.kind) (bins-own (suc i) bs)

    products-own : (css : List (List CoverBin)) → All Own (items_of t (map (product c) css))
    unfolding items_of item_of
    products-own [] = tt
    products-own (cs ∷ css) = (omega arith, products-own css)

    cross-own : All Own (items_of t (cross_counters t c))
    unfolding cross_counters
    cross-own = two_own (cross_bin_counters c 0 (cross_at t c).bins) (map (product c) (products t c)) (bins-own 0 (cross_at t c).bins) (products-own (products t c))

  items_own : All Own (items_of t (counters t))
  unfolding counters
  items_own =
      two_own (concat_of (point_counters t) (up_from 0 (length t.points))) (concat_of (cross_counters t) (up_from 0 (length t.crosses)))
      (all_own (point_counters t) 0 (length t.points) (λ p l. point_own p (omega arith)))
      (all_own (cross_counters t) 0 (length t.crosses) (λ c l. cross-own c (omega arith)))

pub items-below : (s : List ℕ) → accepted s ≡ true → All (λ x. x < 24) (items_of (table_of s) (counters (table_of s)))
items-below s ok = all_map (Own (table_of s)) (λ x. x < 24) (λ x l. omega (arith, items_few s ok)) (items_of (table_of s) (counters (table_of s))) (items_own (table_of s))
