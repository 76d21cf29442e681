-- Totals and covered counters of an item, by flat arrays: the item of each counter, a flag where it counts in the total, and its count.
-- Assumes nothing.
use Rattle.std.specs.Prelude.{ℕ, ◌+◌, ◌<◌, ◌≡◌, ◌&&◌, Bool, List, [], ◌∷◌, leb, eqb, length, get_or}
use Rattle.model.specs.Lists.{as_bit}
use Rattle.tallies.specs.declared.ItemTally.{ItemTally}

-- how many counters count in the total of item j
unfoldable pub item_total : ℕ → List ℕ → List ℕ → ℕ
item_total j [] fs = 0
item_total j (x ∷ xs) [] = 0
item_total j (x ∷ xs) (f ∷ fs) = as_bit (eqb x j && eqb f 1) + item_total j xs fs

-- of these, those with a count of at least `least`
unfoldable pub item_covered : ℕ → ℕ → List ℕ → List ℕ → List ℕ → ℕ
item_covered j least [] fs ns = 0
item_covered j least (x ∷ xs) [] ns = 0
item_covered j least (x ∷ xs) (f ∷ fs) [] = 0
item_covered j least (x ∷ xs) (f ∷ fs) (n ∷ ns) = as_bit ((eqb x j && eqb f 1) && leb least n) + item_covered j least xs fs ns

-- all are items of a table, which has at most 24
unfoldable pub ItemNumbers : List ℕ → Type 0
ItemNumbers xs = (i : ℕ) → i < length xs → get_or xs i 0 < 24

-- the tally of no counters
abbrev pub no_tally : ItemTally
no_tally = record { total = 0; covered = 0 }

-- a tally with one counter more
abbrev pub with_counter : ItemTally → Bool → Bool → ItemTally
with_counter r hit enough = record { total = r.total + as_bit hit; covered = r.covered + as_bit enough }

-- the tallies of every item, whose at-leasts are `leasts`
pub record Tallied (xs fs ns leasts : List ℕ) (r : List ItemTally) : Type 0 where
  pub sized : length r ≡ 24
  pub totals : (j : ℕ) → j < 24 → (get_or r j no_tally).total ≡ item_total j xs fs
  pub covered : (j : ℕ) → j < 24 → (get_or r j no_tally).covered ≡ item_covered j (get_or leasts j 0) xs fs ns
