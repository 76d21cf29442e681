-- The crosses one after the other.
-- Assumes nothing.
use mathlib.Core.Path.{◌≡◌, sym, ap, ◌∙◌}
use mathlib.Core.Bool.{Bool, true, false}
use mathlib.Core.List.{List, [], ◌++◌}
use Prim.Native.Nat.{ℕ, ◌+◌, ◌-◌, ◌≤◌, ◌<◌}
use native.Mathlib.Omega.{arith}
use lib.ListN.{length, take, drop, length-append}
use lib.Seq.{drop-drop}
use Rattle.model.specs.Table.{Table}
use Rattle.model.specs.Counters.{Counter, counters, cross_counters, product_count}
use Rattle.model.specs.Sampling.{Stretches}
use Rattle.model.specs.Format.{accepted, table_of}
use Rattle.model.proofs.MeasureBounds.{counters_few}
use Rattle.model.proofs.Sections.{acceptance, accepted_decodes}
use Rattle.arrays.specs.Flat.{all_point_counters, all_cross_counters}
use Rattle.products.specs.Marks.{cross_marks}
use Rattle.places.specs.Places.{places_from}
use Rattle.places.proofs.PlaceLaws.{places-append}
use Rattle.crosses.specs.Marked.{mark_start, Marked}
use Rattle.crosses.proofs.Walks.{counters_from, from_turn, from_end}

-- the first counter of a cross, and all after it
pub all_small : (s : List ℕ) → accepted s ≡ true → length (all_point_counters (table_of s)) + length (all_cross_counters (table_of s)) ≤ 12416
unfolding counters all_point_counters all_cross_counters
all_small s ok =
    let a = acceptance s (table_of s) (accepted_decodes s ok) in
    omega (arith, counters_few s (table_of s) (length s) a.layout a.limited, length-append (all_point_counters (table_of s)) (all_cross_counters (table_of s)))

pub marks-here : (t : Table) (a : List ℕ) → Marked t (drop 16 a) → (c start size : ℕ) → c < length t.crosses → start ≡ 16 + mark_start t c → size ≡ product_count t c
    → take size (drop start a) ≡ cross_marks t c
unfolding Marked
marks-here t a m c start size h es en =
    ap (λ (k : ℕ). take k (drop start a)) en ∙ ap (λ (k : ℕ). take (product_count t c) (drop k a)) es ∙ ap (take (product_count t c)) (sym (drop-drop (mark_start t c) 16 a)) ∙ m c h

-- some stretches: how many places there are does not depend on them
pub no_stretches : Stretches
no_stretches = record { lengths = λ p. []; matched = λ b l. false }

module _ (t : Table) (n c : ℕ) where
  -- those of one cross, and those of the crosses after it
  pub places_turn : (k first next : ℕ) (g : Counter → Bool) → c < n → k ≡ c → next ≡ first + length (cross_counters t k)
      → places_from g first (counters_from t c (n - c)) ≡ places_from g first (cross_counters t k) ++ places_from g next (counters_from t (c + 1) (n - (c + 1)))
  places_turn k first next g h ek en =
      ap (places_from g first) (from_turn t n c h) ∙ places-append g first (cross_counters t c) (counters_from t (c + 1) (n - (c + 1)))
      ∙ ap (λ (j : ℕ). places_from g first (cross_counters t j) ++ places_from g (first + length (cross_counters t j)) (counters_from t (c + 1) (n - (c + 1)))) (sym ek)
      ∙ ap (λ (j : ℕ). places_from g first (cross_counters t k) ++ places_from g j (counters_from t (c + 1) (n - (c + 1)))) (sym en)

  pub places_end : (first : ℕ) (g : Counter → Bool) → n ≤ c → places_from g first (counters_from t c (n - c)) ≡ []
  unfolding places_from
  places_end first g h = ap (places_from g first) (from_end t n c h)
