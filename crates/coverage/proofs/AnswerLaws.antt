-- The tallies of an accepted table's counters, and the figures that they make.
-- Assumes nothing.
use mathlib.Core.Path.{◌≡◌, refl, ap, ap₂, sym, ◌∙◌, subst}
use mathlib.Core.Bool.{true}
use mathlib.Core.List.{List, ◌∷◌, map}
use Prim.Native.Nat.{ℕ, zero, suc, ◌+◌, ◌≤◌, ◌<◌}
use native.Mathlib.Omega.{arith}
use lib.ListN.{length, take, drop, get_or, length-map}
use lib.Seq.{length-take-le}
use borrow.Author.Tests.{leb-true}
use Rattle.model.specs.Lists.{up_from}
use Rattle.model.specs.Table.{Table}
use Rattle.model.specs.Counters.{counters}
use Rattle.model.specs.Figures.{Item, in_total, item_of, item_count, at_least, weight, total, covered, figure_of, group_of, item_at, item_figure, group_figure}
use Rattle.model.specs.Format.{accepted, table_of}
use Rattle.model.specs.Register.{counter_total, counts_of, words_needed, long_enough}
use Rattle.model.specs.Lists.{as_bit}
use Rattle.model.proofs.Group.{covered_le}
use Rattle.model.proofs.MeasureBounds.{words_few}
use Rattle.model.proofs.Lists.{length_part}
use Rattle.model.proofs.Readers.{All, all-at}
use Rattle.model.proofs.Sections.{acceptance, accepted_decodes}
use Rattle.arrays.specs.Put.{put}
use Rattle.arrays.specs.Flat.{total_flags, items_of}
use Rattle.figures.specs.Figures.{item, items_from, group_case, figure_case}
use Rattle.figures.specs.declared.Figure.{Figure}
use Rattle.std.specs.Prelude as std
use Rattle.tallies.specs.declared.ItemTally.{ItemTally}
use Rattle.tallies.specs.Tallies.{item_total, item_covered, no_tally, Tallied, ItemNumbers}
use Rattle.coverage.specs.Items.{leasts_of, item_with, mean_of, Within}
use Rattle.coverage.specs.Answers.{item_answer, group_answer, TalliesOf}
use Rattle.arrays.proofs.PutLaws.{front_kept}
use Rattle.tallies.proofs.TallyLaws.{total_exact, covered-exact}
use Rattle.coverage.proofs.ItemLaws.{least-there, items_few}
use Rattle.coverage.proofs.NumberLaws.{items-below}

pub items-length : (t : Table) → length (items_of t (counters t)) ≡ counter_total t
unfolding items_of
items-length t = length-map (counters t) (item_of t)

pub totals-length : (t : Table) → length (total_flags t (counters t)) ≡ counter_total t
unfolding total_flags
totals-length t = length-map (counters t) (λ c. as_bit (in_total t c))

-- ---- an accepted table, and a register that is long enough

module _ (b : List ℕ) (ok : accepted b ≡ true) (w : List ℕ) (long : long_enough (table_of b) w ≡ true) (k : ℕ) (ek : k ≡ counter_total (table_of b)) where
  pub counters_few : k ≤ 65536
  unfolding words_needed
  counters_few = let a = acceptance b (table_of b) (accepted_decodes b ok) in omega (arith, words_few b (table_of b) (length b) a.layout a.limited)

  pub counters_there : 2 + k ≤ length w
  unfolding words_needed
  counters_there = omega (arith, leb-true (words_needed (table_of b)) (length w) long)

  pub counts-long : length (take k (drop 2 w)) ≡ k
  counts-long = length_part w 2 k counters_there

  counts : take k (drop 2 w) ≡ counts_of (table_of b) w
  unfolding counts_of
  counts = ap (λ (n : ℕ). take n (drop 2 w)) ek

  module _ (xs₀ xs fs₀ fs : List ℕ) (ex : xs ≡ put 0 (items_of (table_of b) (counters (table_of b))) xs₀) (kx : length xs ≡ length xs₀)
      (ef : fs ≡ put 0 (total_flags (table_of b) (counters (table_of b))) fs₀) (kf : length fs ≡ length fs₀) where
    items-front : (take k xs ≡ items_of (table_of b) (counters (table_of b))) × (k ≤ length xs)
    items-front = front_kept k (items_of (table_of b) (counters (table_of b))) xs₀ xs (items-length (table_of b) ∙ sym ek) ex kx

    flags_front : (take k fs ≡ total_flags (table_of b) (counters (table_of b))) × (k ≤ length fs)
    flags_front = front_kept k (total_flags (table_of b) (counters (table_of b))) fs₀ fs (totals-length (table_of b) ∙ sym ek) ef kf

    items_room : k ≤ length xs
    items_room = items-front.1

    pub items-long : length (take k xs) ≡ k
    items-long = length-take-le k xs items_room

    flags_room : k ≤ length fs
    flags_room = flags_front.1

    pub flags-long : length (take k fs) ≡ k
    flags-long = length-take-le k fs flags_room

    pub numbers-there : ItemNumbers (take k xs)
    unfolding ItemNumbers
    numbers-there i h = all-at (λ x. x < 24) 0 (omega arith) (take k xs) (subst (All (λ x. x < 24)) (sym items-front.0) (items-below b ok)) i

    total-now : (j : ℕ) → item_total j (take k xs) (take k fs) ≡ total (table_of b) j (counters (table_of b))
    total-now j = ap₂ (item_total j) items-front.0 flags_front.0 ∙ total_exact (table_of b) j (counters (table_of b))

    covered-now : (j least : ℕ) → least ≡ at_least (table_of b) j → item_covered j least (take k xs) (take k fs) (take k (drop 2 w)) ≡ covered (table_of b) j (counters (table_of b)) (counts_of (table_of b) w)
    covered-now j least e =
        ap₂ (λ (x f : List ℕ). item_covered j least x f (take k (drop 2 w))) items-front.0 flags_front.0
        ∙ ap₂ (λ (n : ℕ) (ns : List ℕ). item_covered j n (items_of (table_of b) (counters (table_of b))) (total_flags (table_of b) (counters (table_of b))) ns) e counts
        ∙ covered-exact (table_of b) j (counters (table_of b)) (counts_of (table_of b) w)

    pub tallies-whole : (ls₀ ls : List ℕ) (r : List ItemTally) → ls ≡ put 0 (leasts_of (table_of b)) ls₀
        → Tallied (take k xs) (take k fs) (take k (drop 2 w)) ls r → TalliesOf (table_of b) w r
    tallies-whole ls₀ ls r e y = record {
      sized = y.sized;
      totals_are = λ j h. y.totals j (omega (arith, items_few b ok)) ∙ total-now j;
      covered_are = λ j h. y.covered j (omega (arith, items_few b ok)) ∙ covered-now j (get_or ls j 0) (least-there (table_of b) ls₀ ls e j h);
    }

-- ---- figures

module _ (t : Table) (w : List ℕ) (y : List ItemTally) (h : TalliesOf t w y) where
  pub figure_exact : (i : ℕ) → i < item_count t → (r : Figure) → r ≡ figure_case (figure_of (get_or y i no_tally).covered (get_or y i no_tally).total) → r ≡ item_answer t w i
  unfolding item_figure
  figure_exact i l r e = e ∙ ap₂ (λ (c n : ℕ). figure_case (figure_of c n)) (h.covered_are i l) (h.totals_are i l)

  pub tallies_within : Within (item_count t) y
  unfolding Within
  tallies_within j l = omega (arith, h.totals_are j l, h.covered_are j l, covered_le t j (counters t) (counts_of t w))

  same_items : (i n : ℕ) → i + n ≤ item_count t → map (item_with t y) (up_from i n) ≡ map (item_at t (counters t) (counts_of t w)) (up_from i n)
  unfolding up_from
  same_items i zero l = refl
  same_items i (suc n) l = ap₂ ◌∷◌ (ap₂ (item (weight t i)) (h.totals_are i (omega arith)) (h.covered_are i (omega arith))) (same_items (suc i) n (omega arith))

  pub group_exact : (r : std.Option ℕ) → r ≡ mean_of t y → r ≡ group_answer t w
  unfolding mean_of items_from group_figure
  group_exact r e = e ∙ ap (λ (is : List Item). group_case (group_of is)) (same_items 0 (item_count t) (omega arith))
