-- What a turn of the loops over sequences and transition bins does to their places in the table, and to the rows that are left.
-- Assumes nothing.
use mathlib.Core.Path.{◌≡◌, refl, sym, ap, ap₂, ◌∙◌}
use mathlib.Core.Bool.{true, ◌&&◌}
use mathlib.Core.List.{List, [], ◌∷◌, ◌++◌}
use Prim.Native.Nat.{ℕ, zero, suc, ◌+◌, ◌-◌, ◌*◌, ◌≤◌, ◌<◌}
use native.Mathlib.Omega.{arith}
use lib.Dec.{leb, ltb}
use lib.ListN.{length, length-append}
use borrow.Author.Tests.{leb-true}
use Rattle.model.specs.Lists.{all, sum_of, concat_of}
use Rattle.model.specs.Table.{Step, TransitionBin}
use Rattle.model.specs.Sampling.{run_length}
use Rattle.model.specs.Format.{byte}
use Rattle.model.specs.Raw.{rows, step_total, range_total, steps_at, sequences_at, transition_at, transitions_at}
use Rattle.model.proofs.Booleans.{and_left, and_right}
use Rattle.model.proofs.Lists.{one_left, none_left}
use Rattle.sequences.proofs.Places.{length-steps_at, steps-suc, ranges-add}
use Rattle.runs.specs.Runs.{sequence_fits, bin_fits}
use Rattle.runs.specs.Rows.{sequence_row, bin_row, Past}

length-sequences_at : (s : List ℕ) (q p r n : ℕ) → length (sequences_at s q p r n) ≡ n
unfolding sequences_at
length-sequences_at s q p r zero = refl
length-sequences_at s q p r (suc n) = ap suc (length-sequences_at s (q + 1) _ _ n)

-- ---- the sequences of a bin

-- i of n sequences are done. The steps and step ranges of those that are left begin at `steps` and `ranges`.
pub record Walk (s : List ℕ) (q p r n : ℕ) (i steps ranges : ℕ) : Type 0 where
  pub few : i ≤ n
  pub steps_near : steps ≤ p + 48 * i
  pub ranges_near : ranges ≤ r + 69360 * i
  pub fit : all sequence_fits (sequences_at s (q + i) steps ranges (n - i)) ≡ true
  pub steps_left : steps + 3 * step_total s (q + i) (n - i) ≡ p + 3 * step_total s q n
  pub ranges_left : ranges + 17 * range_total s steps (step_total s (q + i) (n - i)) ≡ r + 17 * range_total s p (step_total s q n)

module _ (s : List ℕ) (q p r n : ℕ) where
  sequences_start : sequences_at s (q + 0) p r (n - 0) ≡ sequences_at s q p r n
  sequences_start = ap₂ (λ (x m : ℕ). sequences_at s x p r m) (let y : q + 0 ≡ q = omega arith in y) (let y : n - 0 ≡ n = omega arith in y)

  pub rows_start : concat_of sequence_row (sequences_at s (q + 0) p r (n - 0)) ≡ concat_of sequence_row (sequences_at s q p r n)
  rows_start = ap (concat_of sequence_row) sequences_start

  pub walk_start : all sequence_fits (sequences_at s q p r n) ≡ true → Walk s q p r n 0 p r
  walk_start e =
      let z : step_total s (q + 0) (n - 0) ≡ step_total s q n = ap₂ (step_total s) (let y : q + 0 ≡ q = omega arith in y) (let y : n - 0 ≡ n = omega arith in y) in
      record {
        few = omega arith;
        steps_near = omega arith;
        ranges_near = omega arith;
        fit = ap (all sequence_fits) sequences_start ∙ e;
        steps_left = ap (λ (x : ℕ). p + 3 * x) z;
        ranges_left = ap (λ (x : ℕ). r + 17 * range_total s p x) z;
      }

  module _ (i steps ranges : ℕ) (walk : Walk s q p r n i steps ranges) where
    module _ (h : i < n) (k : ℕ) (ek : k ≡ byte s (q + i)) where
      sequence : List Step
      sequence = steps_at s steps ranges k

      rest : List (List Step)
      rest = sequences_at s (q + (i + 1)) (steps + 3 * k) (ranges + 17 * range_total s steps k) (n - (i + 1))

      -- the sequences that are left: this one, and the rest
      sequences-turn : sequences_at s (q + i) steps ranges (n - i) ≡ sequence ∷ rest
      unfolding sequences_at sequence rest
      sequences-turn =
          ap (sequences_at s (q + i) steps ranges) (one_left n i h)
          ∙ ap₂ (λ (x y : ℕ). steps_at s steps ranges x ∷ sequences_at s y (steps + 3 * x) (ranges + 17 * range_total s steps x) (n - (i + 1)))
          (sym ek) (let y : q + i + 1 ≡ q + (i + 1) = omega arith in y)

      total_turn : step_total s (q + i) (n - i) ≡ k + step_total s (q + (i + 1)) (n - (i + 1))
      total_turn =
          ap (step_total s (q + i)) (one_left n i h) ∙ steps-suc s (q + i) (n - (i + 1))
          ∙ ap₂ (λ (x y : ℕ). x + step_total s y (n - (i + 1))) (sym ek) (let y : q + i + 1 ≡ q + (i + 1) = omega arith in y)

      fit-turn : (sequence_fits sequence && all sequence_fits rest) ≡ true
      unfolding all
      fit-turn = ap (all sequence_fits) (sym sequences-turn) ∙ walk.fit

      pub walk_here : k ≤ 16
      unfolding sequence_fits sequence
      walk_here =
          let e = and_left (sequence_fits sequence) (all sequence_fits rest) fit-turn in
          let few = leb-true (length sequence) 16 (and_left (leb (length sequence) 16) (leb (run_length sequence) 32) e) in
          omega (arith, length-steps_at s steps ranges k)

      module _ (m : ℕ) (em : m ≡ range_total s steps k) where
        same : sequences_at s (q + (i + 1)) (steps + 3 * k) (ranges + 17 * m) (n - (i + 1)) ≡ rest
        unfolding rest
        same = ap (λ (x : ℕ). sequences_at s (q + (i + 1)) (steps + 3 * k) (ranges + 17 * x) (n - (i + 1))) em

        pub walk_turn : m ≤ 255 * k → Walk s q p r n (i + 1) (steps + 3 * k) (ranges + 17 * m)
        walk_turn lm =
            let z = step_total s (q + (i + 1)) (n - (i + 1)) in
            let few = walk_here in
            let added : range_total s steps (step_total s (q + i) (n - i)) ≡ range_total s steps k + range_total s (steps + 3 * k) z = ap (range_total s steps) total_turn ∙ ranges-add s steps k z in
            record {
              few = omega arith;
              steps_near = omega (arith, walk.steps_near);
              ranges_near = omega (arith, walk.ranges_near);
              fit = ap (all sequence_fits) same ∙ and_right (sequence_fits sequence) (all sequence_fits rest) fit-turn;
              steps_left = omega (arith, total_turn, walk.steps_left);
              ranges_left = omega (arith, added, walk.ranges_left);
            }

        pub rows_turn : concat_of sequence_row (sequences_at s (q + i) steps ranges (n - i))
            ≡ sequence_row (steps_at s steps ranges k) ++ concat_of sequence_row (sequences_at s (q + (i + 1)) (steps + 3 * k) (ranges + 17 * m) (n - (i + 1)))
        unfolding concat_of sequence
        rows_turn = ap (concat_of sequence_row) sequences-turn ∙ ap (λ (x : List (List Step)). sequence_row sequence ++ concat_of sequence_row x) (sym same)

    pub rows_none : n ≤ i → concat_of sequence_row (sequences_at s (q + i) steps ranges (n - i)) ≡ []
    unfolding sequences_at concat_of
    rows_none h = ap (λ (m : ℕ). concat_of sequence_row (sequences_at s (q + i) steps ranges m)) (none_left n i h)

    pub walk_end : n ≤ i → Past s q p r n steps ranges
    walk_end h =
        let e : i ≡ n = omega (arith, walk.few) in
        let z : step_total s (q + i) (n - i) ≡ 0 = ap (step_total s (q + i)) (none_left n i h) ∙ (unfold step_total rows sum_of in refl) in
        let y : range_total s steps (step_total s (q + i) (n - i)) ≡ 0 = ap (range_total s steps) z ∙ (unfold range_total rows sum_of in refl) in
        record {
          steps_end = omega (arith, walk.steps_left);
          ranges_end = omega (arith, walk.ranges_left);
          steps_near = omega (arith, walk.steps_near);
          ranges_near = omega (arith, walk.ranges_near);
        }

-- ---- the transition bins

-- i of n bins are done. The sequences, steps and step ranges of those that are left begin at `sequence`, `steps` and `ranges`.
pub record Bins (s : List ℕ) (b q p r n : ℕ) (i sequence steps ranges : ℕ) : Type 0 where
  pub few : i ≤ n
  pub sequence_near : sequence ≤ q + 255 * i
  pub steps_near : steps ≤ p + 12240 * i
  pub ranges_near : ranges ≤ r + 17686800 * i
  pub fit : all bin_fits (transitions_at s (b + 4 * i) sequence steps ranges (n - i)) ≡ true

module _ (s : List ℕ) (b q p r n : ℕ) where
  transitions_start : transitions_at s (b + 4 * 0) q p r (n - 0) ≡ transitions_at s b q p r n
  transitions_start = ap₂ (λ (x m : ℕ). transitions_at s x q p r m) (let y : b + 4 * 0 ≡ b = omega arith in y) (let y : n - 0 ≡ n = omega arith in y)

  pub bins_rows_start : concat_of bin_row (transitions_at s (b + 4 * 0) q p r (n - 0)) ≡ concat_of bin_row (transitions_at s b q p r n)
  bins_rows_start = ap (concat_of bin_row) transitions_start

  pub bins_start : all bin_fits (transitions_at s b q p r n) ≡ true → Bins s b q p r n 0 q p r
  bins_start e = record {
    few = omega arith;
    sequence_near = omega arith;
    steps_near = omega arith;
    ranges_near = omega arith;
    fit = ap (all bin_fits) transitions_start ∙ e;
  }

  module _ (i sequence steps ranges : ℕ) (bins : Bins s b q p r n i sequence steps ranges) where
    module _ (h : i < n) (k : ℕ) (ek : k ≡ byte s (b + 4 * i + 3)) where
      bin : TransitionBin
      bin = transition_at s (b + 4 * i) sequence steps ranges

      bin-rest : List TransitionBin
      bin-rest = transitions_at s (b + 4 * (i + 1)) (sequence + k) (steps + 3 * step_total s sequence k) (ranges + 17 * range_total s steps (step_total s sequence k)) (n - (i + 1))

      -- the bins that are left: this one, and the rest
      bin-turn : transitions_at s (b + 4 * i) sequence steps ranges (n - i) ≡ bin ∷ bin-rest
      unfolding transitions_at bin bin-rest
      bin-turn =
          ap (transitions_at s (b + 4 * i) sequence steps ranges) (one_left n i h)
          ∙ ap₂ (λ (x m : ℕ). transition_at s (b + 4 * i) sequence steps ranges ∷ transitions_at s x (sequence + m) (steps + 3 * step_total s sequence m) (ranges + 17 * range_total s steps (step_total s sequence m)) (n - (i + 1)))
          (let y : b + 4 * i + 4 ≡ b + 4 * (i + 1) = omega arith in y) (sym ek)

      bin-fit-turn : (bin_fits bin && all bin_fits bin-rest) ≡ true
      unfolding all
      bin-fit-turn = ap (all bin_fits) (sym bin-turn) ∙ bins.fit

      owned : sequences_at s sequence steps ranges k ≡ bin.sequences
      unfolding bin
      owned = ap (sequences_at s sequence steps ranges) ek

      pub bins-here : all sequence_fits (sequences_at s sequence steps ranges k) ≡ true
      unfolding bin_fits
      bins-here =
          ap (all sequence_fits) owned
          ∙ and_right (ltb bin.point 16) (all sequence_fits bin.sequences) (and_left (bin_fits bin) (all bin_fits bin-rest) bin-fit-turn)

      bin-row : (point : ℕ) → point ≡ byte s (b + 4 * i) → bin_row bin ≡ point ∷ k ∷ concat_of sequence_row (sequences_at s sequence steps ranges k)
      unfolding bin_row bin
      bin-row point ep =
          let sss = sequences_at s sequence steps ranges in
          ap₂ (λ (x : ℕ) (m : ℕ). x ∷ length (sss m) ∷ concat_of sequence_row (sss m)) (sym ep) (sym ek)
          ∙ ap (λ (m : ℕ). point ∷ m ∷ concat_of sequence_row (sss k)) (length-sequences_at s sequence steps ranges k)

      -- what is left to write: this bin's row, and those of the rest
      row_first : (point : ℕ) → point ≡ byte s (b + 4 * i)
          → concat_of bin_row (transitions_at s (b + 4 * i) sequence steps ranges (n - i)) ≡ (point ∷ k ∷ concat_of sequence_row (sequences_at s sequence steps ranges k)) ++ concat_of bin_row bin-rest
      unfolding concat_of
      row_first point ep = ap (concat_of bin_row) bin-turn ∙ ap (◌++ concat_of bin_row bin-rest) (bin-row point ep)

      module _ (steps' ranges' : ℕ) (past : Past s sequence steps ranges k steps' ranges') where
        rests : transitions_at s (b + 4 * (i + 1)) (sequence + k) steps' ranges' (n - (i + 1)) ≡ bin-rest
        unfolding bin-rest
        rests = ap₂ (λ (x y : ℕ). transitions_at s (b + 4 * (i + 1)) (sequence + k) x y (n - (i + 1))) past.steps_end past.ranges_end

        pub bins_turn : k ≤ 255 → Bins s b q p r n (i + 1) (sequence + k) steps' ranges'
        bins_turn few = record {
          few = omega arith;
          sequence_near = omega (arith, bins.sequence_near);
          steps_near = omega (arith, bins.steps_near, past.steps_near);
          ranges_near = omega (arith, bins.ranges_near, past.ranges_near);
          fit = ap (all bin_fits) rests ∙ and_right (bin_fits bin) (all bin_fits bin-rest) bin-fit-turn;
        }

        pub bins-rows-turn : (point : ℕ) → point ≡ byte s (b + 4 * i)
            → concat_of bin_row (transitions_at s (b + 4 * i) sequence steps ranges (n - i))
            ≡ (point ∷ k ∷ concat_of sequence_row (sequences_at s sequence steps ranges k)) ++ concat_of bin_row (transitions_at s (b + 4 * (i + 1)) (sequence + k) steps' ranges' (n - (i + 1)))
        bins-rows-turn point ep =
            row_first point ep ∙ ap (λ (x : List TransitionBin). (point ∷ k ∷ concat_of sequence_row (sequences_at s sequence steps ranges k)) ++ concat_of bin_row x) (sym rests)

      -- the plan has room for the bin's row
      pub bins-room : (point : ℕ) → point ≡ byte s (b + 4 * i) → (c : ℕ) (at whole room : ℕ)
          → c + length (concat_of bin_row (transitions_at s (b + 4 * i) sequence steps ranges (n - i))) ≡ at + whole → at + whole ≤ room
          → c + 2 + length (concat_of sequence_row (sequences_at s sequence steps ranges k)) ≤ room
      bins-room point ep c at whole room e h =
          let xs = concat_of sequence_row (sequences_at s sequence steps ranges k) in
          omega (arith, ap length (row_first point ep), length-append (point ∷ k ∷ xs) (concat_of bin_row bin-rest))

    pub bins-rows-none : n ≤ i → concat_of bin_row (transitions_at s (b + 4 * i) sequence steps ranges (n - i)) ≡ []
    unfolding transitions_at concat_of
    bins-rows-none h = ap (λ (m : ℕ). concat_of bin_row (transitions_at s (b + 4 * i) sequence steps ranges m)) (none_left n i h)
