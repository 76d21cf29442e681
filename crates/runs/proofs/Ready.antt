-- What the loops ask of a table's transition bins, and an accepted table grants.
-- Assumes nothing.
use mathlib.Core.Path.{◌≡◌, refl, sym, ap, ap₂, ◌∙◌, subst}
use mathlib.Core.Bool.{true, ◌&&◌}
use mathlib.Core.List.{List, []}
use Prim.Native.Nat.{ℕ, zero, suc, ◌+◌, ◌≤◌, ◌<◌}
use native.Mathlib.Omega.{arith}
use lib.Dec.{leb}
use lib.ListN.{length, get_or, take, drop, length-map, length-drop, get_or-map}
use borrow.Author.Tests.{ltb-true, lt-ltb, leb-true, le-leb}
use Rattle.model.specs.Lists.{all, sum_of, concat_of, within}
use Rattle.model.specs.Table.{Table, no_transition_bin}
use Rattle.model.specs.Counters.{transition_bin_at}
use Rattle.model.specs.Sampling.{run_length}
use Rattle.model.specs.Format.{TransitionHead, decode, decoded, accepted, table_of}
use Rattle.model.specs.Raw.{transitions_at, raw_table}
use Rattle.model.specs.Register.{sequences, run_total, next_runs, all_lengths}
use Rattle.model.proofs.Booleans.{and_right}
use Rattle.model.proofs.Readers.{all-at}
use Rattle.model.proofs.Sections.{Layout, acceptance, accepted_decodes}
use Rattle.model.proofs.Access.{points_access}
use Rattle.model.proofs.AccessTransitions.{transitions_access, sequences_access, transition_head_of}
use Rattle.model.proofs.WellFormed.{Short, WellFormed, well-formed}
use Rattle.model.proofs.Measure.{run-total}
use Rattle.model.proofs.RawExact.{raw-exact}
use Rattle.model.proofs.Lists.{all-numbered}
use Rattle.arrays.specs.Put.{put}
use Rattle.arrays.specs.Flat.{Readings}
use Rattle.arrays.specs.declared.reading.Reading as code
use Rattle.arrays.proofs.PutLaws.{part-put}
use Rattle.layout.specs.Places.{layout_of}
use Rattle.layout.specs.declared.Layout.{Layout as Places}
use Rattle.runs.specs.Runs.{bin_words, all_runs, sequence_fits, bin_fits}
use Rattle.runs.specs.Rows.{bin_row, sequence_rows}
use Rattle.runs.proofs.Exact.{code_read, runs_exact, runs_own}
use Rattle.runs.proofs.Taking.{length-all_runs}

length-transitions : (s : List ℕ) (b q p r n : ℕ) → length (transitions_at s b q p r n) ≡ n
unfolding transitions_at
length-transitions s b q p r zero = refl
length-transitions s b q p r (suc n) = ap suc (length-transitions s (b + 4) _ _ _ n)

sixteen : {n m : ℕ} → within 1 16 n ≡ true → n ≡ m → m ≤ 16
sixteen {n} e z = omega (arith, leb-true n 16 (and_right (leb 1 n) (leb n 16) e))

module _ (s : List ℕ) (e : accepted s ≡ true) where
  read : decode s ≡ decoded (table_of s)
  read = accepted_decodes s e

  pub laid : Layout s (table_of s) (length s)
  laid = (acceptance s (table_of s) read).layout

  pub ok : WellFormed (table_of s)
  ok = well-formed s (table_of s) read

  -- ---- the bins

  pub point_in : (i : ℕ) → i < length (table_of s).transition_bins → (transition_bin_at (table_of s) i).point < length (table_of s).points
  point_in i h =
      let bs = (table_of s).transition_bins in
      let r = (transitions_access s (table_of s) (length s) laid).2.record_at i (omega (arith, length-map bs transition_head_of)) in
      subst (λ (x : TransitionHead ℕ). x.point < length (table_of s).points) (r.said ∙ get_or-map transition_head_of bs i no_transition_bin) (ltb-true _ _ r.passed.0)

  few_steps : (i : ℕ) → i < length (table_of s).transition_bins → (q : ℕ) → q < length (transition_bin_at (table_of s) i).sequences
      → length (get_or (transition_bin_at (table_of s) i).sequences q []) ≤ 16
  few_steps i h q k =
      let sss = (transition_bin_at (table_of s) i).sequences in
      let r = ((sequences_access s (table_of s) (length s) laid).2 i h).record_at q (omega (arith, length-map sss length)) in
      sixteen r.passed.0 (r.said ∙ get_or-map length sss q [])

  short : (i q : ℕ) → run_length (get_or (transition_bin_at (table_of s) i).sequences q []) ≤ 32
  short i q =
      all-at (λ ss. run_length ss ≤ 32) [] (unfold sum_of in (omega arith)) (transition_bin_at (table_of s) i).sequences
      (all-at Short no_transition_bin tt (table_of s).transition_bins ok.sequences i) q

  pub point_few : (i : ℕ) → i < length (table_of s).transition_bins → (transition_bin_at (table_of s) i).point < 16
  point_few i h = omega (arith, point_in i h, (points_access s (table_of s) (length s) laid).0.high)

  pub sequences_fit : (i : ℕ) → i < length (table_of s).transition_bins → all sequence_fits (transition_bin_at (table_of s) i).sequences ≡ true
  unfolding sequence_fits
  sequences_fit i h = all-numbered sequence_fits [] (transition_bin_at (table_of s) i).sequences λ q k. ap₂ ◌&&◌ (le-leb _ 16 (few_steps i h q k)) (le-leb _ 32 (short i q))

  all_fit : all bin_fits (table_of s).transition_bins ≡ true
  unfolding bin_fits
  all_fit = all-numbered bin_fits no_transition_bin (table_of s).transition_bins λ i h. ap₂ ◌&&◌ (lt-ltb _ 16 (point_few i h)) (sequences_fit i h)

  pub few_transitions : length (table_of s).transition_bins ≤ 64
  few_transitions = (transitions_access s (table_of s) (length s) laid).0.high

  -- the register has room for their words
  pub words_room : (at n : ℕ) → at + run_total (table_of s) ≤ n → at + sum_of bin_words (table_of s).transition_bins ≤ n
  words_room at n h = omega (arith, run-total (table_of s))

  -- ---- what was taken

  -- the runs by the readings are the model's next runs
  pub runs_taken : (w : List ℕ) (codes : List code.Reading) (at : ℕ) (w₀ w₁ : List ℕ) → at + run_total (table_of s) ≤ length w₀ → Readings (table_of s) w codes
      → w₁ ≡ put at (all_runs codes (table_of s).transition_bins (drop at w₀)) w₀
      → w₁ ≡ put at (next_runs (table_of s) w (sequences (table_of s)) (take (run_total (table_of s)) (drop at w₀))) w₀
  unfolding sequences
  runs_taken w codes at w₀ w₁ h r e₁ =
      let room : run_total (table_of s) ≤ length (drop at w₀) = simp length-drop (omega arith) in
      e₁
      ∙ ap (λ (xs : List ℕ). put at xs w₀)
      (runs_exact (table_of s) w codes (table_of s).transition_bins (drop at w₀) (λ i k. code_read (table_of s) w codes r (transition_bin_at (table_of s) i).point (point_in i k))
      ∙ runs_own (table_of s) w (sequences (table_of s)) (drop at w₀) room)

  -- and the lengths are those of the register afterwards
  pub lengths_taken : (codes : List code.Reading) (at : ℕ) (w₀ w₁ lens₀ lens₁ : List ℕ) → at + run_total (table_of s) ≤ length w₀
      → w₁ ≡ put at (all_runs codes (table_of s).transition_bins (drop at w₀)) w₀
      → lens₁ ≡ put 0 (all_lengths (table_of s).transition_bins (all_runs codes (table_of s).transition_bins (drop at w₀))) lens₀
      → lens₁ ≡ put 0 (all_lengths (table_of s).transition_bins (take (run_total (table_of s)) (drop at w₁))) lens₀
  lengths_taken codes at w₀ w₁ lens₀ lens₁ h e₁ e =
      let bs = (table_of s).transition_bins in
      let n = run_total (table_of s) in
      let xs = all_runs codes bs (drop at w₀) in
      let room : sum_of bin_words bs ≤ length (drop at w₀) = simp length-drop (omega (arith, words_room at (length w₀) h)) in
      let long : length xs ≡ n = length-all_runs codes bs (drop at w₀) room ∙ sym (run-total (table_of s)) in
      e ∙ ap (λ (z : List ℕ). put 0 (all_lengths bs z) lens₀) (sym (ap (λ (z : List ℕ). take n (drop at z)) e₁ ∙ part-put at n xs w₀ long h))

  -- ---- by the layout's places

  module _ (l : Places) (el : l ≡ layout_of s) where
    pub bins_laid : transitions_at s l.transitions l.sequences l.steps l.step_ranges l.transition_count ≡ (table_of s).transition_bins
    unfolding layout_of raw_table
    bins_laid =
        ap (λ (x : Places). transitions_at s x.transitions x.sequences x.steps x.step_ranges x.transition_count) el
        ∙ sym (ap (λ (u : Table). u.transition_bins) (raw-exact s (table_of s) read))

    -- how many they are, and their rows
    pub bins_counted : l.transition_count ≡ length (table_of s).transition_bins
    bins_counted = sym (length-transitions s l.transitions l.sequences l.steps l.step_ranges l.transition_count) ∙ ap length bins_laid

    pub rows-laid : concat_of bin_row (transitions_at s l.transitions l.sequences l.steps l.step_ranges l.transition_count) ≡ sequence_rows (table_of s)
    unfolding sequence_rows
    rows-laid = ap (concat_of bin_row) bins_laid

    pub rows_written : (at : ℕ) (plan plan' : List ℕ) → plan' ≡ put at (concat_of bin_row (transitions_at s l.transitions l.sequences l.steps l.step_ranges l.transition_count)) plan → plan' ≡ put at (sequence_rows (table_of s)) plan
    rows_written at plan plan' e₁ = e₁ ∙ ap (λ (xs : List ℕ). put at xs plan) rows-laid

    pub few_bins : l.transition_count ≤ 64
    few_bins = omega (arith, bins_counted, few_transitions)

    pub bins-fit : all bin_fits (transitions_at s l.transitions l.sequences l.steps l.step_ranges l.transition_count) ≡ true
    bins-fit = ap (all bin_fits) bins_laid ∙ all_fit
