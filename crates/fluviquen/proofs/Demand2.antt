-- Demand 2: an accepted sample raises exactly the counters that `hits` names, by 1, and reports exactly the illegal ones; the group's figure keeps its bounds.
-- Assumes nothing.
use mathlib.Core.Path.{◌≡◌, refl, sym, ap, ◌∙◌}
use mathlib.Core.List.{List, ◌++◌, map}
use mathlib.Core.Option.{some}
use Prim.Native.Nat.{ℕ, zero, suc, ◌+◌, ◌≤◌}
use native.Mathlib.Omega.{arith}
use lib.ListN.{length, take, drop, length-map}
use lib.Seq.{take_at, drop_at}
use borrow.Author.Tests.{leb-true}
use Rattle.model.specs.Lists.{up_from, keep, pair_up, as_bit, first_failed}
use Rattle.model.specs.Table.{Table}
use Rattle.model.specs.Counters.{counters, is_illegal}
use Rattle.model.specs.Sampling.{Stretches, hits, adds_unknown}
use Rattle.model.specs.Figures.{item_at, item_count, group_figure, GroupBound}
use Rattle.model.specs.Format.{Outcome, decoded, decode}
use Rattle.model.specs.Register.{point_total, words_needed, illegal_total, flag_of, samples_of, counts_of, unknowns_of, runs_of, sequences, next_runs, all_lengths, run_stretches, sampled_words, report_words, sampled_report, sample, ask_group, millionths, Response, Effect, long_enough, call_tests, accept, perform, on_table, on_outcome, call}
use Rattle.model.proofs.Lists.{length-keep, first-passed}
use Rattle.model.proofs.Group.{group_figure-bound}
use Rattle.turns.proofs.SampledWords.{new_runs, counts_are, unknowns_are, runs_are, beyond_are}
use Rattle.fluviquen.proofs.Steps.{Step, step_is}

-- ---- a sample

-- which stretches match, by the run words
abbrev pub stretches_by : Table → List ℕ → Stretches
stretches_by t runs = run_stretches (all_lengths t.transition_bins runs)

-- What an accepted sample v does to the register w and the report p: `after` and `report`.
pub record Sampled (t : Table) (v w p after report : List ℕ) : Type 0 where
  pub flag : flag_of after ≡ flag_of w
  pub samples : samples_of after ≡ suc (samples_of w)
  pub runs : runs_of t after ≡ next_runs t v (sequences t) (runs_of t w)
  -- 1 more at each counter that the sample hits, by the run words after it; the others as they were
  pub counts : counts_of t after ≡ pair_up (λ ctr n. as_bit (hits t v (stretches_by t (runs_of t after)) ctr) + n) (counters t) (counts_of t w)
  pub unknowns : unknowns_of t after ≡ pair_up (λ q n. as_bit (adds_unknown t v q) + n) (up_from 0 (point_total t)) (unknowns_of t w)
  pub beyond : drop (words_needed t) after ≡ drop (words_needed t) w
  pub reported : take (illegal_total t) report ≡ map (λ ctr. as_bit (hits t v (stretches_by t (runs_of t after)) ctr)) (keep is_illegal (counters t))
  pub stays : drop (illegal_total t) report ≡ drop (illegal_total t) p

module _ (t : Table) (v w p : List ℕ) (long : words_needed t ≤ length w) where
  flags : List ℕ
  flags = map (λ ctr. as_bit (hits t v (stretches_by t (new_runs t v w)) ctr)) (keep is_illegal (counters t))

  flags_length : length flags ≡ illegal_total t
  unfolding flags illegal_total
  flags_length = length-map (keep is_illegal (counters t)) (λ ctr. as_bit (hits t v (stretches_by t (new_runs t v w)) ctr)) ∙ length-keep is_illegal (counters t)

  report_is : sampled_report t v w p ≡ flags ++ drop (illegal_total t) p
  unfolding sampled_report report_words flags
  report_is = refl

  pub sampled : Sampled t v w p (sampled_words t v w) (sampled_report t v w p)
  unfolding sampled_words flags
  sampled =
      let runs = runs_are t v w long in
      record {
        flag = refl;
        samples = refl;
        runs = runs;
        counts = counts_are t v w long ∙ ap (λ (runs : List ℕ). pair_up (λ ctr n. as_bit (hits t v (stretches_by t runs) ctr) + n) (counters t) (counts_of t w)) (sym runs);
        unknowns = unknowns_are t v w long;
        beyond = beyond_are t v w long;
        reported =
            ap (take (illegal_total t)) report_is ∙ take_at flags (drop (illegal_total t) p) (illegal_total t) flags_length
            ∙ ap (λ (runs : List ℕ). map (λ ctr. as_bit (hits t v (stretches_by t runs) ctr)) (keep is_illegal (counters t))) (sym runs);
        stays = ap (drop (illegal_total t)) report_is ∙ drop_at flags (drop (illegal_total t) p) (illegal_total t) flags_length;
      }

-- An accepted call of `fluviquen_sample`.
pub demand2-sample : (s w v p : List ℕ) (x : Response) (after : List ℕ) → Step s w (sample v p) x after → (t : Table) → decode s ≡ decoded t → x.number ≡ 0
    → Sampled t v w p after x.report
unfolding call on_table accept call_tests
demand2-sample s w v p x after h t e z =
    let k = sym (step_is s w (sample v p) x after h) ∙ ap (λ (o : Outcome). on_outcome o w (sample v p)) e in
    go (first_failed (call_tests t w (sample v p))) refl k
  where
    go : (n : ℕ) → first_failed (call_tests t w (sample v p)) ≡ n → record { response = x; words = after } ≡ perform n t w (sample v p) → Sampled t v w p after x.report
    go zero f k =
        let l = (first-passed (long_enough t w) 7 _ (omega arith) f).0 in
        let y = ap (λ (r : Effect). r.response.report) k in
        let a = ap (λ (r : Effect). r.words) k in
        rw (a, y) (sampled t v w p (leb-true (words_needed t) (length w) l))
    go (suc n) f k = absurd (omega (arith, sym (ap (λ (r : Effect). r.response.number) k) ∙ z))

-- ---- the group's figure

group-answer : (k : ℕ) (t : Table) (w : List ℕ) (m : ℕ) → (perform k t w ask_group).response.answer ≡ millionths (some m) → group_figure t (counters t) (counts_of t w) ≡ some m
unfolding accept
group-answer zero t w m h = cc
group-answer (suc k) t w m h = let z : ◌≡◌ {A = ℕ} 0 1 = cc in absurd (omega arith)

pub demand2-group : (s w : List ℕ) (x : Response) (after : List ℕ) → Step s w ask_group x after → (t : Table) → decode s ≡ decoded t → (m : ℕ) → x.answer ≡ millionths (some m)
    → GroupBound (map (item_at t (counters t) (counts_of t w)) (up_from 0 (item_count t))) m
unfolding call on_table
demand2-group s w x after h t e m a =
    let k = ap (λ (f : Effect). f.response.answer) (step_is s w ask_group x after h) ∙ a in
    let d = ap (λ (o : Outcome). (on_outcome o w ask_group).response.answer) e in
    group_figure-bound t (counters t) (counts_of t w) m (group-answer (first_failed (call_tests t w ask_group)) t w m (sym d ∙ k))
