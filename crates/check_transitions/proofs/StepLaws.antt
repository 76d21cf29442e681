-- The verdict of section 6, in the form in which `search` applies it.
-- Assumes nothing.
use Prim.Native.Nat.{ℕ, zero, suc, ◌+◌, ◌*◌, ◌-◌, ◌≤◌}
use mathlib.Core.Path.{◌≡◌, refl, sym, ap, ap₂, ◌∙◌}
use mathlib.Core.Bool.{◌&&◌}
use mathlib.Core.List.{List, [], ◌∷◌, ◌++◌}
use native.Mathlib.Omega.{arith}
use lib.Dec.{leb}
use lib.ListN.{length}
use borrow.Author.Rules.{rules}
use Rattle.model.specs.Lists.{sum_of, concat_of}
use Rattle.model.specs.Format.{disagreement, got, tested, times, each, byte, owned_count, TransitionHead, steps_owned, with_owned, StepHead, step_tests, step_head, read_step, sums_ok, read_steps, read_bin_steps, read_step_section}
use Rattle.model.specs.Raw.{rows, lengths_at, step_heads_at, length_heads_at}
use Rattle.model.proofs.RawLaws.{rows-add}
use Rattle.model.proofs.RawTransitions.{steps_says}
use Rattle.std.proofs.Common.{Ok, Err}
use Rattle.words.specs.Verdicts.{Verdict, verdict_of, verdict_in}
use Rattle.words.specs.declared.verdicts.Fault.{Fault}
use Rattle.words.proofs.Laws.{verdict-tested, record_in, each_start, each-done}
use Rattle.words.proofs.Chain.{bind_stop, bind_done, rows_on}
use Rattle.words.specs.Sums.{byte_sum}
use Rattle.words.proofs.Chain.{count_stop, count_on, says_in}
use Rattle.words.proofs.Flat.{each_each, owner_stop, owner_on}
use Rattle.words.proofs.ByteSums.{byte-field, byte_field₀, bytes-add}

-- ---- the steps of one sequence

module _ (s : List ℕ) (n at : ℕ) where
  pub steps_stop : (f : Fault) → Err f ≡ verdict_of (times n (read_step s) at) → Err f ≡ verdict_of (read_steps s n at)
  unfolding read_steps
  steps_stop f e = bind_stop (times n (read_step s)) _ at f e

  pub steps_on : (end : ℕ) (y : Verdict) (leasts mosts : ℕ) → Ok end ≡ verdict_of (times n (read_step s) at)
      → leasts ≡ byte_sum s 3 (at + 1) n → mosts ≡ byte_sum s 3 (at + 2) n
      → y ≡ verdict_in ((leb 2 leasts && leb mosts 32, disagreement, end - 3) ∷ []) (Ok end) → y ≡ verdict_of (read_steps s n at)
  unfolding read_steps read_step
  steps_on end y leasts mosts e l m h =
      let ss = step_heads_at s at n in
      rows_on s 3 (step_tests s) (step_head s) _ n at end y e
      (h
      ∙ ap₂ (λ (l m : ℕ). verdict_in ((leb 2 l && leb m 32, disagreement, end - 3) ∷ []) (Ok end))
      (l ∙ byte-field s (λ st. st.least) (step_head s) 3 1 (λ p. refl) at n) (m ∙ byte-field s (λ st. st.most) (step_head s) 3 2 (λ p. refl) at n)
      ∙ sym (tested-last ss))
    where
      tested-last : (ss : List StepHead)
          → verdict_of (tested ((sums_ok ss, disagreement, end - 3) ∷ []) (got ss end))
          ≡ verdict_in ((sums_ok ss, disagreement, end - 3) ∷ []) (Ok end)
      tested-last ss = unfold verdict_of in (verdict-tested ((sums_ok ss, disagreement, end - 3) ∷ []) (got ss end))

  pub steps_in : (end : ℕ) → at ≤ length s → Ok end ≡ verdict_of (read_steps s n at) → end ≤ length s
  steps_in end h e = says_in _ _ _ _ end (steps_says s n at h) e

pub ruleset steps_each = (rules, steps_in, each_start, each-done, owner_stop, owner_on)

-- ---- the steps of all sequences

lengths_of : TransitionHead (List ℕ) → List ℕ
lengths_of h = h.owned

-- the lengths of all bins' sequences are one row
lengths_flat : (s : List ℕ) (n b q : ℕ) → concat_of lengths_of (length_heads_at s b q n) ≡ lengths_at s q (byte_sum s 4 (b + 3) n)
unfolding lengths_of concat_of length_heads_at byte_sum
lengths_flat s zero b q = unfold rows in refl
lengths_flat s (suc n) b q =
    let m = byte s (b + 3) in
    let rest = byte_sum s 4 (b + 3 + 4) n in
    ap (lengths_at s q m ++◌) (lengths_flat s n (b + 4) (q + m) ∙ ap₂ (λ (x y : ℕ). lengths_at s x (byte_sum s 4 y n)) (let y : q + m ≡ q + 1 * m = omega arith in y) (let y : b + 4 + 3 ≡ b + 3 + 4 = omega arith in y))
    ∙ sym (rows-add (byte s) 1 q m rest)

-- how many steps n bins have
pub step_total_lem : (s : List ℕ) (n b q : ℕ) → byte_sum s 1 q (byte_sum s 4 (b + 3) n) ≡ sum_of steps_owned (length_heads_at s b q n)
unfolding length_heads_at sum_of byte_sum
step_total_lem s zero b q = refl
step_total_lem s (suc n) b q =
    let m = byte s (b + 3) in
    let rest = byte_sum s 4 (b + 3 + 4) n in
    bytes-add s 1 q m rest
    ∙ ap₂ ◌+◌ (byte_field₀ s (λ k. k) (byte s) 1 (λ at. refl) q m)
    (ap₂ (λ (x y : ℕ). byte_sum s 1 x (byte_sum s 4 y n)) (let y : q + 1 * m ≡ q + m = omega arith in y) (let y : b + 3 + 4 ≡ b + 4 + 3 = omega arith in y) ∙ step_total_lem s n (b + 4) (q + m))

steps_flat : (s : List ℕ) (os : List (TransitionHead (List ℕ))) (at : ℕ) → verdict_of (each (read_bin_steps s) os at) ≡ verdict_of (each (read_steps s) (concat_of lengths_of os) at)
unfolding read_bin_steps lengths_of
steps_flat s os at = each_each (read_bin_steps s) (read_steps s) lengths_of (λ o at. sym (bind_done (each (read_steps s) o.owned) (with_owned o) at _ refl)) os at

module _ (s : List ℕ) (b q n at sequences sum : ℕ) (many : sequences ≡ byte_sum s 4 (b + 3) n) (own : sum ≡ byte_sum s 1 q sequences) where
  total_is : sum ≡ sum_of steps_owned (length_heads_at s b q n)
  total_is = own ∙ ap (byte_sum s 1 q) many ∙ step_total_lem s n b q

  pub section_stop : (f : Fault) → Err f ≡ verdict_of (owned_count s 256 sum at) → Err f ≡ verdict_of (read_step_section s (length_heads_at s b q n) at)
  unfolding read_step_section
  section_stop f e = count_stop s 256 at sum _ _ total_is f e

  pub section_on : (next : ℕ) (y : Verdict) → Ok next ≡ verdict_of (owned_count s 256 sum at) → y ≡ verdict_of (each (read_steps s) (lengths_at s q sequences) next)
      → y ≡ verdict_of (read_step_section s (length_heads_at s b q n) at)
  unfolding read_step_section
  section_on next y e h =
      count_on s 256 at sum _ _ total_is next y e
      (h ∙ ap (λ (l : List ℕ). verdict_of (each (read_steps s) l next)) (ap (lengths_at s q) many ∙ sym (lengths_flat s n b q)) ∙ sym (steps_flat s (length_heads_at s b q n) next))

pub ruleset step_section = (rules, record_in, section_stop, section_on)
