-- The verdict of section 5, in the form in which `search` applies it.
-- Assumes nothing.
use Prim.Native.Nat.{ℕ, ◌+◌}
use mathlib.Core.Path.{◌≡◌, refl, sym, ap, ◌∙◌}
use mathlib.Core.List.{List}
use borrow.Author.Rules.{rules}
use Rattle.model.specs.Lists.{sum_of}
use Rattle.model.specs.Format.{times, each, owned_count, TransitionHead, transition_head, sequences_owned, with_owned, read_sequence, read_sequences, read_sequence_section}
use Rattle.model.specs.Raw.{rows}
use Rattle.std.proofs.Common.{Ok, Err}
use Rattle.words.specs.Verdicts.{Verdict, verdict_of}
use Rattle.words.specs.declared.verdicts.Fault.{Fault}
use Rattle.words.proofs.Laws.{record_in}
use Rattle.words.proofs.Chain.{bind_done}
use Rattle.words.specs.Sums.{byte_sum}
use Rattle.words.proofs.Chain.{count_stop, count_on}
use Rattle.words.proofs.Flat.{each_times}
use Rattle.words.proofs.ByteSums.{byte-field}

-- how many sequences n bins own
pub sequence-total : (s : List ℕ) (b n : ℕ) → byte_sum s 4 (b + 3) n ≡ sum_of sequences_owned (rows (transition_head s) 4 b n)
sequence-total s b n = byte-field s sequences_owned (transition_head s) 4 3 (λ at. refl) b n

-- the sequences of all bins are one row
sequences_flat : (s : List ℕ) (os : List (TransitionHead ℕ)) (at : ℕ) → verdict_of (each (read_sequences s) os at) ≡ verdict_of (times (sum_of sequences_owned os) (read_sequence s) at)
unfolding read_sequences
sequences_flat s os at = each_times (read_sequences s) (read_sequence s) sequences_owned (λ o at. sym (bind_done (times o.owned (read_sequence s)) (with_owned o) at _ refl)) os at

module _ (s : List ℕ) (b n at sum : ℕ) (own : sum ≡ byte_sum s 4 (b + 3) n) where
  pub sequence_stop : (f : Fault) → Err f ≡ verdict_of (owned_count s 64 sum at) → Err f ≡ verdict_of (read_sequence_section s (rows (transition_head s) 4 b n) at)
  unfolding read_sequence_section
  sequence_stop f e = count_stop s 64 at sum _ _ (own ∙ sequence-total s b n) f e

  pub sequence_on : (next : ℕ) (y : Verdict) → Ok next ≡ verdict_of (owned_count s 64 sum at) → y ≡ verdict_of (times sum (read_sequence s) next)
      → y ≡ verdict_of (read_sequence_section s (rows (transition_head s) 4 b n) at)
  unfolding read_sequence_section
  sequence_on next y e h =
      let total = own ∙ sequence-total s b n in
      count_on s 64 at sum _ _ total next y e
      (h ∙ ap (λ (k : ℕ). verdict_of (times k (read_sequence s) next)) total ∙ sym (sequences_flat s (rows (transition_head s) 4 b n) next))

pub ruleset sequences = (rules, record_in, sequence_stop, sequence_on)
