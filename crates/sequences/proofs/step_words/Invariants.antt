-- `sequences::step_words` meets its contract. Assumes nothing.
use mathlib.Core.Path.{◌≡◌}
use Prim.Native.Nat.{◌+◌, ◌-◌}
use lib.ListN.{length, take, drop}
use Rattle.sequences.specs.Words.{step_words}
use Rattle.arrays.specs.Put.{put}
use Rattle.sequences.proofs.step_words.Given as goal

abbrev pub invariant-loop-j : goal.invariant-loop-j
invariant-loop-j l =
    (length l.words ≡ length l.initial.words)
    × (put (l.at + l.j) (step_words l.inside l.next (take (l.most - l.j) (drop (l.at + l.j) l.old))) l.words ≡ put l.at (step_words l.inside l.enter (take l.most (drop l.at l.old))) l.initial.words)
