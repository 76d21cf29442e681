-- `sequences::Run::next` meets its contract: the steps that are left, done to the words as they are, give the whole. Assumes nothing.
use mathlib.Core.Path.{◌≡◌}
use Prim.Native.Nat.{◌+◌, ◌*◌}
use lib.ListN.{length, drop}
use Rattle.sequences.specs.Shapes.{words_of}
use Rattle.sequences.specs.Words.{shape_words}
use Rattle.arrays.specs.Put.{put}
use Rattle.sequences.proofs.Run.next.Given as goal

abbrev pub invariant-loop-s : goal.invariant-loop-s
invariant-loop-s l =
    (length l.words ≡ 32)
    × (l.at + words_of (drop (2 * l.s) l.shape) ≡ words_of l.shape)
    × (put l.at (shape_words (drop (2 * l.s) l.shape) l.left l.enter (drop l.at l.old)) l.words ≡ put 0 (shape_words l.shape l.admitted 1 l.old) l.initial.words)
