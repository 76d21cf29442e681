-- `sequences::matched_lengths` meets its contract. Assumes nothing.
use mathlib.Core.Path.{sym, ◌∙◌}
use Prim.Native.Nat.{◌-◌, ◌≤◌}
use native.Mathlib.Omega.{arith}
use lib.ListN.{length, get_or}
use Rattle.sequences.proofs.Shapes.{last_within, matched-empty, matched-shape}
use Rattle.sequences.proofs.matched_lengths.Goals as goal
use Rattle.sequences.proofs.matched_lengths.Goals.{After-shared_slice_known-4-1}

-- the last step's words are among the sequence's
within : (c : After-shared_slice_known-4-1) →
    let a = c.args in
    get_or a.shape.now (length a.shape.now - 1) 0 ≤ length a.words.now
within c =
    omega (arith, last_within c.args.shape.now c.requires.fits (omega arith))

pub returns-then-n-eq0 : goal.returns-then-n-eq0
returns-then-n-eq0 c = λ ss e.
    let a = c.args in
    sym (matched-empty a.shape.now ss a.words.now e c.if-n-eq0.true)

pub overflow_sub-words : goal.overflow_sub-words
overflow_sub-words c = within c

pub complete-requires : goal.complete-requires
complete-requires c = omega (arith, within c)

pub returns : goal.returns
returns c = λ ss e.
    c.complete.ensures ∙ sym (matched-shape c.args.shape.now ss c.args.words.now e (omega arith) c.requires.words_len)
