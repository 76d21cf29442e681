use mathlib.Core.Path.{refl, ◌∙◌}
use Prim.Native.Nat.{◌+◌, ◌*◌, ◌<◌}
use native.Mathlib.Nat.{zero-add}
use native.Mathlib.Omega.{arith}
use lib.ListN.{length, get_or}
use Rattle.parts.proofs.RaiseLaws.{row_in}
use Rattle.meets.specs.Pieces.{part_above, piece_at}
use Rattle.meets.specs.Met.{PartBelow}
use Rattle.meets.proofs.SearchLaws.{below-part, span_one, met_turn, met_none}
use borrow.Author.Rules.{rules}
use Rattle.meets.proofs.met.meet_spans.Goals as goal

pub loop-j-init : goal.loop-j-init
loop-j-init c = (omega arith, c.requires.0, refl, λ f lo hi ef ee. refl)

pub overflow_mul-at : goal.overflow_mul-at
overflow_mul-at c = omega (arith, c.requires.1)

pub overflow_add-w : goal.overflow_add-w
overflow_add-w c = omega (arith, c.requires.1)

pub bounds-words-at : goal.bounds-words-at
bounds-words-at c = omega (arith, c.requires.1)

pub returns-then-w-ge562949953421312 : goal.returns-then-w-ge562949953421312
returns-then-w-ge562949953421312 c =
    let l = c.loop-j in
    record { lower_bound = (l.invariant.0, l.invariant.1, λ h. omega (arith, c.if-w-ge562949953421312.true)); by_index = l.invariant.3 }

pub bounds-words-at-in-loop-j : goal.bounds-words-at-in-loop-j
bounds-words-at-in-loop-j c = omega (arith, c.requires.1)

pub mark-requires : goal.mark-requires
mark-requires c =
    let a = c.args in
    let q = c.requires in
    let l = c.loop-j in
    let below : part_above (get_or a.words.now (2 * l.j + 1) 0) < length a.flags.now = rw zero-add at (row_in (PartBelow (length a.flags.now)) (piece_at a.words.now) 2 0 a.n q.2 l.j (omega arith)) in
    omega (arith, below-part (get_or a.words.now (2 * l.j + 1) 0) (omega (arith, c.if-w-ge562949953421312.false)), l.invariant.2)

pub loop-j-preserved : goal.loop-j-preserved
loop-j-preserved c =
    let a = c.args in
    let l = c.loop-j in
    (omega arith, omega arith, search rules, λ f lo hi ef ee. met_turn f lo hi a.words.now a.n l.j l.flags _ (omega arith) (span_one f lo hi a.words.now (2 * l.j) _ _ l.flags _ ef ee (omega (arith, c.if-w-ge562949953421312.false)) c.mark.ensures) ∙ l.invariant.3 f lo hi ef ee)

pub returns : goal.returns
returns c =
    let a = c.args in
    let l = c.loop-j in
    record { lower_bound = (omega arith, omega arith, λ h. omega arith); by_index = λ f lo hi ef ee. met_none f lo hi a.words.now a.n l.j l.flags (omega arith) ∙ l.invariant.3 f lo hi ef ee }
