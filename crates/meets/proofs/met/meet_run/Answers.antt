use mathlib.Core.Path.{◌∙◌}
use Prim.Native.Nat.{◌+◌, ◌*◌, ◌<◌}
use native.Mathlib.Nat.{zero-add}
use native.Mathlib.Omega.{arith}
use lib.ListN.{length, get_or}
use Rattle.spans.specs.Point.{free_value}
use Rattle.parts.proofs.RaiseLaws.{row_in}
use Rattle.meets.specs.Pieces.{part_above, piece_at}
use Rattle.meets.specs.Met.{PartBelow}
use Rattle.meets.proofs.SearchLaws.{met_turn, met_none}
use Rattle.meets.proofs.met.meet_run.Goals as goal

pub returns-then-n-j : goal.returns-then-n-j
returns-then-n-j c =
    let a = c.args in
    let q = c.requires.i_lt_n in
    let e = c.meet_spans-j.ensures in
    let f = free_value a.spans.now a.ask.low in
    (omega arith, omega arith, met_none f a.ask.lo a.ask.hi a.words.now a.n c.meet_spans-j.result _ (omega (arith, c.if-n-j.true)) ∙ e.by_index f a.ask.lo a.ask.hi q.2 q.3)

pub meet_pattern-requires : goal.meet_pattern-requires
meet_pattern-requires c =
    let a = c.args in
    let q = c.requires in
    let j = c.meet_spans-j.result in
    let e = c.meet_spans-j.ensures.lower_bound in
    let less : j < a.n = omega (arith, c.if-n-j.false) in
    let below : part_above (get_or a.words.now (2 * j + 1) 0) < length a.flags.now = rw zero-add at (row_in (PartBelow (length a.flags.now)) (piece_at a.words.now) 2 0 a.n q.all j less) in
    record { at_in_bounds = (omega (arith, q.i_lt_n.1), e.2 less, q.i_lt_n.4); part_below = omega (arith, c.meet_spans-j.auto.flags) }

pub returns : goal.returns
returns c =
    let a = c.args in
    let q = c.requires.i_lt_n in
    let e = c.meet_spans-j.ensures in
    let f = free_value a.spans.now a.ask.low in
    let less : c.meet_spans-j.result < a.n = omega (arith, c.if-n-j.false) in
    (omega (arith, e.lower_bound.0), omega arith, met_turn f a.ask.lo a.ask.hi a.words.now a.n c.meet_spans-j.result _ _ less c.meet_pattern.ensures ∙ e.by_index f a.ask.lo a.ask.hi q.2 q.3)
