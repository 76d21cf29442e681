use Rattle.limits.proofs.Totals.{illegal_sum}
use Rattle.limits.proofs.illegal_total.Goals as goal

pub returns : goal.returns
returns c =
    let a = c.args in
    let pre = c.requires in
    illegal_sum a.t.now a.l pre.readable.1 pre.readable.0 _ _ _ pre.values_value.0 c.count_kind-transitions.ensures.0 pre.values_value.2
