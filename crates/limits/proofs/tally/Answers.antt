use Rattle.limits.proofs.EntryLaws.{entries_none}
use Rattle.limits.proofs.Totals.{run_sum}
use Rattle.limits.proofs.tally.Goals as goal

pub count_points-values-requires : goal.count_points-values-requires
count_points-values-requires c = record { readable = (c.requires, c.layout_of-l.ensures.value, c.layout_of-l.ensures.small); entries = (entries_none, entries_none, entries_none) }

pub returns : goal.returns
returns c =
    let l = c.layout_of-l in
    record {
      counters = c.counter_total.ensures;
      runs = run_sum c.args.t.now l.result l.ensures.value _ c.mosts.ensures.0;
      illegals = c.illegal_total.ensures;
    }
