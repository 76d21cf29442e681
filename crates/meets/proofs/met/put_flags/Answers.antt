use Rattle.std.proofs.Common.{rules}
use Rattle.spans.specs.Point.{free_value}
use Rattle.meets.proofs.SearchLaws.{met_all}
use Rattle.meets.proofs.met.put_flags.Goals as goal

pub meet-requires : goal.meet-requires
meet-requires c =
    let e = c.fill.ensures.len in
    record { n_in_bounds = c.requires.n_in_bounds; all = rw e c.requires.all }

pub returns : goal.returns
returns c =
    let a = c.args in
    met_all (free_value a.spans.now a.ask.low) a.ask.lo a.ask.hi a.words.now a.n a.flags.now _ _ (search rules) c.meet.ensures
