use Rattle.std.proofs.Common.{rules, ◌≡◌}
use Rattle.model.specs.Format.{times, read_range}
use Rattle.words.specs.Verdicts.{verdict_of}
use Rattle.words.proofs.RecordLaws.{records_read}
use Rattle.ranges.specs.Types.{typed}
use Rattle.ranges.proofs.RangeLaws.{range-typed}
use Rattle.ranges.proofs.ranges_of.Goals as goal

pub returns : goal.returns
unfolding read_range
returns c =
    let p = c.type_at-p in
    let y : c.records.result ≡ verdict_of (times c.args.n (read_range c.args.t.now (typed p.result.width p.result.signed) c.args.patterns) c.args.start) =
    records_read _ _ _ _ _ _ _ c.records.ensures (search rules) in
    rw (range-typed, y, p.ensures.signed, p.ensures.width)
