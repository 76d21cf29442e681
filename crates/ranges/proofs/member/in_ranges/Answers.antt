use Rattle.std.proofs.Common.{◌∙◌, rules}
use Rattle.model.specs.Format.{range_record}
use Rattle.model.specs.Raw.{ranges_at}
use Rattle.ranges.specs.Taken.{holding}
use Rattle.ranges.proofs.Searches.{anys, rows_any_start}
use Rattle.ranges.proofs.MemberLaws.{in-any}
use Rattle.ranges.proofs.member.in_ranges.Goals as goal

pub loop-i-init : goal.loop-i-init
loop-i-init c =
    let a = c.args in
    (search rules, search rules, in-any (ranges_at a.t.now a.start a.n) a.v ∙ rows_any_start (holding a.v) (range_record a.t.now) 17 a.start a.n)

pub returns-then-in_range : goal.returns-then-in_range
returns-then-in_range c = search anys

pub loop-i-preserved : goal.loop-i-preserved
loop-i-preserved c = search anys

pub returns : goal.returns
returns c = search anys
