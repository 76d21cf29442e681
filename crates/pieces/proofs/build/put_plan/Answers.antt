use Rattle.pieces.proofs.BuildLaws.{range-count-at}
use Rattle.pieces.proofs.build.put_plan.Goals as goal

pub put_sized-requires : goal.put_sized-requires
put_sized-requires c =
    let q = c.requires in
    let l = c.bin_sections-l in
    (q.0, q.1, q.2, range-count-at c.args.t.now l.result l.ensures.value, q.3)

pub returns : goal.returns
returns c = c.put_sized.ensures
