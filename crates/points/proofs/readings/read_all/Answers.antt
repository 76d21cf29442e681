use mathlib.Core.Path.{ap, ◌∙◌}
use mathlib.Core.List.{List}
use native.Mathlib.Omega.{arith}
use Rattle.arrays.specs.Put.{put}
use Rattle.arrays.specs.declared.reading.Reading as code
use Rattle.points.proofs.ReadingLaws.{read-ready, read-codes}
use Rattle.points.proofs.readings.read_all.Goals as goal

pub put_readings-requires : goal.put_readings-requires
put_readings-requires c =
    let a = c.args in
    let p = c.requires in
    let r = read-ready a.t.now a.sample.now p.0 _ c.point_count-n.ensures.value p.3 in
    (omega arith, r.0, omega (arith, r.0), r.1)

pub returns : goal.returns
returns c =
    let a = c.args in
    let p = c.requires in
    c.put_readings.ensures ∙ ap (λ (x : List code.Reading). put 0 x a.readings.now) (read-codes a.t.now a.sample.now p.0 _ c.point_count-n.ensures.value)
