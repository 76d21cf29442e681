use mathlib.Core.Path.{refl}
use native.Mathlib.Omega.{arith}
use Rattle.model.specs.Format.{table_of}
use Rattle.sampling.proofs.Joins.{all-count, labelled-points, totals_joined}
use Rattle.sampling.proofs.totals_in.Goals as goal

pub scatter-n-requires : goal.scatter-n-requires
scatter-n-requires c =
    let a = c.args in
    let p = c.requires in
    let h = c.put_planned in
    record { t_value = (p.0, p.1.0, omega (arith, p.4, h.auto.has), omega (arith, p.2.starts_sized)); kinded = (labelled-points (table_of a.t.now) a.kinds.now p.3, p.2.starts, h.ensures.0) }

pub put_crosses-requires : goal.put_crosses-requires
put_crosses-requires c =
    let a = c.args in
    let p = c.requires in
    let h = c.put_planned in
    let s = c.scatter-n in
    record { t_value = (p.0, p.2.counts, h.ensures.1); t_in_bounds = (omega (arith, p.5, h.auto.marks), omega (arith, all-count (table_of a.t.now), p.1.1, s.ensures.value, s.auto.flags)) }

pub returns : goal.returns
returns c =
    let a = c.args in
    let p = c.requires in
    let h = c.put_planned in
    let s = c.scatter-n in
    let x = c.put_crosses in
    let t = table_of a.t.now in
    totals_joined t _ s.ensures.value a.flags.now s.new.flags x.new.flags (omega (arith, all-count t, p.1.1, s.ensures.value)) s.ensures.flags_after (x.ensures.counted refl h.ensures.0)
