use native.Mathlib.Omega.{arith}
use Rattle.model.specs.Format.{table_of}
use Rattle.model.proofs.RawExact.{few_points}
use Rattle.spans.proofs.Point.{listed-apart}
use Rattle.pieces.proofs.BuildLaws.{collectable, settled_spans, spans_listed}
use Rattle.pieces.proofs.build.put_excluded.Goals as goal

pub overflow_cast-p : goal.overflow_cast-p
overflow_cast-p c = omega (arith, few_points c.args.t.now c.requires.t_value.0)

pub spans_of-requires : goal.spans_of-requires
spans_of-requires c =
    let a = c.args in
    let q = c.requires in
    let b = c.limits_of-q in
    (q.t_value.3, collectable a.t.now q.t_value.0 a.p a.own.bins a.own.ranges a.own.count q.own_part.0 _ b.ensures.0 _ q.t_value.2 q.own_part.1 q.own_part.2 q.own_part.3)

pub returns : goal.returns
returns c =
    let a = c.args in
    let q = c.requires in
    let b = c.limits_of-q in
    let r = c.spans_of.ensures in
    let few = spans_listed a.t.now q.t_value.0 a.p a.own.bins a.own.ranges a.own.count q.own_part.0 _ b.ensures.0 in
    (settled_spans a.t.now q.t_value.0 a.p a.own.bins a.own.ranges a.own.count q.own_part.0 _ b.ensures.0 _ r.1, omega (arith, few, r.0), omega (arith, few, listed-apart (table_of a.t.now) a.p, r.0, q.t_value.2, q.t_value.3))
