use mathlib.Core.Path.{refl}
use native.Mathlib.Omega.{arith}
use Rattle.model.specs.Format.{table_of}
use Rattle.pieces.proofs.BuildLaws.{spans_room, rows-ready, pieces_room, planned, kept-below, ends-few}
use Rattle.pieces.proofs.build.put_by_rows.Goals as goal

pub overflow_mul-mid : goal.overflow_mul-mid
overflow_mul-mid c = omega (arith, c.requires.t_value.3)

pub overflow_add-mid : goal.overflow_add-mid
overflow_add-mid c = omega (arith, c.requires.t_value.3, c.requires.spans_of.2)

pub put_words-pieces-requires : goal.put_words-pieces-requires
put_words-pieces-requires c =
    let a = c.args in
    let q = c.requires in
    let b = c.limits_of-q.ensures in
    spans_room (table_of a.t.now) a.next.point a.b.parts a.next.at a.b.rows a.plan.now q.t_value.2 q.t_value.4 a.spans.now q.spans_of.0 q.spans_of.1 _ b.0 q.spans_of.2

pub put_pieces-end-requires : goal.put_pieces-end-requires
put_pieces-end-requires c =
    let a = c.args in
    let q = c.requires in
    let b = c.limits_of-q.ensures in
    let w = c.put_words-pieces.ensures in
    record { n_bound = (omega (arith, q.t_value.3), omega (arith, w.0), q.spans_of.0.gaps, rows-ready (table_of a.t.now) a.next.point a.b.parts a.next.at a.b.rows a.plan.now q.t_value.2 q.t_value.4 a.spans.now q.spans_of.0 q.spans_of.1 _ b.0 q.spans_of.2 _ _ _ refl w.0 w.1 (omega (arith, b.1, b.3))); n_in_bounds = pieces_room (table_of a.t.now) a.next.point a.b.parts a.next.at a.b.rows a.plan.now q.t_value.2 q.t_value.4 a.spans.now q.spans_of.0 q.spans_of.1 _ b.0 q.spans_of.2 _ _ _ refl w.0 w.1 }

pub returns : goal.returns
returns c =
    let a = c.args in
    let q = c.requires in
    let b = c.limits_of-q.ensures in
    let w = c.put_words-pieces.ensures in
    let v = c.put_pieces-end.ensures in (
      planned (table_of a.t.now) a.next.point a.b.parts a.next.at a.b.rows a.plan.now q.t_value.2 q.t_value.4 a.spans.now q.spans_of.0 q.spans_of.1 _ b.0 q.spans_of.2 _ _ _ refl w.0 w.1 _ _ v.0 v.1 (omega (arith, b.1, b.3)),
      kept-below (table_of a.t.now) a.next.point a.b.parts a.next.at a.b.rows a.plan.now q.t_value.2 q.t_value.4 a.spans.now q.spans_of.0 q.spans_of.1 _ b.0 q.spans_of.2 _ _ _ refl w.0 w.1 _ _ v.0 v.1,
      ends-few (table_of a.t.now) a.next.point a.b.parts a.next.at a.b.rows a.plan.now q.t_value.2 q.t_value.4 a.spans.now q.spans_of.0 q.spans_of.1 _ b.0 q.spans_of.2 _ _ _ refl w.0 w.1 _ _ v.0 v.1,
    )
