use Prim.Native.Nat.{◌*◌, ◌+◌}
use native.Mathlib.Omega.{arith}
use Rattle.model.specs.Format.{table_of}
use Rattle.model.proofs.RawExact.{few_points}
use Rattle.hits.proofs.Ready.{values_few}
use Rattle.hits.proofs.RowLaws.{tail-length, tail_back, found-row, counted, covers_row, plains_row}
use Rattle.hits.proofs.all.put_values.Goals as goal

pub overflow_cast-q : goal.overflow_cast-q
overflow_cast-q c =
    let a = c.args in
    let p = c.requires in
    let n = counted a.t.now p.t_value.0 a.own.point p.t_value.2 a.rows.now p.found.2 in
    omega (arith, n.plains, n.parts, n.few, p.t_value.2, p.found.3, few_points a.t.now p.t_value.0)

pub overflow_cast-c : goal.overflow_cast-c
overflow_cast-c c =
    let a = c.args in
    let p = c.requires in
    let n = counted a.t.now p.t_value.0 a.own.point p.t_value.2 a.rows.now p.found.2 in
    omega (arith, n.plains, n.parts, n.few, p.t_value.2, p.found.3, few_points a.t.now p.t_value.0)

pub overflow_add-from-2 : goal.overflow_add-from-2
overflow_add-from-2 c =
    let a = c.args in
    let p = c.requires in
    let n = counted a.t.now p.t_value.0 a.own.point p.t_value.2 a.rows.now p.found.2 in
    omega (arith, n.plains, n.parts, n.few, p.t_value.2, p.found.3, few_points a.t.now p.t_value.0)

pub overflow_add-to : goal.overflow_add-to
overflow_add-to c =
    let a = c.args in
    let p = c.requires in
    let n = counted a.t.now p.t_value.0 a.own.point p.t_value.2 a.rows.now p.found.2 in
    omega (arith, n.plains, n.parts, n.few, p.t_value.2, p.found.3, few_points a.t.now p.t_value.0)

pub offset_bounds-rows-from : goal.offset_bounds-rows-from
offset_bounds-rows-from c =
    let a = c.args in
    let p = c.requires in
    let n = counted a.t.now p.t_value.0 a.own.point p.t_value.2 a.rows.now p.found.2 in
    omega (arith, n.plains, n.parts, n.few, p.t_value.2, p.found.3, few_points a.t.now p.t_value.0)

pub slice_bounds-put_value_hits-end-4 : goal.slice_bounds-put_value_hits-end-4
slice_bounds-put_value_hits-end-4 c =
    let a = c.args in
    let p = c.requires in
    let n = counted a.t.now p.t_value.0 a.own.point p.t_value.2 a.rows.now p.found.2 in
    omega (arith, n.plains, n.parts, n.few, p.t_value.2, p.found.3, few_points a.t.now p.t_value.0)

pub put_value_hits-n-requires : goal.put_value_hits-n-requires
put_value_hits-n-requires c =
    let a = c.args in
    let p = c.requires in
    let n = counted a.t.now p.t_value.0 a.own.point p.t_value.2 a.rows.now p.found.2 in
    let o = a.own.point in record {
      t_value = (p.t_value.0, p.t_value.1, p.t_value.2, p.t_value.3, omega (arith, tail-length a.at a.hits.now, p.t_value.4));
      in_bounds = (
        omega (arith, tail-length (257 * o) a.found.now, p.t_value.2, p.found.1),
        found-row (table_of a.t.now) a.sample.now o a.found.now p.found.0 p.t_value.2,
        omega (arith, tail-length (258 * o + 2) a.rows.now, n.few, p.t_value.2, p.found.3),
        covers_row (table_of a.t.now) o p.t_value.2 a.rows.now p.found.2,
        plains_row (table_of a.t.now) o p.t_value.2 a.rows.now p.found.2 _ _ n.parts n.plains,
      );
    }

pub overflow_add-result : goal.overflow_add-result
overflow_add-result c =
    let a = c.args in
    let p = c.requires in
    let q = c.put_value_hits-n in
    omega (arith, q.ensures.0, values_few a.t.now a.sample.now p.t_value.0 a.own.point p.t_value.2, p.t_value.4)

pub returns : goal.returns
returns c =
    let a = c.args in
    let p = c.requires in
    let q = c.put_value_hits-n in
    let few = values_few a.t.now a.sample.now p.t_value.0 a.own.point p.t_value.2 in
    (omega (arith, q.ensures.0), tail_back a.at _ a.hits.now q.new.hits (omega (arith, few, p.t_value.4)) q.auto.hits q.ensures.1)
