use Prim.Native.Nat.{◌<◌}
use native.Mathlib.Omega.{arith}
use Rattle.model.proofs.RawExact.{few_points}
use Rattle.parts.proofs.Accepted.{near-at, wide_at, auto_at, fits-at, listed_at, room_at, rows_at}
use Rattle.parts.proofs.points.put_rows.Goals as goal

pub overflow_mul-places : goal.overflow_mul-places
overflow_mul-places c =
    let few : c.args.p < 16 = omega (arith, c.requires.t_value.1, few_points c.args.t.now c.requires.t_value.0) in
    omega arith

pub overflow_add-places : goal.overflow_add-places
overflow_add-places c =
    let few : c.args.p < 16 = omega (arith, c.requires.t_value.1, few_points c.args.t.now c.requires.t_value.0) in
    omega arith

pub overflow_cast-p : goal.overflow_cast-p
overflow_cast-p c =
    let few : c.args.p < 16 = omega (arith, c.requires.t_value.1, few_points c.args.t.now c.requires.t_value.0) in
    omega arith

pub put_point-requires : goal.put_point-requires
put_point-requires c =
    let a = c.args in
    let s = a.t.now in
    let d = c.transition_section in
    let near = near-at s c.requires.t_value.0 a.p c.requires.t_value.1 d.result d.ensures.value a.own.bins a.own.ranges a.own.count c.requires.own_part.1 c.requires.own_part.2 c.requires.own_part.3 in
    let fits = fits-at s c.requires.t_value.0 a.p c.requires.t_value.1 a.own.bins a.own.ranges a.own.count c.requires.own_part.0 in
    let room = room_at s c.requires.t_value.0 a.p c.requires.t_value.1 a.own.bins a.own.ranges a.own.count c.requires.own_part.0 a.at a.out.now c.requires.t_value.2 in
    let some = listed_at s c.requires.t_value.0 a.p c.requires.t_value.1 a.own.bins a.own.ranges a.own.count c.requires.own_part.0 in
    record { near = (near, wide_at s c.requires.t_value.0 a.p c.requires.t_value.1, auto_at s c.requires.t_value.0 a.p c.requires.t_value.1, fits); room = (room, omega (arith, some, c.requires.t_value.3), c.requires.t_value.4) }

pub returns : goal.returns
returns c =
    let a = c.args in
    let s = a.t.now in
    let d = c.transition_section in
    rows_at s c.requires.t_value.0 a.p c.requires.t_value.1 d.result d.ensures.value a.own.bins a.own.ranges a.own.count c.requires.own_part.0 _ _ _ _ _ c.put_point.ensures
