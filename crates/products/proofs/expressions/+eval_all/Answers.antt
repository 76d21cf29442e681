use native.Mathlib.Omega.{arith}
use lib.ListN.{length}
use Rattle.products.specs.Shapes.{sizes_of}
use Rattle.products.proofs.Parts.{room, room_0, two-fit, first_fits, second_fits, fewer, length_part, back-length, back_low, back-high}
use Rattle.products.proofs.Evaluation.{none_evaluated, leaf_evaluated, not-evaluated, none_after, join-evaluated}
use Prim.Native.Nat.{◌*◌, ◌-◌, ◌≤◌}
use Rattle.products.proofs.expressions.+eval_all.Goals as goal

pub put_same-requires : goal.put_same-requires
put_same-requires t c =
    let a = c.args in
    room_0 a.left a.s.total (length a.stack.now) c.requires.3

pub returns-then-left-eq0 : goal.returns-then-left-eq0
returns-then-left-eq0 t c =
    let a = c.args in
    let pre = c.requires in
    (record { low = omega arith; high = omega arith; past = λ h. omega arith }, none_evaluated a.t.now a.k a.left a.i a.s.total _ a.stack.now _ (omega arith) c.put_same.ensures.1)

pub spread_part-requires : goal.spread_part-requires
spread_part-requires t c =
    let a = c.args in
    let pre = c.requires in
    (omega arith, omega arith, pre.2, room a.left a.s.total (length a.stack.now) pre.3)

pub returns-then-op-lt3 : goal.returns-then-op-lt3
returns-then-op-lt3 t c =
    let a = c.args in
    (record { low = omega arith; high = omega arith; past = λ h. omega arith }, leaf_evaluated a.t.now a.k a.left a.i a.s.total a.leaves.now (sizes_of a.s) _ c.byte-q.result c.byte-q.ensures (omega arith) (omega arith) (omega arith) c.spread_part.ensures)

pub eval_all-mid-requires : goal.eval_all-mid-requires
eval_all-mid-requires t c =
    let a = c.args in
    let pre = c.requires in
    (omega arith, (pre.0, omega arith, pre.2, first_fits a.left a.s.total (length a.stack.now) pre.3))

pub invert-requires : goal.invert-requires
invert-requires t c =
    let a = c.args in
    omega (arith, c.eval_all-mid.auto.stack, room a.left a.s.total (length a.stack.now) c.requires.3)

pub returns-then-op-eq3 : goal.returns-then-op-eq3
returns-then-op-eq3 t c =
    let a = c.args in
    let pre = c.requires in
    let one = c.eval_all-mid.ensures in (
      record { low = omega (arith, one.0.low); high = omega (arith, one.0.high); past = λ h. omega (arith, one.0.low) },
      not-evaluated a.t.now a.k a.left a.i a.s.total _ (omega arith) c.eval_all-mid.result _ one.1 _ (omega arith) c.invert.ensures,
    )

pub returns-then-left-eq1 : goal.returns-then-left-eq1
returns-then-left-eq1 t c =
    let a = c.args in
    let one = c.eval_all-mid.ensures in (
      record { low = omega (arith, one.0.low); high = omega (arith, one.0.high); past = λ h. omega (arith, one.0.low) },
      none_after a.t.now a.k a.left a.i a.s.total _ (omega arith) c.eval_all-mid.result _ one.1 (omega arith) c.byte-op.result c.byte-op.ensures (omega arith) (λ z. omega arith),
    )

pub slice_bounds-eval_all-count : goal.slice_bounds-eval_all-count
slice_bounds-eval_all-count t c =
    let a = c.args in
    omega (arith, c.eval_all-mid.auto.stack, room a.left a.s.total (length a.stack.now) c.requires.3)

pub slice_bounds-eval_all-start : goal.slice_bounds-eval_all-start
slice_bounds-eval_all-start t c =
    let a = c.args in
    omega (arith, c.eval_all-mid.auto.stack, room a.left a.s.total (length a.stack.now) c.requires.3)

pub eval_all-end-requires : goal.eval_all-end-requires
eval_all-end-requires t c =
    let a = c.args in
    let pre = c.requires in
    let one = c.eval_all-mid.ensures in
    let xs = c.eval_all-mid.new.stack in
    let kept = c.eval_all-mid.auto.stack in
    let left = a.left - (c.eval_all-mid.result - a.i) in (
      omega (arith, one.0.low),
      (
        pre.0,
        omega (arith, one.0.low, one.0.high),
        pre.2,
        omega (arith, kept, length_part a.s.total xs, second_fits a.left a.s.total (length a.stack.now) pre.3 (omega arith) left (fewer a.left a.i c.eval_all-mid.result (omega arith) one.0.past)),
      ),
    )

pub join-requires : goal.join-requires
join-requires t c =
    let a = c.args in
    let pre = c.requires in
    let kept = c.eval_all-mid.auto.stack in
    let fit = two-fit a.left a.s.total (length a.stack.now) pre.3 (omega arith) in
    omega (arith, fit, kept, back-length a.s.total c.eval_all-mid.new.stack c.eval_all-end.new.stack (omega (arith, fit, kept)) c.eval_all-end.auto.stack)

pub returns : goal.returns
returns t c =
    let a = c.args in
    let pre = c.requires in
    let n = a.s.total in
    let one = c.eval_all-mid.ensures in
    let two = c.eval_all-end.ensures in
    let xs = c.eval_all-mid.new.stack in
    let ys = c.eval_all-end.new.stack in
    let fit : 2 * n ≤ length xs = omega (arith, c.eval_all-mid.auto.stack, two-fit a.left a.s.total (length a.stack.now) pre.3 (omega arith)) in (
      record { low = omega (arith, one.0.low, two.0.low); high = omega (arith, one.0.low, one.0.high, two.0.high); past = λ h. omega (arith, one.0.low, two.0.low) },
      join-evaluated a.t.now a.k a.left a.i n _ (omega arith) c.eval_all-mid.result xs one.1 (omega (arith, one.0.low)) c.eval_all-end.result ys two.1 c.byte-op.result c.byte-op.ensures (omega arith) (λ z. omega arith) _ _
          (back_low n xs ys (omega arith) c.eval_all-end.auto.stack) (back-high n xs ys (omega arith) c.eval_all-end.auto.stack fit) c.join.ensures,
    )
