use mathlib.Core.Path.{◌≡◌, refl}
use Prim.Native.Nat.{◌+◌, ◌-◌, ◌*◌, ◌≤◌, ◌<◌}
use lib.ListN.{length}
use Rattle.model.specs.Lists.{concat_of}
use Rattle.model.specs.Raw.{range_total, steps_at, sequences_at}
use Rattle.arrays.proofs.Written.{written_start, written_end, written-room, written-turn}
use Rattle.runs.specs.Rows.{sequence_row}
use Rattle.runs.proofs.RowLaws.{row_length}
use Rattle.runs.proofs.Walks.{rows_start, walk_start, walk_here, walk_turn, rows_turn, rows_none, walk_end}
use native.Mathlib.Omega.{arith}
use Rattle.runs.proofs.rows.put_rows.Goals as goal
use Rattle.runs.proofs.rows.put_rows.Goals.{After-byte-k}

-- what is known of the sequence at hand
here : (c : After-byte-k) →
    let a = c.args in
    let l = c.loop-i in
    let k = c.byte-k.result in
    (k ≤ 16) × (l.c.at + length (sequence_row (steps_at a.t.now l.c.steps l.c.ranges k)) ≤ length l.plan)
    × (length (sequence_row (steps_at a.t.now l.c.steps l.c.ranges k)) ≡ 3 + 2 * k + 4 * range_total a.t.now l.c.steps k)
here c =
    let a = c.args in
    let l = c.loop-i in
    let s = a.t.now in
    let k = c.byte-k in
    let p = a.place.steps in
    let r = a.place.ranges in
    let h : l.i < a.n = omega arith in (
      walk_here s a.q p r a.n l.i l.c.steps l.c.ranges l.invariant.0 h k.result k.ensures,
      written-room a.place.at (concat_of sequence_row (sequences_at s a.q p r a.n)) a.plan.now l.c.at l.plan (concat_of sequence_row (sequences_at s (a.q + l.i) l.c.steps l.c.ranges (a.n - l.i))) l.invariant.1 c.requires.n_in_bounds
          (sequence_row (steps_at s l.c.steps l.c.ranges k.result)) _ (rows_turn s a.q p r a.n l.i l.c.steps l.c.ranges l.invariant.0 h k.result k.ensures (range_total s l.c.steps k.result) refl),
      row_length s l.c.steps l.c.ranges k.result,
    )

pub loop-i-init : goal.loop-i-init
loop-i-init c =
    let a = c.args in
    let s = a.t.now in
    (walk_start s a.q a.place.steps a.place.ranges a.n c.requires.q_bound.4, written_start a.place.at _ _ a.plan.now (rows_start s a.q a.place.steps a.place.ranges a.n))

pub put_sequence-m-requires : goal.put_sequence-m-requires
put_sequence-m-requires c =
    let h = here (goal.at.put_sequence-m-requires c).After-byte-k in
    (omega arith, omega arith, h.0, h.1)

pub overflow_mul-c : goal.overflow_mul-c
overflow_mul-c c = let h = here (goal.at.overflow_mul-c c).After-byte-k in omega (arith, h.0)

pub overflow_add-c : goal.overflow_add-c
overflow_add-c c = let h = here (goal.at.overflow_add-c c).After-byte-k in omega (arith, h.1, h.2, c.put_sequence-m.ensures.0)

pub overflow_mul-c-in-loop-i : goal.overflow_mul-c-in-loop-i
overflow_mul-c-in-loop-i c = let h = here (goal.at.overflow_mul-c-in-loop-i c).After-byte-k in omega (arith, h.0, c.put_sequence-m.ensures.1)

pub overflow_add-c-in-loop-i : goal.overflow_add-c-in-loop-i
overflow_add-c-in-loop-i c = let h = here (goal.at.overflow_add-c-in-loop-i c).After-byte-k in omega (arith, h.1, h.2, c.put_sequence-m.ensures.0)

pub overflow_add-c-in-loop-i-2 : goal.overflow_add-c-in-loop-i-2
overflow_add-c-in-loop-i-2 c = let h = here (goal.at.overflow_add-c-in-loop-i-2 c).After-byte-k in omega (arith, h.1, h.2, c.put_sequence-m.ensures.0)

pub overflow_mul-c-in-loop-i-2 : goal.overflow_mul-c-in-loop-i-2
overflow_mul-c-in-loop-i-2 c = let h = here (goal.at.overflow_mul-c-in-loop-i-2 c).After-byte-k in omega (arith, h.0)

pub overflow_add-c-in-loop-i-3 : goal.overflow_add-c-in-loop-i-3
overflow_add-c-in-loop-i-3 c = let h = here (goal.at.overflow_add-c-in-loop-i-3 c).After-byte-k in omega (arith, h.0)

pub overflow_mul-c-in-loop-i-3 : goal.overflow_mul-c-in-loop-i-3
overflow_mul-c-in-loop-i-3 c = let h = here (goal.at.overflow_mul-c-in-loop-i-3 c).After-byte-k in omega (arith, h.0, c.put_sequence-m.ensures.1)

pub overflow_add-c-in-loop-i-4 : goal.overflow_add-c-in-loop-i-4
overflow_add-c-in-loop-i-4 c = let h = here (goal.at.overflow_add-c-in-loop-i-4 c).After-byte-k in omega (arith, h.0, c.put_sequence-m.ensures.1)

pub loop-i-preserved : goal.loop-i-preserved
loop-i-preserved c =
    let a = c.args in
    let l = c.loop-i in
    let s = a.t.now in
    let k = c.byte-k in
    let m = c.put_sequence-m in
    let p = a.place.steps in
    let r = a.place.ranges in
    let h : l.i < a.n = omega arith in
    let ss = steps_at s l.c.steps l.c.ranges k.result in (
      walk_turn s a.q p r a.n l.i l.c.steps l.c.ranges l.invariant.0 h k.result k.ensures m.result m.ensures.0 m.ensures.1,
      written-turn a.place.at (concat_of sequence_row (sequences_at s a.q p r a.n)) a.plan.now l.c.at l.plan (concat_of sequence_row (sequences_at s (a.q + l.i) l.c.steps l.c.ranges (a.n - l.i))) l.invariant.1 c.requires.n_in_bounds
          (sequence_row ss) (concat_of sequence_row (sequences_at s (a.q + (l.i + 1)) (l.c.steps + 3 * k.result) (l.c.ranges + 17 * m.result) (a.n - (l.i + 1))))
          (rows_turn s a.q p r a.n l.i l.c.steps l.c.ranges l.invariant.0 h k.result k.ensures m.result m.ensures.0)
          (l.c.at + (3 + 2 * k.result + 4 * m.result)) m.new.plan (omega (arith, row_length s l.c.steps l.c.ranges k.result, m.ensures.0)) m.ensures.2,
    )

pub returns : goal.returns
returns c =
    let a = c.args in
    let l = c.loop-i in
    let s = a.t.now in
    let p = a.place.steps in
    let r = a.place.ranges in
    let h : a.n ≤ l.i = omega arith in
    record { past = walk_end s a.q p r a.n l.i l.c.steps l.c.ranges l.invariant.0 h; at_value = written_end a.place.at _ a.plan.now l.c.at l.plan _ l.invariant.1 (rows_none s a.q p r a.n l.i l.c.steps l.c.ranges l.invariant.0 h) }
