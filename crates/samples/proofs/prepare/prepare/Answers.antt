use Prim.Native.Nat.{◌≤◌, ◌<◌}
use mathlib.Core.Path.{◌≡◌, ◌∙◌}
use native.Mathlib.Omega.{arith}
use lib.ListN.{length, length-set}
use Rattle.model.specs.Format.{table_of}
use Rattle.model.proofs.RawExact.{few_points}
use Rattle.runs.specs.Rows.{sequence_rows}
use Rattle.runs.proofs.RowSizes.{rows_few}
use Rattle.samples.proofs.PreparedLaws.{bins-told, prepared, long}
use Rattle.samples.proofs.prepare.prepare.Goals as goal

pub overflow_cast-lists-2 : goal.overflow_cast-lists-2
overflow_cast-lists-2 c =
    let p = c.requires in
    omega (arith, c.put_sequences-m.ensures.0, rows_few _ p.0)

pub bounds-lists-62 : goal.bounds-lists-62
bounds-lists-62 c =
    let p = c.requires in
    simp length-set (omega (arith, c.put_ready.ensures.2, p.4))

pub returns : goal.returns
returns c =
    let a = c.args in
    let p = c.requires in
    let s = a.t.now in
    let t = table_of s in
    let l = c.transition_section-l in
    let q = c.put_sequences-m in
    let r = c.put_ready in
    let few = few_points s p.0 in
    let n : q.result ≡ length (sequence_rows t) = omega (arith, q.ensures.0) in
    let fit : q.result ≤ length a.plan.now = omega (arith, n, p.3) in
    let room : 63 < length r.new.lists = omega (arith, r.ensures.2, p.4) in
    let bins = bins-told s p.0 l.result l.ensures.value in (
      prepared t few a.plan.now q.new.plan q.result n fit q.ensures.1 q.auto.plan r.new.plan r.new.lists r.ensures.0 r.ensures.1 _ bins room,
      long t few a.plan.now q.new.plan q.result n fit q.ensures.1 q.auto.plan r.new.plan r.new.lists r.ensures.0 r.ensures.1 _ bins room ∙ q.auto.plan,
      simp length-set r.ensures.2,
    )
