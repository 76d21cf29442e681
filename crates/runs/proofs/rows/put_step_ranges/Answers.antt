use mathlib.Core.Path.{◌≡◌, subst}
use Prim.Native.Nat.{ℕ, ◌+◌, ◌-◌, ◌*◌, ◌^◌, ◌<◌}
use Rattle.model.specs.Lists.{concat_of}
use Rattle.model.specs.Raw.{ranges_at, steps_at}
use Rattle.ranges.specs.Types.{power_of}
use Rattle.arrays.proofs.Written.{Written, written_start, written_end, written-room, written-turn}
use Rattle.runs.specs.Rows.{range_words, step_ranges}
use Rattle.runs.proofs.RowLaws.{step_ranges_start, step_ranges_turn, step_ranges_none, total_start, total_turn, total_end, ranges_length}
use native.Mathlib.Omega.{arith}
use Rattle.runs.proofs.rows.put_step_ranges.Goals as goal

pub loop-i-init : goal.loop-i-init
loop-i-init c =
    let a = c.args in
    let s = a.t.now in
    let whole = step_ranges 0 (steps_at s a.p a.r a.n) in
    let rest = step_ranges 0 (steps_at s (a.p + 3 * 0) (a.r + 17 * 0) (a.n - 0)) in (
      omega arith,
      omega arith,
      omega (arith, total_start s a.p a.n),
      subst (λ (x : ℕ). Written a.at whole a.plan.now x a.plan.now rest) (let z : a.at ≡ a.at + 4 * 0 = omega arith in z)
          (written_start a.at whole rest a.plan.now (step_ranges_start s a.p a.r a.n)),
    )

pub put_ranges-requires : goal.put_ranges-requires
put_ranges-requires c =
    let a = c.args in
    let l = c.loop-i in
    let k = c.byte-k in
    let s = a.t.now in
    let bit = c.power.result in
    let h : l.i < a.n = omega arith in
    let bits : bit ≡ 2 ^ l.i = unfold power_of in c.power.ensures.0 in
    let room = written-room a.at (step_ranges 0 (steps_at s a.p a.r a.n)) a.plan.now (a.at + 4 * l.total) l.plan (step_ranges l.i (steps_at s (a.p + 3 * l.i) (a.r + 17 * l.total) (a.n - l.i))) l.invariant.3 c.requires.3
    (concat_of (range_words bit) (ranges_at s (a.r + 17 * l.total) k.result)) _ (step_ranges_turn s a.p a.r a.n l.i l.total k.result bit h k.ensures bits) in
    (omega arith, omega arith, omega (arith, room, ranges_length s (a.r + 17 * l.total) k.result bit))

pub loop-i-preserved : goal.loop-i-preserved
loop-i-preserved c =
    let a = c.args in
    let l = c.loop-i in
    let k = c.byte-k in
    let s = a.t.now in
    let bit = c.power.result in
    let h : l.i < a.n = omega arith in
    let bits : bit ≡ 2 ^ l.i = unfold power_of in c.power.ensures.0 in (
      omega arith,
      omega arith,
      omega (arith, total_turn s a.p a.n l.i h, l.invariant.2, k.ensures),
      written-turn a.at (step_ranges 0 (steps_at s a.p a.r a.n)) a.plan.now (a.at + 4 * l.total) l.plan (step_ranges l.i (steps_at s (a.p + 3 * l.i) (a.r + 17 * l.total) (a.n - l.i))) l.invariant.3 c.requires.3
          (concat_of (range_words bit) (ranges_at s (a.r + 17 * l.total) k.result)) (step_ranges (l.i + 1) (steps_at s (a.p + 3 * (l.i + 1)) (a.r + 17 * (l.total + k.result)) (a.n - (l.i + 1))))
          (step_ranges_turn s a.p a.r a.n l.i l.total k.result bit h k.ensures bits)
          (a.at + 4 * (l.total + k.result)) c.put_ranges.new.plan (omega (arith, ranges_length s (a.r + 17 * l.total) k.result bit)) c.put_ranges.ensures,
    )

pub returns : goal.returns
returns c =
    let a = c.args in
    let l = c.loop-i in
    let s = a.t.now in (
      omega (arith, total_end s a.p a.n l.i (omega arith), l.invariant.2),
      omega arith,
      (written_end a.at _ a.plan.now (a.at + 4 * l.total) l.plan _ l.invariant.3 (step_ranges_none s a.p a.r a.n l.i l.total (omega arith))).1,
    )
