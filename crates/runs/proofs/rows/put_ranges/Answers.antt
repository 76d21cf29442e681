use mathlib.Core.Path.{◌≡◌, subst}
use Prim.Native.Nat.{ℕ, ◌+◌, ◌-◌, ◌*◌, ◌<◌}
use Rattle.model.specs.Lists.{concat_of}
use Rattle.model.specs.Raw.{ranges_at}
use Rattle.model.specs.Format.{range_record}
use Rattle.arrays.proofs.Written.{Written, written_start, written_end, written-turn}
use Rattle.runs.specs.Rows.{range_words}
use Rattle.runs.proofs.RowLaws.{length-range, ranges_start, ranges_turn, ranges_none, ranges_length}
use native.Mathlib.Omega.{arith}
use Rattle.runs.proofs.rows.put_ranges.Goals as goal

pub loop-i-init : goal.loop-i-init
loop-i-init c =
    let a = c.args in
    let whole = concat_of (range_words a.bit) (ranges_at a.t.now a.r a.n) in
    let rest = concat_of (range_words a.bit) (ranges_at a.t.now (a.r + 17 * 0) (a.n - 0)) in (
      omega arith,
      subst (λ (x : ℕ). Written a.at whole a.plan.now x a.plan.now rest) (let z : a.at ≡ a.at + 4 * 0 = omega arith in z)
          (written_start a.at whole rest a.plan.now (ranges_start a.t.now a.r a.n a.bit)),
    )

pub put_range-requires : goal.put_range-requires
put_range-requires c =
    let a = c.args in
    let l = c.loop-i in
    (omega arith, omega (arith, l.invariant.1.kept))

pub loop-i-preserved : goal.loop-i-preserved
loop-i-preserved c =
    let a = c.args in
    let l = c.loop-i in
    let s = a.t.now in
    let bit = a.bit in
    let h : l.i < a.n = omega arith in
    let xs = range_words bit (range_record s (a.r + 17 * l.i)) in
    let long = ranges_length s a.r a.n bit in (
      omega arith,
      written-turn a.at (concat_of (range_words bit) (ranges_at s a.r a.n)) a.plan.now (a.at + 4 * l.i) l.plan (concat_of (range_words bit) (ranges_at s (a.r + 17 * l.i) (a.n - l.i))) l.invariant.1
          (omega arith) xs (concat_of (range_words bit) (ranges_at s (a.r + 17 * (l.i + 1)) (a.n - (l.i + 1)))) (ranges_turn s a.r a.n bit l.i h)
          (a.at + 4 * (l.i + 1)) c.put_range.new.plan (omega (arith, length-range bit (range_record s (a.r + 17 * l.i)))) c.put_range.ensures,
    )

pub returns : goal.returns
returns c =
    let a = c.args in
    let l = c.loop-i in
    (written_end a.at _ a.plan.now (a.at + 4 * l.i) l.plan _ l.invariant.1 (ranges_none a.t.now a.r a.n a.bit l.i (omega arith))).1
