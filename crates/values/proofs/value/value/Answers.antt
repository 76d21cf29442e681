use mathlib.Core.Path.{◌≡◌, sym}
use Prim.Native.Nat.{suc, ◌-◌, ◌*◌, ◌^◌, ◌<◌}
use native.Mathlib.Omega.{arith}
use lib.IntN.{negsuc, ◌-ℤ◌}
use lib.Pow.{pow_mono}
use mir.Syntax.{w64}
use mir.Val.{to_z}
use mir.Facts.{to_z-of_z, to_z_pos}
use borrow.Author.Tests.{lt-ltb, le-ltb}
use Rattle.model.proofs.TableExact.{pow_half}
use Rattle.ranges.specs.Types.{power_of}
use Rattle.values.proofs.ValueLaws.{sub_neg}
use borrow.Author.Rules.{rules}
use Rattle.values.proofs.value.value.Goals as goal
use Rattle.values.proofs.value.value.Goals.{Then-half-b, then-signed+else-half-b, else-signed}

-- the difference where the top bit is set
diff : (c : Then-half-b) → let a = c.args in
    to_z w64 a.bits -ℤ to_z w64 (2 * c.power-half.result) ≡ negsuc (2 ^ a.width - suc a.bits)
unfolding power_of
diff c =
    let a = c.args in
    let p = pow_half a.width (omega arith) in
    let m = pow_mono {i = a.width} {j = 32} (omega arith) in
    let e : 2 * c.power-half.result ≡ 2 ^ a.width = omega arith in
    let h : a.bits < 2 ^ a.width = omega arith in
    rw (e, to_z_pos w64 {n = a.bits} (omega arith), to_z_pos w64 {n = 2 ^ a.width} (omega arith)) (sub_neg a.bits (2 ^ a.width) h)

pub overflow_mul-result : goal.overflow_mul-result
unfolding power_of
overflow_mul-result c = search rules

pub overflow_cast-result-then-half-b : goal.overflow_cast-result-then-half-b
unfolding power_of
overflow_cast-result-then-half-b c = search rules

pub overflow_sub-result : goal.overflow_sub-result
unfolding power_of
overflow_sub-result c = rw (diff c) (record { sfits = omega (arith, pow_mono {i = c.args.width} {j = 32} (omega arith)) })

pub returns-then-half-b : goal.returns-then-half-b
unfolding power_of
returns-then-half-b c =
    let a = c.args in
    let m = pow_mono {i = a.width} {j = 32} (omega arith) in
    let h : a.bits < 2 ^ a.width = omega arith in
    rw (diff c, to_z-of_z {w = w64} {z = negsuc (2 ^ a.width - suc a.bits)} (record { sfits = omega arith }), c.if-signed.true, le-ltb a.bits (2 ^ (a.width - 1)) (omega arith))
    (sym (sub_neg a.bits (2 ^ a.width) h))

pub returns : goal.returns
unfolding power_of
returns c =
    let a = c.args in
    rw (to_z_pos w64 {n = a.bits} (omega (arith, c.ranges.bits.fits)))
    (elim c.if-signed.branch [ then-signed+else-half-b w ↦ rw (w.if-signed.true, lt-ltb a.bits (2 ^ (a.width - 1)) (omega (arith, w.power-half.ensures, w.if-half-b.false))) | else-signed w ↦ rw w.if-signed.false ])
