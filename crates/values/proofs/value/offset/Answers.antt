use mathlib.Core.Path.{◌≡◌, ap}
use native.Mathlib.Omega.{arith}
use lib.IntN.{pos, ◌+ℤ◌, nat_abs}
use mir.Syntax.{w64}
use mir.Val.{to_z, of_z}
use mir.Facts.{to_z-of_z}
use Rattle.values.specs.Value.{key}
use Rattle.values.proofs.ValueLaws.{keyed, key-lt}
use Rattle.values.proofs.value.offset.Goals as goal
use Rattle.values.proofs.value.offset.Goals.{Start}

sum : (c : Start) → to_z w64 (of_z w64 c.args.v) +ℤ pos 2147483648 ≡ pos (key c.args.v)
sum c = rw (to_z-of_z {w = w64} c.ranges.v) (keyed c.args.v c.requires)

back : (c : Start) → to_z w64 (of_z w64 (to_z w64 (of_z w64 c.args.v) +ℤ pos 2147483648)) ≡ pos (key c.args.v)
back c = rw (sum c, to_z-of_z {w = w64} {z = pos (key c.args.v)} (record { sfits = omega (arith, key-lt c.args.v c.requires) }))

pub overflow_add-result : goal.overflow_add-result
overflow_add-result c = rw (sum c) (record { sfits = omega (arith, key-lt c.args.v c.requires) })

pub overflow_cast-result : goal.overflow_cast-result
overflow_cast-result c = rw (back c) (tt, record { fits = omega (arith, key-lt c.args.v c.requires) })

pub returns : goal.returns
returns c = ap nat_abs (back c)
