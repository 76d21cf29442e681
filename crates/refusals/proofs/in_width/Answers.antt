use mathlib.Core.Path.{sym, ap}
use Prim.Native.Nat.{◌^◌, ◌≤◌}
use native.Mathlib.Omega.{arith}
use lib.Dec.{ltb}
use lib.Pow.{pow_mono}
use borrow.Author.Tests.{lt-ltb}
use Rattle.ranges.specs.Types.{power_of}
use Rattle.refusals.proofs.in_width.Goals as goal

pub returns-then-width-ge32 : goal.returns-then-width-ge32
returns-then-width-ge32 c =
    let a = c.args in
    let h : 2 ^ 32 ≤ 2 ^ a.width = pow_mono {i = 32} c.if-width-ge32.true in
    sym (lt-ltb a.x (2 ^ a.width) (omega arith))

pub returns : goal.returns
unfolding power_of
returns c = ap (ltb c.args.x) c.power.ensures.0
