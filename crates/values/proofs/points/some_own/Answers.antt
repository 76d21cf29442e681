use mathlib.Core.Path.{◌≡◌, ap}
use Prim.Native.Nat.{◌-◌}
use native.Mathlib.Omega.{arith}
use Rattle.values.specs.Points.{some_own}
use Rattle.values.proofs.PointLaws.{owns}
use Rattle.values.proofs.points.some_own.Goals as goal

pub loop-i-init : goal.loop-i-init
loop-i-init c =
    let a = c.args in
    (omega arith, omega arith, ap (some_own a.t.now a.p a.defaults a.size a.start) (let z : a.n ≡ a.n - 0 = omega arith in z))

pub returns-then-q-p : goal.returns-then-q-p
returns-then-q-p c = search owns

pub loop-i-preserved : goal.loop-i-preserved
loop-i-preserved c = (omega arith, omega arith, search owns)

pub returns : goal.returns
returns c = search owns
