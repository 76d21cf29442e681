use mathlib.Core.Path.{◌≡◌}
use Prim.Native.Nat.{◌+◌, ◌-◌, ◌^◌, ◌≤◌}
use Rattle.crosshits.specs.Numbers.{hit_total}
use Rattle.crosshits.proofs.numbers.hit_count.Given as goal

abbrev pub invariant-loop-i : goal.invariant-loop-i
invariant-loop-i l = (l.i ≤ l.n) × (l.total ≡ hit_total l.t l.found (l.point + l.i) (l.n - l.i)) × (l.total ≤ 65535 ^ (l.n - l.i))
