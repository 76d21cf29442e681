use mathlib.Core.Path.{◌≡◌}
use Prim.Native.Nat.{◌+◌, ◌*◌, ◌-◌, ◌≤◌, max}
use Rattle.products.specs.Marks.{longest}
use Rattle.products.proofs.marks.longest_bin.Given as goal

abbrev pub invariant-loop-i : goal.invariant-loop-i
invariant-loop-i l = (l.i ≤ l.n) × (l.bin ≡ l.initial.bin + 3 * l.i) × (max l.most (longest l.t l.bin (l.n - l.i)) ≡ longest l.t l.initial.bin l.n)
