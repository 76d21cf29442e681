use mathlib.Core.Path.{◌≡◌}
use Prim.Native.Nat.{◌+◌, ◌*◌, ◌-◌, ◌^◌, ◌≤◌}
use lib.ListN.{length}
use Rattle.model.specs.Format.{table_of}
use Rattle.products.specs.Single.{BinsSingle}
use Rattle.products.specs.Marks.{BinsLegal, longest}
use Rattle.products.proofs.Adding.{Rest}
use Rattle.products.proofs.marks.mark_in.Given as goal

abbrev pub invariant-loop-i : goal.invariant-loop-i
invariant-loop-i l =
    (l.i ≤ l.n) × (l.bin ≡ l.initial.bin + 3 * l.i) × (l.token ≤ l.initial.token + 640 * l.i) × (length l.marks ≡ length l.initial.marks) × (length l.stack ≡ length l.initial.stack) × (length l.leaves ≡ length l.initial.leaves) × (l.weight ≡ 2 ^ l.i)
    × BinsSingle l.plan.table.now l.bin l.token (l.n - l.i) × BinsLegal l.plan.table.now l.at l.bin l.token (l.n - l.i) × Rest (table_of l.plan.table.now) l.plan.table.now l.at l.initial.bin l.initial.token l.n l.bin l.token (l.n - l.i) l.weight l.total l.marks × (longest l.plan.table.now l.bin (l.n - l.i) ≤ longest l.plan.table.now l.initial.bin l.n)
