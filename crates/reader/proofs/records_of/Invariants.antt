-- Before section i + 1 the reader stands at that section's count.
use Rattle.std.proofs.Common.{◌≡◌, ◌≤◌}
use Rattle.model.specs.Raw.{count_place}
use Rattle.reader.proofs.records_of.Given as goal

abbrev pub invariant-loop-i : goal.invariant-loop-i
invariant-loop-i l = (l.i ≤ l.k) × (l.reader.table.now ≡ l.table) × (l.reader.at ≡ count_place l.table l.i)
