use Rattle.std.proofs.Common.{◌-◌, ◌≡◌, ◌≤◌, length, take, drop}
use Rattle.std.specs.Io.KnownBytes.{Consumes}
use Rattle.streams.proofs.files.fill.Given as goal

abbrev pub invariant-loop-done : goal.invariant-loop-done
invariant-loop-done g l = (l.have ≤ l.done) × (l.done ≤ length l.buf) × (length l.buf ≡ length l.initial.buf) × (take l.have l.buf ≡ take l.have l.initial.buf)
    × Consumes (g.R.Read.remaining l.initial.file) (g.R.Read.remaining l.file) (drop l.have (take l.done l.buf))

abbrev pub decreases-loop-done : goal.decreases-loop-done
decreases-loop-done g l = l.want - l.done
