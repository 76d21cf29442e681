use Rattle.std.proofs.Common.{◌-◌, ◌≡◌, length}
use Rattle.std.specs.Io.KnownBytes.{Keeps}
use Rattle.streams.proofs.files.read_some.Given as goal

abbrev pub invariant-loop-n : goal.invariant-loop-n
invariant-loop-n g l = (length l.part ≡ length l.initial.part) × Keeps (g.R.Read.remaining l.initial.file) (g.R.Read.remaining l.file)

abbrev pub decreases-loop-n : goal.decreases-loop-n
decreases-loop-n g l = 100000000 - l.tries
