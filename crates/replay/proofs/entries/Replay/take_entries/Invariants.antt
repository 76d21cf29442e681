use Rattle.std.proofs.Common.{◌-◌, length}
use Rattle.sample_log.specs.Held.{Held}
use Rattle.replay.proofs.entries.Replay.take_entries.Given as goal

abbrev pub invariant-loop-self : goal.invariant-loop-self
invariant-loop-self l = Held l.self.log (length l.bytes)

abbrev pub decreases-loop-self : goal.decreases-loop-self
decreases-loop-self l = 18446744073709551615 - l.self.log.entry
