use Rattle.std.proofs.Common.{◌-◌, ◌≡◌, ◌+◌, ◌*◌, ◌≤◌, ◌<◌, length}
use Rattle.sample_log.specs.Samples.{whole_from, block_count}
use Rattle.sample_log.proofs.samples.block_of.Given as goal

abbrev pub invariant-loop-count : goal.invariant-loop-count
invariant-loop-count l = (0 < l.count) × (l.count ≤ 256) × (l.size ≤ length l.bytes) × (l.size ≤ 148 * l.count) × (l.words ≤ 12416) × (l.size ≡ l.count * (20 + 8 * l.points)) × (l.count + whole_from (20 + 8 * l.points) l.illegals l.bytes (256 - l.count) (12416 - l.words) l.size ≡ block_count l.points l.illegals l.bytes)

abbrev pub decreases-loop-count : goal.decreases-loop-count
decreases-loop-count l = 256 - l.count
