use Rattle.std.proofs.Common.{◌-◌, ◌≡◌, ◌+◌, ◌*◌, ◌≤◌, length}
use Rattle.arrays.specs.Put.{put}
use Rattle.sample_log.specs.Samples.{samples_from}
use Rattle.sample_log.proofs.samples.put_samples.Given as goal

abbrev pub invariant-loop-i : goal.invariant-loop-i
invariant-loop-i l = (l.i ≤ l.count) × (l.at ≤ 36 * l.i) × (l.from ≤ 148 * l.i) × (length l.words ≡ length l.fn.words) × (l.at + length (samples_from l.points (l.count - l.i) l.bytes l.from) ≡ length (samples_from l.points l.count l.bytes 0)) × (put l.at (samples_from l.points (l.count - l.i) l.bytes l.from) l.words ≡ put 0 (samples_from l.points l.count l.bytes 0) l.fn.words)
