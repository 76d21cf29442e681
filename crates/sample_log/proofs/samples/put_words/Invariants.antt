use Rattle.std.proofs.Common.{◌-◌, ◌≡◌, ◌+◌, ◌*◌, ◌≤◌, length}
use Rattle.model.specs.Format.{u32}
use Rattle.model.specs.Raw.{rows}
use Rattle.arrays.specs.Put.{put}
use Rattle.sample_log.proofs.samples.put_words.Given as goal

abbrev pub invariant-loop-i : goal.invariant-loop-i
invariant-loop-i l = (l.i ≤ l.n) × (length l.words ≡ length l.fn.words) × (put (l.at + l.i) (rows (u32 l.bytes) 4 (l.from + 4 * l.i) (l.n - l.i)) l.words ≡ put l.at (rows (u32 l.bytes) 4 l.from l.n) l.fn.words)
