-- What is known of a log between two of its entries.
-- Assumes nothing.
use Rattle.std.specs.Prelude.{ℕ, ◌+◌, ◌-◌, ◌≤◌, ◌<◌, ◌≡◌, List, Option, take, drop}
use Rattle.std.specs.Io.KnownBytes.{prepend_known}
use Rattle.sample_log.specs.declared.state.Log.{Log}

-- the log's bytes stand within a buffer of n bytes; that they stand in order, and the bounds of points and illegal places, the type has
abbrev pub Held : Log → ℕ → Type 0
Held log n = log.to ≤ n

-- the second log has the first's points, illegal places and entry
abbrev pub SameEntry : Log → Log → Type 0
SameEntry log next = (next.points ≡ log.points) × (next.illegals ≡ log.illegals) × (next.entry ≡ log.entry)

-- want bytes stand in the buffer
abbrev pub Standing : ℕ → Log → Type 0
Standing want log = log.from + want ≤ log.to

-- the second log is at a later entry than the first
abbrev pub Onward : Log → Log → Type 0
Onward log next = log.entry < next.entry

-- the bytes that a log has left, where its file's are known: those in its buffer, and then its file's
abbrev pub left_of : Log → List ℕ → Option (List ℕ) → Option (List ℕ)
left_of log bytes file = prepend_known (take (log.to - log.from) (drop log.from bytes)) file
