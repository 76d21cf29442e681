-- What the tally of a table says.
-- Assumes nothing.
use Rattle.std.specs.Prelude.{ℕ, ◌<◌, ◌≡◌, cond, List, get_or, Option, Some, None}
use Rattle.model.specs.Table.{Table}
use Rattle.model.specs.Counters.{within_limits}
use Rattle.model.specs.Ranges.{counters_at, covers_at}
use Rattle.model.specs.Raw.{record_count, raw_table}
use Rattle.model.specs.Register.{counter_total, run_total, illegal_total}
use Rattle.limits.specs.Bins.{Entries, counters_in}
use Rattle.limits.specs.declared.answer.Tally.{Tally}

-- the counters, if the limits of refusal 6 hold
abbrev pub counters_within : Table → Option ℕ
counters_within t = cond (within_limits t) (Some (counter_total t)) None

-- these, and the totals
pub record Tallied (t : Table) (r : Tally) : Type 0 where
  pub counters : r.counters ≡ counters_within t
  pub runs : r.runs ≡ run_total t
  pub illegals : r.illegals ≡ illegal_total t

-- the entries of the points of a table that was read: the cover bins that take part in crosses, and the other counters
pub record Counted (s : List ℕ) (covers singles : List ℕ) : Type 0 where
  pub covers_in : Entries 50000000 covers
  pub singles_in : Entries 100000 singles
  pub cover_bins : (p : ℕ) → p < record_count s 0 → get_or covers p 0 ≡ covers_at (raw_table s) p
  pub all_counters : (p : ℕ) → p < record_count s 0 → counters_in covers singles p ≡ counters_at (raw_table s) p
