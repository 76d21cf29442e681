-- What is worked out of a table once a call: the plan of its values, and its lists, one after another in one array.
-- Assumes nothing.
use Rattle.std.specs.Prelude.{ℕ, ◌+◌, ◌*◌, ◌≤◌, ◌≡◌, List, length, get_or, take, drop}
use Rattle.model.specs.Table.{Table}
use Rattle.model.specs.Register.{point_total, counter_total}
use Rattle.arrays.specs.Flat.{point_starts, cover_counts, Origins}
use Rattle.meets.specs.Plan.{ValuesPlan}
use Rattle.crosses.specs.Marked.{mark_total, Marked}
use Rattle.places.specs.Places.{PlaceRows, illegal_places}

-- where the lists of a table with n points stand; the bounds of the plan come first, the origins of the cover bins from 64 on
abbrev pub places_at : ℕ → ℕ
places_at n = 64 + 256 * n

abbrev pub starts_at : ℕ → ℕ
starts_at n = places_at n + 258 * n

abbrev pub illegals_at : ℕ → ℕ
illegals_at n = starts_at n + 17

-- past the number of illegal counters and their places: how many cover bins each point has, then the marks of the products
abbrev pub counts_at : Table → ℕ
counts_at t = illegals_at (point_total t) + 1 + length (illegal_places t)

abbrev pub marks_at : Table → ℕ
marks_at t = counts_at t + 16

-- how many elements they take
abbrev pub lists_need : Table → ℕ
lists_need t = marks_at t + mark_total t

pub record Planned (t : Table) (plan lists : List ℕ) : Type 0 where
  pub values : ValuesPlan t plan lists
  pub origins : Origins t (drop 64 lists)
  pub places : PlaceRows t (drop (places_at (point_total t)) lists)
  pub starts : take (point_total t + 1) (drop (starts_at (point_total t)) lists) ≡ point_starts t
  pub illegals : get_or lists (illegals_at (point_total t)) 0 ≡ length (illegal_places t)
  pub illegal : take (length (illegal_places t)) (drop (illegals_at (point_total t) + 1) lists) ≡ illegal_places t
  pub counts : take (point_total t) (drop (counts_at t) lists) ≡ cover_counts t
  pub marks : Marked t (drop (marks_at t) lists)
  pub room : lists_need t ≤ length lists

-- with the number of the table's counters at element 63
pub record Ready (t : Table) (plan lists : List ℕ) : Type 0 where
  pub planned : Planned t plan lists
  pub counters : get_or lists 63 0 ≡ counter_total t
