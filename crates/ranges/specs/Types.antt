-- A point's type by its width and its sign, as inner code passes it on; points whose widths are known to be widths; spans that pass their tests.
-- Assumes nothing.
use Rattle.std.specs.Prelude.{ℕ, zero, suc, ◌+◌, ◌-◌, ◌*◌, ◌^◌, ◌<◌, ◌≤◌, Bool, true, cond, ◌&&◌, List, length, ◌==◌, nat_le}
use Rattle.std.proofs.Math.Option.{none}
use Rattle.model.specs.Lists.{within}
use Rattle.model.specs.Table.{Point}
use Rattle.model.specs.Values.{field_value}
use Rattle.model.specs.Format.{byte, u64}
use Rattle.ranges.specs.declared.EndTests.{EndTests}
use Rattle.ranges.specs.declared.Limits.{Limits}

-- a point of a type
abbrev pub typed : ℕ → Bool → Point
typed width signed = record { width = width; signed = signed; guard = none; weight = 0; at_least = 1; auto_max = 1 }

unfoldable pub power_of : ℕ → ℕ
power_of width = 2 ^ width

unfoldable pub value_at : ℕ → ℕ
value_at bits = field_value bits

unfoldable pub lowest_of : ℕ → Bool → ℕ
lowest_of width signed = cond signed (2 ^ 31 - power_of (width - 1)) (2 ^ 31)

unfoldable pub limits_of : ℕ → Bool → Limits
limits_of width signed = record { low = lowest_of width signed; high = lowest_of width signed + power_of width - 1 }

-- the tests on the ends of a span, by the bits of their fields: each is within the limits, and they are in order
unfoldable pub end_tests : Limits → ℕ → ℕ → EndTests
end_tests l a b = record {
  first = within l.low l.high (value_at a);
  last = within l.low l.high (value_at b);
  ordered = nat_le (value_at a) (value_at b);
}

abbrev pub all_pass : EndTests → Bool
all_pass e = (e.first && e.last) && e.ordered

-- the range at `at` is a span whose ends pass them
unfoldable pub span_in : List ℕ → Limits → ℕ → Bool
span_in s l at = byte s at == 0 && all_pass (end_tests l (u64 s (at + 1)) (u64 s (at + 9)))

-- so are n ranges from `at` on
unfoldable pub spans_in : List ℕ → Limits → ℕ → ℕ → Bool
spans_in s l zero at = true
spans_in s l (suc n) at = span_in s l at && spans_in s l n (at + 17)

-- n ranges from `at` on are whole, and spans of values of the point whose record stands at `point`
unfoldable pub sound_spans : List ℕ → ℕ → ℕ → ℕ → Bool
sound_spans s point n at = nat_le (at + 17 * n) (length s) && spans_in s (limits_of (byte s point) (byte s (point + 1) == 1)) n at

-- the point whose record stands at `at` has a width from 1 to 32
pub record Wide (s : List ℕ) (at : ℕ) : Type 0 where
  pub low : 1 ≤ byte s at
  pub high : byte s at ≤ 32

-- so have the n points whose records stand from `points` on
abbrev pub AllWide : List ℕ → ℕ → ℕ → Type 0
AllWide s points n = (i : ℕ) → i < n → Wide s (points + 11 * i)
