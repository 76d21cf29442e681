-- Numbers within bounds.
-- Assumes nothing.
use Prim.Native.Nat.{ℕ, ◌≤◌}
use mathlib.Core.Path.{◌≡◌}
use mathlib.Core.Bool.{true}
use mathlib.Core.List.{List}
use lib.Dec.{leb}
use borrow.Author.Tests.{leb-true}
use Rattle.model.specs.Lists.{within}
use Rattle.model.specs.Format.{byte}
use Rattle.model.proofs.Booleans.{and_left, and_right}
use Rattle.ranges.specs.Types.{Wide}

pub within-bounds : (lo hi n : ℕ) → within lo hi n ≡ true → (lo ≤ n) × (n ≤ hi)
within-bounds lo hi n e = (leb-true lo n (and_left (leb lo n) (leb n hi) e), leb-true n hi (and_right (leb lo n) (leb n hi) e))

pub within-wide : (s : List ℕ) (at : ℕ) → within 1 32 (byte s at) ≡ true → Wide s at
within-wide s at e = let h = within-bounds 1 32 (byte s at) e in record { low = h.0; high = h.1 }
