-- How many points and illegal counters a table has, by what was worked out of it.
-- Assumes nothing.
use mathlib.Core.Path.{◌≡◌, ap, ◌∙◌}
use mathlib.Core.List.{List}
use Prim.Native.Nat.{ℕ, ◌+◌, ◌*◌}
use native.Mathlib.Omega.{arith}
use lib.ListN.{get_or}
use Rattle.model.specs.Format.{decode, decoded, table_of}
use Rattle.model.specs.Register.{point_total, illegal_total}
use Rattle.layout.specs.Places.{layout_of}
use Rattle.layout.proofs.PlaceLaws.{points-total}
use Rattle.lists.specs.Lists.{illegals_at}
use Rattle.refusals.proofs.CallLaws.{known-accepted}
use Rattle.samples.specs.Prepared.{Prepared}
use Rattle.samples.proofs.ReportLaws.{illegal-many}

-- the points by the table's bytes, the illegal counters by the lists
pub counted : (s plan lists : List ℕ) → decode s ≡ decoded (table_of s) → Prepared (table_of s) plan lists → (n : ℕ) → n ≡ (layout_of s).point_count → (k : ℕ) → k ≡ get_or lists (81 + 514 * n) 0
    → (n ≡ point_total (table_of s)) × (k ≡ illegal_total (table_of s))
counted s plan lists known h n e k g =
    let m = points-total s (known-accepted s known) n e in
    let at : 81 + 514 * n ≡ illegals_at (point_total (table_of s)) = omega (arith, m) in
    (m, g ∙ ap (λ (i : ℕ). get_or lists i 0) at ∙ h.ready.planned.illegals ∙ illegal-many (table_of s))
