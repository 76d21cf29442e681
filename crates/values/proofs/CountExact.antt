-- A cover bin of a decoded table stands for as many bins as the model says.
-- Assumes nothing.
use mathlib.Core.Path.{◌≡◌, refl, sym, ap, ap₂, ◌∙◌}
use mathlib.Core.List.{List, ◌∷◌, map}
use Prim.Native.Nat.{ℕ, zero, suc, ◌≤◌}
use native.Mathlib.Omega.{arith}
use lib.ListN.{length, replicate}
use lib.Seq.{take_all}
use Rattle.model.specs.Lists.{up_from}
use Rattle.model.specs.Table.{Form, single, per_value, fixed, Range, Table}
use Rattle.model.specs.Values.{lowest, bin_count, distinct_values}
use Rattle.model.specs.Counters.{point_at}
use Rattle.model.proofs.WellFormed.{WellFormed}
use Rattle.model.proofs.Exact.{first_exact, Divisible}
use Rattle.model.proofs.TableExact.{point_at_lem}
use Rattle.values.specs.Counts.{cover_count}

pub counted : (t : Table) (p : ℕ) (w : WellFormed t) (f : Form) (rs : List Range) → Divisible (point_at t p) (point_at_lem t w p) f rs → bin_count (point_at t p) f rs ≤ 256
    → bin_count (point_at t p) f rs ≡ cover_count (lowest (point_at t p)) f rs
unfolding cover_count
counted t p w single rs h few = refl
counted t p w (fixed n) rs h few = refl
counted t p w per_value rs h few = sym (ap length (first_exact (point_at t p) (point_at_lem t w p) rs h ∙ take_all 257 (distinct_values (point_at t p) rs) (omega arith)))

-- so many bins, numbered, of which one thing is said
pub map_same : {A B : Type 0} (f : A → B) (g : ℕ → A) (b : B) → ((k : ℕ) → f (g k) ≡ b) → (i n : ℕ) → map f (map g (up_from i n)) ≡ replicate n b
unfolding up_from
map_same f g b h i zero = refl
map_same f g b h i (suc n) = ap₂ ◌∷◌ (h i) (map_same f g b h (suc i) n)
