-- The hits of a point's counters: its value and auto bins, then its transition bins.
-- Assumes nothing.
use Rattle.std.specs.Prelude.{ℕ, ◌≡◌, true, List, [], ◌++◌}
use Rattle.model.specs.Table.{Table}
use Rattle.model.specs.Counters.{value_counters, auto_counters, transition_counters}
use Rattle.model.specs.Format.{accepted, table_of}
use Rattle.model.specs.Register.{run_stretches, in_widths}
use Rattle.layout.specs.declared.Layout.{Layout}
use Rattle.layout.specs.Places.{layout_of}
use Rattle.arrays.specs.Flat.{hit_flags}

-- those of the value bins and the auto bins: no stretch counts for them
unfoldable pub value_hits : Table → List ℕ → ℕ → List ℕ
value_hits t w p = hit_flags t w (run_stretches []) (value_counters t p 0 t.value_bins ++ auto_counters t p)

-- those of the transition bins, whose matched lengths are `lens`
unfoldable pub transition_hits : Table → List ℕ → List ℕ → ℕ → List ℕ
transition_hits t w lens p = hit_flags t w (run_stretches lens) (transition_counters p 0 t.transition_bins)

-- the places of an accepted table, and a sample that refusal 13 lets pass
pub record Sampled (s : List ℕ) (l : Layout) (w : List ℕ) : Type 0 where
  pub good : accepted s ≡ true
  pub placed : l ≡ layout_of s
  pub widths : in_widths (table_of s) w ≡ true
