use mathlib.Core.Path.{◌≡◌}
use Prim.Native.Nat.{ℕ, ◌-◌, ◌≤◌, ◌<◌}
use lib.ListN.{length, drop, get_or}
use Rattle.model.specs.Lists.{one_of}
use Rattle.arrays.specs.Put.{put}
use Rattle.samples.specs.Listed.{hit_bits}
use Rattle.samples.proofs.listed.report_listed.Given as goal

abbrev pub invariant-loop-i : goal.invariant-loop-i
invariant-loop-i l =
    (l.i ≤ l.n) × (l.j ≤ length l.hits) × (length l.report ≡ length l.initial.report)
    × (l.i < l.n → (x : ℕ) → get_or l.illegals l.i 0 ≤ x → one_of x (drop l.j l.hits) ≡ one_of x l.hits)
    × (put l.i (hit_bits (drop l.i l.illegals) l.hits) l.report ≡ put 0 (hit_bits l.illegals l.hits) l.initial.report)
