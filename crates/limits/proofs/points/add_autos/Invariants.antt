use Prim.Native.Nat.{◌≤◌, ◌+◌, ◌*◌, ◌-◌}
use mathlib.Core.Path.{◌≡◌}
use Rattle.model.specs.Raw.{rows}
use Rattle.limits.specs.Bins.{added, Entries, here, autos_at}
use Rattle.limits.proofs.points.add_autos.Given as goal

abbrev pub invariant-loop-i : goal.invariant-loop-i
invariant-loop-i l =
    let bars = l.initial.counts.bars in
    (l.i ≤ l.fn.l.point_count) × Entries (40000000 + 65535 * l.i) l.counts.covers
    × (added here (autos_at l.t l.fn.l.points bars) (rows here 1 0 l.fn.l.point_count) l.initial.counts.covers ≡ added here (autos_at l.t l.fn.l.points bars) (rows here 1 l.i (l.fn.l.point_count - l.i)) l.counts.covers)
    × (l.counts.singles ≡ l.initial.counts.singles) × (l.counts.bars ≡ bars)
