use Prim.Native.Nat.{◌≤◌, ◌+◌, ◌*◌, ◌-◌}
use mathlib.Core.Path.{◌≡◌}
use mathlib.Core.Bool.{true}
use Rattle.model.specs.Lists.{all}
use Rattle.model.specs.Raw.{bins_at}
use Rattle.limits.specs.Walks.{walk_sum, after, is_byte, value_illegals}
use Rattle.limits.specs.Bins.{added, Entries, bin_below, bin_point, bin_covers, bin_singles, bin_bars}
use Rattle.limits.proofs.bins.add_bins.Given as goal

abbrev pub invariant-loop-i : goal.invariant-loop-i
invariant-loop-i l =
    (l.i ≤ l.n) × (l.b ≤ l.l.bins + 8 * l.i) × (l.r ≤ l.l.ranges + 1114095 * l.i) × Entries (65535 * l.i) l.counts.covers × Entries l.i l.counts.singles × Entries l.i l.counts.bars × (all (bin_below l.l.point_count) (bins_at l.t l.b l.r (l.n - l.i)) ≡ true)
    × (added bin_point (bin_covers l.t l.l.points) (bins_at l.t l.l.bins l.l.ranges l.n) l.initial.counts.covers ≡ added bin_point (bin_covers l.t l.l.points) (bins_at l.t l.b l.r (l.n - l.i)) l.counts.covers)
    × (added bin_point bin_singles (bins_at l.t l.l.bins l.l.ranges l.n) l.initial.counts.singles ≡ added bin_point bin_singles (bins_at l.t l.b l.r (l.n - l.i)) l.counts.singles)
    × (added bin_point bin_bars (bins_at l.t l.l.bins l.l.ranges l.n) l.initial.counts.bars ≡ added bin_point bin_bars (bins_at l.t l.b l.r (l.n - l.i)) l.counts.bars)
    × (l.illegals ≤ l.i) × (value_illegals l.t l.l ≡ walk_sum l.illegals (is_byte l.t 2) (after 8) (l.b + 1) (l.n - l.i))
