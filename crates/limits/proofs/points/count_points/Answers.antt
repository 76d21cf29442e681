use mathlib.Core.Path.{◌∙◌}
use native.Mathlib.Omega.{arith}
use Rattle.limits.proofs.EntryLaws.{entries_up}
use Rattle.limits.proofs.PointLaws.{bins_ready, bins_there, transitions_ready, entries_counted}
use Rattle.limits.proofs.points.count_points.Goals as goal

pub add_bins-illegals-requires : goal.add_bins-illegals-requires
add_bins-illegals-requires c =
    let a = c.args in
    let q = c.requires.readable in
    let p = bins_ready a.t.now a.l q.1 q.2 q.0 in record { points_bound = (p.0, p.1, p.2, p.3, p.4, p.5, p.6); bin_count_value = bins_there a.t.now a.l q.1 q.2 q.0; entries = c.requires.entries }

pub add_transitions-requires : goal.add_transitions-requires
add_transitions-requires c =
    let a = c.args in
    let q = c.requires.readable in
    let p = bins_ready a.t.now a.l q.1 q.2 q.0 in
    let m = p.4 in
    let e = c.add_bins-illegals.ensures.entries_2 in record { points_below = (q.2, (transitions_ready a.t.now a.l q.1 q.2 q.0).2); entries = (entries_up _ 1000 _ e.1 (omega arith), entries_up _ 1000 _ e.2 (omega arith)) }

pub add_autos-requires : goal.add_autos-requires
add_autos-requires c =
    let a = c.args in
    let q = c.requires.readable in
    let p = bins_ready a.t.now a.l q.1 q.2 q.0 in
    let m = p.4 in
    let e = c.add_bins-illegals.ensures.entries_2 in
    (q.2, p.1, p.5, rw c.add_transitions.ensures.covers (entries_up _ 40000000 _ e.0 (omega arith)))

pub returns : goal.returns
returns c =
    let a = c.args in
    let q = c.requires.readable in
    let none = c.requires.entries in
    let p = bins_ready a.t.now a.l q.1 q.2 q.0 in
    let t = transitions_ready a.t.now a.l q.1 q.2 q.0 in
    let few = p.1 in
    let m = t.1 in
    let e = c.add_bins-illegals.ensures in
    let f = c.add_transitions.ensures in
    let g = c.add_autos.ensures in
    let k = e.entries_2 in
    let n = e.value in
    let most = p.4 in (
      entries_counted a.t.now a.l q.1 q.2 q.0 _ _ _ _ _ _ _ _ _ none.0 none.1 none.2 k.0.count k.1.count k.2.count
          (entries_up _ 50000000 _ g.entries (omega arith)) (rw g.singles (entries_up _ 100000 _ f.entries_2.0 (omega arith)))
          e.covers_after e.singles_after e.bars_after (g.singles ∙ f.singles_after) f.bars_after (rw f.covers at g.covers_after),
      n.0,
      omega (arith, n.1, most),
    )
