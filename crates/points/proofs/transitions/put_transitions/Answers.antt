use mathlib.Core.Path.{ap, ap₂, ◌∙◌}
use mathlib.Core.Bool.{Bool}
use mathlib.Core.List.{List}
use Prim.Native.Nat.{ℕ, ◌+◌}
use native.Mathlib.Omega.{arith}
use lib.ListN.{length}
use Rattle.arrays.specs.Put.{put}
use Rattle.points.specs.Transitions.{flags_from, transition_flags}
use Rattle.points.proofs.transitions.put_transitions.Goals as goal

pub put_bins-requires : goal.put_bins-requires
unfolding transition_flags
put_bins-requires c =
    let a = c.args in
    let p = c.requires in
    let z = ap₂ (λ (b : Bool) (x : ℕ). length (flags_from a.t.now a.sample.now a.lens.now a.own.point b x a.l.transitions 0 a.l.transition_count)) c.is_skipped-skip.ensures c.lost_lengths-lost.ensures in
    (p.0, p.1, p.2, omega (arith, z, p.3))

pub returns : goal.returns
unfolding transition_flags
returns c =
    let a = c.args in
    let q = c.put_bins in
    let z = ap₂ (λ (b : Bool) (x : ℕ). flags_from a.t.now a.sample.now a.lens.now a.own.point b x a.l.transitions 0 a.l.transition_count) c.is_skipped-skip.ensures c.lost_lengths-lost.ensures in
    (q.ensures.0 ∙ ap (λ (x : List ℕ). a.cur + length x) z, q.ensures.1 ∙ ap (λ (x : List ℕ). put a.cur x a.flags.now) z)
