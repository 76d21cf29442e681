use mathlib.Core.Path.{◌≡◌, subst}
use Prim.Native.Nat.{ℕ, ◌+◌, ◌*◌, ◌<◌}
use native.Mathlib.Omega.{arith}
use Rattle.ranges.specs.Taken.{excluded_at}
use Rattle.spans.proofs.CollectLaws.{Collecting, collect-start, collect-turn, collect_end, bin_fits, bin-room}
use Rattle.spans.proofs.collects.collect.Goals as goal

pub loop-i-init : goal.loop-i-init
loop-i-init c =
    let a = c.args in
    (omega arith, omega arith, collect-start a.t.now a.p a.low a.place.bins a.place.ranges a.place.count a.out.now c.requires.spans)

pub put_bin-at-requires : goal.put_bin-at-requires
put_bin-at-requires c =
    let l = c.loop-i in
    let o = c.read2-owned in
    let more : l.i < c.args.place.count = omega arith in (
      omega arith,
      omega arith,
      bin-room _ _ _ _ _ _ _ _ _ _ _ l.invariant.2 more o.result o.ensures c.requires.fits,
      bin_fits _ _ _ _ _ _ _ _ _ _ _ l.invariant.2 more o.result o.ensures,
    )

pub loop-i-preserved : goal.loop-i-preserved
loop-i-preserved c =
    let a = c.args in
    let l = c.loop-i in
    let o = c.read2-owned in
    let d = c.put_bin-at in
    let more : l.i < a.place.count = omega arith in
    let next : a.place.bins + 8 * l.i + 8 ≡ a.place.bins + 8 * (l.i + 1) = omega arith in
    (omega arith, omega arith, subst (λ (b : ℕ). Collecting a.t.now a.p a.low (excluded_at a.t.now a.place.bins a.place.ranges a.place.count a.p) a.out.now d.new.out d.result b (l.r + 17 * o.result) a.place.count (l.i + 1)) next (collect-turn _ _ _ _ _ _ _ _ _ _ _ l.invariant.2 more o.result o.ensures c.requires.fits _ _ d.ensures.0 d.ensures.1))

pub returns : goal.returns
returns c = collect_end _ _ _ _ _ _ _ _ _ _ _ c.loop-i.invariant.2 (omega arith)
