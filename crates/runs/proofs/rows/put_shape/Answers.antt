use mathlib.Core.Path.{◌≡◌, subst}
use mathlib.Core.List.{[], ◌∷◌}
use Prim.Native.Nat.{ℕ, ◌+◌, ◌-◌, ◌*◌, ◌<◌}
use lib.ListN.{set, length-set}
use Rattle.arrays.proofs.Written.{Written, written_start, written_end, written-turn}
use Rattle.runs.specs.Rows.{shape_at}
use Rattle.runs.proofs.RowLaws.{put_two, shape_start, shape_turn, shape_none, mosts_start, mosts_turn, mosts_end, length-shape_at}
use native.Mathlib.Omega.{arith}
use Rattle.runs.proofs.rows.put_shape.Goals as goal

pub loop-i-init : goal.loop-i-init
loop-i-init c =
    let a = c.args in
    let s = a.t.now in
    let rest = shape_at s (a.p + 3 * 0) (a.n - 0) in (
      omega arith,
      omega arith,
      omega (arith, mosts_start s a.p a.n),
      subst (λ (x : ℕ). Written a.at (shape_at s a.p a.n) a.plan.now x a.plan.now rest) (let z : a.at ≡ a.at + 2 * 0 = omega arith in z)
          (written_start a.at (shape_at s a.p a.n) rest a.plan.now (shape_start s a.p a.n)),
    )

pub bounds-plan-at : goal.bounds-plan-at
bounds-plan-at c = omega (arith, c.loop-i.invariant.3.kept)

pub bounds-plan-at-in-loop-i : goal.bounds-plan-at-in-loop-i
bounds-plan-at-in-loop-i c = simp length-set (omega (arith, c.loop-i.invariant.3.kept))

pub loop-i-preserved : goal.loop-i-preserved
loop-i-preserved c =
    let a = c.args in
    let l = c.loop-i in
    let s = a.t.now in
    let most = c.byte-m in
    let least = c.byte in
    let h : l.i < a.n = omega arith in
    let cur = a.at + 2 * l.i in (
      omega arith,
      omega arith,
      omega (arith, mosts_turn s a.p a.n l.i h, l.invariant.2, most.ensures),
      written-turn a.at (shape_at s a.p a.n) a.plan.now cur l.plan (shape_at s (a.p + 3 * l.i) (a.n - l.i)) l.invariant.3 (omega (arith, length-shape_at s a.p a.n, c.requires.2))
          (least.result ∷ most.result ∷ []) (shape_at s (a.p + 3 * (l.i + 1)) (a.n - (l.i + 1))) (shape_turn s a.p a.n l.i least.result most.result h least.ensures most.ensures)
          (a.at + 2 * (l.i + 1)) (set (set l.plan cur least.result) (cur + 1) most.result) (let z : a.at + 2 * (l.i + 1) ≡ cur + 2 = omega arith in z) (put_two cur least.result most.result l.plan (omega (arith, l.invariant.3.kept))),
    )

pub returns : goal.returns
returns c =
    let a = c.args in
    let l = c.loop-i in
    let s = a.t.now in (
      omega (arith, mosts_end s a.p a.n l.i (omega arith), l.invariant.2),
      (written_end a.at _ a.plan.now (a.at + 2 * l.i) l.plan _ l.invariant.3 (shape_none s a.p a.n l.i (omega arith))).1,
    )
