use mathlib.Core.Path.{◌≡◌, refl, ap}
use Prim.Native.Nat.{ℕ, ◌+◌}
use native.Mathlib.Omega.{arith}
use lib.ListN.{length-set}
use Rattle.arrays.specs.Put.{put}
use Rattle.pieces.proofs.BuildLaws.{copy_turn, copy_end}
use Rattle.pieces.proofs.build.put_words.Goals as goal

pub loop-i-init : goal.loop-i-init
loop-i-init c = (omega arith, refl, refl, ap (λ (x : ℕ). put x c.args.words.now c.args.out.now) (let z : c.args.at + 0 ≡ c.args.at = omega arith in z))

pub loop-i-preserved : goal.loop-i-preserved
loop-i-preserved c =
    let a = c.args in
    let l = c.loop-i in
    (omega arith, l.invariant.1, simp length-set l.invariant.2, copy_turn a.at l.i a.words.now l.out _ (omega (arith, l.invariant.1)) (omega (arith, l.invariant.1, l.invariant.2)) l.invariant.3)

pub returns : goal.returns
returns c =
    let a = c.args in
    let l = c.loop-i in
    (ap (a.at +◌) l.invariant.1, copy_end a.at l.i a.words.now l.out _ (omega (arith, l.invariant.1)) l.invariant.3)
