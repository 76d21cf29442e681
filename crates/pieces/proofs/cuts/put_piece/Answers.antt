use mathlib.Core.Path.{refl, sym, ◌∙◌}
use mathlib.Core.List.{[], ◌∷◌}
use Prim.Native.Nat.{◌+◌}
use native.Mathlib.Omega.{arith}
use lib.ListN.{set, length-set}
use Rattle.arrays.proofs.PutLaws.{put-nil, put-cons}
use Rattle.meets.specs.Pieces.{packed}
use Rattle.pieces.proofs.cuts.put_piece.Goals as goal

pub bounds-out-at-2 : goal.bounds-out-at-2
bounds-out-at-2 c = simp length-set (omega arith)

pub returns : goal.returns
returns c =
    let a = c.args in
    let l = set a.out.now a.at a.a in
    let w = packed a.b a.k in
    (refl, sym (put-nil (a.at + 1 + 1) (set l (a.at + 1) w)) ∙ put-cons (a.at + 1) w [] l (simp length-set (omega (arith, c.requires.0))) ∙ put-cons a.at a.a (w ∷ []) a.out.now (omega (arith, c.requires.0)))
