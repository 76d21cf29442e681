use mathlib.Core.Path.{refl, sym, ◌∙◌}
use mathlib.Core.List.{[]}
use Prim.Native.Nat.{◌+◌}
use native.Mathlib.Omega.{arith}
use lib.ListN.{set}
use Rattle.arrays.proofs.PutLaws.{put-nil, put-cons}
use Rattle.arrays.proofs.put_one.Goals as goal

pub returns : goal.returns
returns c =
    let a = c.args in
    (refl, rw (← c.as_bit-x.ensures) (sym (put-nil (a.at + 1) (set a.flags.now a.at c.as_bit-x.result)) ∙ put-cons a.at c.as_bit-x.result [] a.flags.now (omega arith)))
