use Prim.Native.Nat.{◌+◌, ◌-◌, ◌*◌}
use native.Mathlib.Omega.{arith}
use Rattle.model.specs.Table.{excludes}
use Rattle.model.specs.Format.{kind_from}
use Rattle.model.proofs.RunBits.{as_bit-le}
use Rattle.crosses.proofs.Laws.{mask-small, mask-none, mask-back, mask_done}
use Rattle.crosses.proofs.own.mask_of.Goals as goal

pub loop-i-init : goal.loop-i-init
loop-i-init c = (omega arith, mask-none c.args.t.now (c.args.b + 3 * c.args.n) c.args.n)

pub overflow_mul-mask : goal.overflow_mul-mask
overflow_mul-mask c = let a = c.args in let l = c.loop-i in omega (arith, l.invariant.1, mask-small a.t.now (a.b + 3 * l.i) (a.n - l.i) (omega arith))

pub overflow_add-mask : goal.overflow_add-mask
overflow_add-mask c = let a = c.args in let l = c.loop-i in omega (arith, l.invariant.1, mask-small a.t.now (a.b + 3 * l.i) (a.n - l.i) (omega arith), c.excluding.ensures, as_bit-le (excludes (kind_from c.byte.result)))

pub loop-i-preserved : goal.loop-i-preserved
loop-i-preserved c = let a = c.args in let l = c.loop-i in (omega arith, mask-back a.t.now a.b a.n l.i c.byte.result c.excluding.result l.mask (omega arith) (omega arith) c.byte.ensures c.excluding.ensures l.invariant.1)

pub returns : goal.returns
returns c = let a = c.args in let l = c.loop-i in mask_done a.t.now a.b a.n l.i l.mask (omega arith) l.invariant.1
