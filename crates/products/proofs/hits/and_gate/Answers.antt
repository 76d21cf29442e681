use mathlib.Core.Path.{ap, ap₂, ◌∙◌}
use Prim.Native.Nat.{ℕ, ◌*◌}
use native.Mathlib.Omega.{arith}
use lib.Bits.{bit_and}
use Rattle.products.specs.Shapes.{sizes_of}
use Rattle.operators.specs.Operators.{Says, and_of}
use Rattle.products.specs.Bytes.{part_bit, open_of}
use Rattle.products.proofs.Parts.{back_low, back-high}
use Rattle.products.proofs.hits.and_gate.Goals as goal

pub returns : goal.returns
unfolding Says and_of open_of
returns c =
    let a = c.args in
    let pre = c.requires in
    let n = a.s.total in
    let v = c.spread_part in
    λ x h.
    let low = back_low n a.stack.now v.new.out (omega arith) v.auto.out x h in
    let high = back-high n a.stack.now v.new.out (omega arith) v.auto.out pre.3 x h in
    c.and_into.ensures x h ∙ ap₂ bit_and low (high ∙ v.ensures x h ∙ ap (λ (p : ℕ). part_bit a.gate.now (256 * p) (sizes_of a.s) a.q x) c.byte-p.ensures)
