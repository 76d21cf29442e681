use mathlib.Core.Path.{refl, sym, ap, ◌∙◌}
use mathlib.Core.Bool.{Bool}
use Prim.Native.Nat.{◌+◌}
use native.Mathlib.Omega.{arith}
use native.Mathlib.Nat.{sub-zero, add-zero}
use lib.ListN.{get_or, length-set}
use Rattle.model.specs.Lists.{as_bit}
use Rattle.arrays.specs.declared.reading.Reading.TheVariants.{Skipped}
use Rattle.samples.specs.Adds.{is_unknown_code}
use Rattle.samples.proofs.AddLaws.{add_start, add_turn, add-end, room_here, room_on}
use Rattle.samples.proofs.adds.add_unknowns.Goals as goal

pub loop-i-init : goal.loop-i-init
loop-i-init c =
    let a = c.args in
    (omega arith, refl, rw (sub-zero a.n, add-zero a.at) c.requires.2, add_start is_unknown_code a.readings.now a.register.now a.at a.n)

pub raised-requires : goal.raised-requires
raised-requires c =
    let l = c.loop-i in
    let a = c.args in
    room_here is_unknown_code a.readings.now l.register a.at l.i a.n (omega arith) (omega arith) l.invariant.2

pub loop-i-preserved : goal.loop-i-preserved
loop-i-preserved c =
    let l = c.loop-i in
    let a = c.args in
    let v = c.raised.result in (
      omega arith,
      simp length-set l.invariant.1,
      room_on is_unknown_code a.readings.now l.register a.at l.i a.n (omega arith) v (omega arith) l.invariant.2,
      add_turn is_unknown_code a.readings.now l.register a.at l.i a.n (omega arith) Skipped v (omega arith) (omega arith) (c.raised.ensures ∙ ap (λ (b : Bool). as_bit b + get_or l.register (a.at + l.i) 0) c.is_unknown.ensures) ∙ l.invariant.3,
    )

pub returns : goal.returns
returns c =
    let l = c.loop-i in
    let a = c.args in
    sym (add-end is_unknown_code a.readings.now l.register a.at l.i a.n (omega arith)) ∙ l.invariant.3
