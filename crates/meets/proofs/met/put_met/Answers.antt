use native.Mathlib.Omega.{arith}
use Rattle.meets.proofs.MetLaws.{lent_length, answered}
use Rattle.meets.proofs.met.put_met.Goals as goal

pub put_flags-requires : goal.put_flags-requires
put_flags-requires c =
    let a = c.args in
    let q = c.requires in
    let e = lent_length a.at a.ask.parts a.out.now q.parts_in_bounds.0 in
    record { n_in_bounds = (omega arith, q.spans_value); all = rw e q.parts_in_bounds.1 }

pub returns : goal.returns
returns c =
    let a = c.args in
    λ t p o. answered t p a.spans.now a.words.now a.ask.low a.ask.lo a.ask.hi a.ask.parts a.at a.out.now _ o c.requires.parts_in_bounds.0 c.put_flags.ensures
