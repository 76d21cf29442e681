use mathlib.Core.Path.{refl, ◌∙◌}
use native.Mathlib.Omega.{arith}
use Rattle.samples.proofs.SeekLaws.{pass_one}
use Rattle.samples.proofs.listed.seek.Goals as goal

pub loop-j-init : goal.loop-j-init
loop-j-init c = (c.requires, λ x h. refl)

pub returns-then-k-hits : goal.returns-then-k-hits
returns-then-k-hits c =
    let l = c.loop-j in
    record { inside = l.invariant.0; same = l.invariant.1; reached = λ h. omega arith }

pub loop-j-preserved : goal.loop-j-preserved
loop-j-preserved c =
    let l = c.loop-j in
    let a = c.args in
    (omega arith, λ x h. pass_one a.hits.now a.k l.j (omega arith) (omega arith) x h ∙ l.invariant.1 x h)

pub returns : goal.returns
returns c =
    let l = c.loop-j in
    record { inside = l.invariant.0; same = l.invariant.1; reached = λ h. omega arith }
