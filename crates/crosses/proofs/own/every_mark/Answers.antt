use mathlib.Core.Path.{ap, sym, ◌∙◌}
use mathlib.Core.Bool.{Bool, cond}
use Rattle.crosses.specs.Flags.{own_marks}
use lib.ListN.{take}
use Rattle.crosses.proofs.own.every_mark.Goals as goal

pub returns : goal.returns
returns c =
    let a = c.args in
    c.own_marks.ensures ∙ sym (ap (λ (x : Bool). cond x 0 (own_marks 0 (take a.n a.hits.now) (take a.n a.marks.now))) c.if-total.false)
