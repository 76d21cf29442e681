use mathlib.Core.Path.{sym, ap, ◌∙◌}
use mathlib.Core.Bool.{Bool, cond}
use Prim.Native.Nat.{◌+◌, ◌*◌}
use borrow.Author.Tests.{eq-eqb, ne_eqb}
use Rattle.model.specs.Counters.{auto_count}
use Rattle.model.specs.Format.{point_record}
use borrow.Author.Rules.{rules}
use Rattle.limits.proofs.points.autos_at.Goals as goal

pub returns-then-entry-ne0 : goal.returns-then-entry-ne0
returns-then-entry-ne0 c =
    let a = c.args in (
      ap (λ (b : Bool). cond b (auto_count (point_record a.t.now (a.points + 11 * a.p))) 0) (sym (ne_eqb _ 0 (λ e. c.if-entry-ne0.true (c.entry.ensures.0 ∙ e)))),
      search rules,
    )

pub returns : goal.returns
returns c =
    let a = c.args in (
      c.auto_count.ensures.0 ∙ ap (λ (b : Bool). cond b (auto_count (point_record a.t.now (a.points + 11 * a.p))) 0) (sym (eq-eqb _ 0 (sym c.entry.ensures.0 ∙ c.if-entry-ne0.false))),
      search rules,
    )
