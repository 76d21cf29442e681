use mathlib.Core.Path.{◌≡◌, ◌∙◌}
use Rattle.std.specs.Prelude.{None}
use borrow.Author.Rules.{rules}
use Rattle.limits.proofs.Totals.{points_over, products_over, none_over}
use Rattle.limits.proofs.counter_total.Goals as goal

pub returns-in_err-points : goal.returns-in_err-points
returns-in_err-points c =
    let a = c.args in
    let pre = c.requires in
    let none : c.from_residual.result ≡ None = search rules in
    none ∙ points_over a.t.now a.l pre.readable.1 pre.readable.0 a.counts.now.covers a.counts.now.singles pre.counted.0 c.in_err-points.ensures.value

pub returns-in_err-products : goal.returns-in_err-products
returns-in_err-products c =
    let a = c.args in
    let pre = c.requires in
    let none : c.from_residual-in_err-products.result ≡ None = search rules in
    none ∙ products_over a.t.now a.l pre.readable.1 pre.readable.0 a.counts.now.covers a.counts.now.singles pre.counted.0 c.in_err-products.ensures.value

pub returns : goal.returns
returns c =
    let a = c.args in
    let pre = c.requires in
    none_over a.t.now a.l pre.readable.1 pre.readable.0 a.counts.now.covers a.counts.now.singles pre.counted.0 _ _ _ _
    c.in_ok-points.ensures.value c.cross_kinds-bins.ensures.0 pre.counted.1 c.in_ok-products.ensures.value
