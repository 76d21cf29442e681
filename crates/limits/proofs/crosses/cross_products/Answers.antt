use Prim.Native.Nat.{ℕ}
use mathlib.Core.Path.{sym, ap, ◌∙◌}
use native.Mathlib.Omega.{arith}
use Rattle.model.specs.Counters.{product_of}
use Rattle.limits.specs.Bins.{entry, capped, points_from, cross_products}
use Rattle.limits.proofs.CrossLaws.{products_start, products-on, products-done}
use borrow.Author.Rules.{rules}
use Rattle.limits.proofs.crosses.cross_products.Goals as goal

pub loop-i-init : goal.loop-i-init
unfolding cross_products
loop-i-init c =
    let a = c.args in
    let f = entry a.covers.now in (
      search rules,
      search rules,
      search rules,
      ap (λ (m : ℕ). capped (product_of f (points_from a.t.now a.c 0 m))) (sym (c.from-n.ensures ∙ c.byte.ensures)) ∙ products_start a.t.now a.c c.from-n.result f,
    )

pub loop-i-preserved : goal.loop-i-preserved
loop-i-preserved c =
    let a = c.args in
    let l = c.loop-i in
    let found = c.entry-found in
    let f = entry a.covers.now in (
      search rules,
      search rules,
      search rules,
      products-on a.t.now a.c c.from-n.result f l.i l.product _ l.invariant.3 found.result c.min-product.result (search rules)
          (found.ensures.0 ∙ ap f (c.from-p.ensures ∙ c.byte-in-loop-i.ensures)) (omega (arith, c.min-product.ensures)),
    )

pub returns : goal.returns
returns c =
    let a = c.args in
    let l = c.loop-i in (
      products-done a.t.now a.c c.from-n.result (entry a.covers.now) l.i l.product _ l.invariant.3 (search rules) (search rules),
      search rules,
    )
