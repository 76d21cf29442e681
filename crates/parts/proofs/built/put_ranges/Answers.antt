use mathlib.Core.Path.{refl, sym, ap, ◌∙◌}
use native.Mathlib.Omega.{arith}
use borrow.Author.Rules.{rules}
use Rattle.model.specs.Ranges.{sizes}
use Rattle.values.proofs.Laws.{sizes_step, row_start}
use Rattle.parts.proofs.BuildLaws.{words_start, words_turn, words_end}
use Rattle.parts.proofs.built.put_ranges.Goals as goal

pub loop-i-init : goal.loop-i-init
loop-i-init c =
    let a = c.args in
    (omega arith, refl, omega (arith, ap sizes (row_start a.t.now a.r a.n)), words_start a.t.now a.r a.n a.c a.d.first a.d.last a.d.share a.out.now)

pub overflow_add-before : goal.overflow_add-before
overflow_add-before c =
    let a = c.args in
    let l = c.loop-i in
    omega (arith, c.put_range-before.ensures.0, sizes_step a.t.now a.r a.n l.i (omega arith))

pub loop-i-preserved : goal.loop-i-preserved
loop-i-preserved c =
    let a = c.args in
    let l = c.loop-i in
    let small = sizes_step a.t.now a.r a.n l.i (omega arith) in (
      omega arith,
      search rules,
      omega (arith, c.put_range-before.ensures.0, small),
      words_turn a.t.now a.r a.n a.c a.d.first a.d.last a.d.share l.i l.before c.put_range-before.result l.out _ (omega arith) (omega arith) (omega (arith, c.put_range-before.ensures.0, small)) c.put_range-before.ensures.1 ∙ l.invariant.3,
    )

pub returns : goal.returns
returns c =
    let a = c.args in
    let l = c.loop-i in
    (refl, sym (words_end a.t.now a.r a.n a.c a.d.first a.d.last a.d.share l.i l.before l.out (omega arith)) ∙ l.invariant.3)
