use mathlib.Core.Path.{◌≡◌, refl, sym, ap, ◌∙◌}
use mathlib.Core.Bool.{Bool, true, false, cond}
use lib.Dec.{leb}
use borrow.Author.Rules.{rules}
use borrow.Author.Tests.{le-leb, lt-leb}
use Rattle.std.specs.Prelude.{Some, None}
use Rattle.limits.specs.Walks.{walk_sum, after}
use Rattle.limits.specs.Bins.{here}
use Rattle.limits.proofs.RowLaws.{all_start, all-on, all_done}
use Rattle.limits.proofs.WalkLaws.{walk_start, walk-on, walk-done}
use Rattle.limits.proofs.sums.sum_within.Goals as goal

pub loop-i-init : goal.loop-i-init
loop-i-init g c =
    let a = c.args in (
      search rules,
      search rules,
      search rules,
      λ f said. (all_start (λ at. leb (f at) a.limit) here a.size a.n a.start, walk_start f (after a.size) a.n a.start),
    )

pub returns-then-limit-found-clause-value : goal.returns-then-limit-found-clause-value
returns-then-limit-found-clause-value g c =
    let a = c.args in
    let l = c.loop-i in
    λ f said.
    let is = said l.at _ (search rules) c.term-found.ensures in
    let over : false ≡ leb (f l.at) a.limit = rw (← is, lt-leb _ _ c.if-limit-found.true) in
    ap (λ (b : Bool). cond b (Some (walk_sum 0 f (after a.size) a.start a.n)) None)
    (sym (all-on (λ at. leb (f at) a.limit) here a.size a.n l.i l.at _ true ((l.invariant.3 f said).0) false c.loop-i-test.true over))

pub loop-i-preserved : goal.loop-i-preserved
loop-i-preserved g c =
    let a = c.args in
    let l = c.loop-i in (
      search rules,
      search rules,
      search rules,
      λ f said.
          let is = said l.at _ (search rules) c.term-found.ensures in
          let within : true ≡ leb (f l.at) a.limit = rw (← is, le-leb _ _ c.if-limit-found.false) in (
            all-on (λ at. leb (f at) a.limit) here a.size a.n l.i l.at _ true ((l.invariant.3 f said).0) true c.loop-i-test.true within,
            walk-on f (after a.size) a.n l.i _ _ l.at ((l.invariant.3 f said).1) _ _ c.loop-i-test.true is refl,
          ),
    )

pub returns-clause-value : goal.returns-clause-value
returns-clause-value g c =
    let a = c.args in
    let l = c.loop-i in
    λ f said.
    ap Some (walk-done f (after a.size) a.n l.i _ _ l.at ((l.invariant.3 f said).1) c.loop-i-test.false)
    ∙ ap (λ (b : Bool). cond b (Some (walk_sum 0 f (after a.size) a.start a.n)) None)
    (all_done (λ at. leb (f at) a.limit) here a.size a.n l.i l.at _ true ((l.invariant.3 f said).0) c.loop-i-test.false)
