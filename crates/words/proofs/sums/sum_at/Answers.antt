use native.Mathlib.Omega.{arith}
use borrow.Author.Rules.{rules}
use Rattle.words.specs.Sums.{here}
use Rattle.words.proofs.Laws.{sums_start, sums_on, sums-done}
use Rattle.words.proofs.sums.sum_at.Goals as goal

pub loop-i-init : goal.loop-i-init
loop-i-init g c = (search rules, search rules, search rules, λ f said. sums_start f here c.args.size c.args.n c.args.start)

pub loop-i-preserved : goal.loop-i-preserved
loop-i-preserved g c =
    let l = c.loop-i in
    let found = c.term-sum.ensures in (
      search rules,
      search rules,
      omega (arith, c.requires.small l.at _ (search rules) found),
      λ f said. sums_on f here c.args.size c.args.n l.i l.at _ l.sum (l.invariant.3 f said) _ c.loop-i-test.true (said l.at _ (search rules) found),
    )

pub returns-clause-value : goal.returns-clause-value
returns-clause-value g c =
    λ f said. sums-done f here c.args.size c.args.n c.loop-i.i c.loop-i.at _ c.loop-i.sum (c.loop-i.invariant.3 f said) c.loop-i-test.false
