use mathlib.Core.Path.{◌≡◌, refl}
use native.Mathlib.Omega.{arith}
use borrow.Author.Rules.{rules}
use lib.ListN.{get_or, length-set}
use Rattle.tallies.specs.Tallies.{no_tally}
use Rattle.tallies.proofs.TallyLaws.{item-few, none-ahead, few-ahead, turn-ahead, all-tallied}
use Rattle.tallies.proofs.tally_all.Goals as goal

pub loop-i-init : goal.loop-i-init
loop-i-init c =
    let a = c.args in
    (omega arith, refl, none-ahead a.items.now a.flags.now a.counts.now a.leasts.now)

pub bounds-leasts-k : goal.bounds-leasts-k
bounds-leasts-k c =
    let few = item-few c.args.items.now c.requires.4 c.loop-i.i c.from-k.result (omega arith) (search rules) in
    omega (arith, few)

pub bounds-tallies-k : goal.bounds-tallies-k
bounds-tallies-k c =
    let few = item-few c.args.items.now c.requires.4 c.loop-i.i c.from-k.result (omega arith) (search rules) in
    omega (arith, few, c.loop-i.invariant.1)

pub add-requires : goal.add-requires
add-requires c =
    let l = c.loop-i in
    let a = c.args in
    let k = c.from-k.result in
    let own = l.invariant.2 k (item-few a.items.now c.requires.4 l.i k (omega arith) (search rules)) in
    let few = few-ahead a.items.now a.flags.now a.counts.now a.leasts.now l.i k (get_or a.leasts.now k 0) (get_or l.tallies k no_tally) own in
    (omega (arith, few.0), omega (arith, few.1))

pub loop-i-preserved : goal.loop-i-preserved
loop-i-preserved c =
    let l = c.loop-i in
    let a = c.args in
    let k = c.from-k.result in
    let is : k ≡ get_or a.items.now l.i 0 = search rules in
    let few = item-few a.items.now c.requires.4 l.i k (omega arith) is in (
      omega arith,
      simp length-set l.invariant.1,
      turn-ahead a.items.now a.flags.now a.counts.now a.leasts.now l.i (omega arith) (omega arith) (omega arith) k is l.tallies _ few l.invariant.1 l.invariant.2 c.add.ensures,
    )

pub returns : goal.returns
returns c =
    let l = c.loop-i in
    let a = c.args in
    all-tallied a.items.now a.flags.now a.counts.now a.leasts.now l.i l.tallies (omega arith) l.invariant.1 l.invariant.2
