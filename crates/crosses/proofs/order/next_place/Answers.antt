use native.Mathlib.Omega.{arith}
use Rattle.model.proofs.RawExact.{few_crosses}
use Rattle.products.proofs.Exact.{cross_placed}
use Rattle.crosses.proofs.Places.{nth-next}
use Rattle.crosses.proofs.order.next_place.Goals as goal

pub overflow_add-at : goal.overflow_add-at
overflow_add-at c = omega (arith, (cross_placed c.args.t.now c.args.p c.requires).near.0)

pub token_total-m-requires : goal.token_total-m-requires
token_total-m-requires c = (omega (arith, (cross_placed c.args.t.now c.args.p c.requires).near.1), omega arith)

pub overflow_add-result : goal.overflow_add-result
overflow_add-result c = omega (arith, c.requires.inside, few_crosses c.args.t.now c.requires.whole)

pub overflow_add-result-2 : goal.overflow_add-result-2
overflow_add-result-2 c = omega (arith, (cross_placed c.args.t.now c.args.p c.requires).near.0)

pub overflow_add-result-3 : goal.overflow_add-result-3
overflow_add-result-3 c = omega (arith, (cross_placed c.args.t.now c.args.p c.requires).near.1)

pub overflow_add-result-4 : goal.overflow_add-result-4
overflow_add-result-4 c = omega (arith, (cross_placed c.args.t.now c.args.p c.requires).near.2, c.token_total-m.ensures.1)

pub returns : goal.returns
returns c = nth-next c.args.t.now c.args.p c.requires c.byte-k.result c.token_total-m.result c.byte-k.ensures c.token_total-m.ensures.0
