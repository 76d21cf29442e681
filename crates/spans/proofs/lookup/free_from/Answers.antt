use native.Mathlib.Omega.{arith}
use Rattle.spans.proofs.LookLaws.{none-begun, least-last, least-here, is_free}
use Rattle.spans.proofs.lookup.free_from.Goals as goal

pub returns-then-k-eq0 : goal.returns-then-k-eq0
returns-then-k-eq0 c =
    (is_free c.args.spans.now c.requires c.args.x _ (least-here c.args.spans.now c.args.x (none-begun c.args.spans.now c.requires c.args.x _ c.begun-k.ensures c.if-k-eq0.true)), omega arith)

pub returns-then-x-h : goal.returns-then-x-h
returns-then-x-h c =
    let a = c.args in
    let h = c.high_end-h.ensures in
    (is_free a.spans.now c.requires a.x _ (least-last a.spans.now c.requires a.x _ c.begun-k.ensures (omega arith) _ (omega (arith, h.0))), omega (arith, h.1))

pub returns-else-x-h : goal.returns-else-x-h
returns-else-x-h c =
    let a = c.args in
    let h = c.high_end-h.ensures in
    (is_free a.spans.now c.requires a.x _ (least-last a.spans.now c.requires a.x _ c.begun-k.ensures (omega arith) _ (omega (arith, h.0))), omega (arith, h.1))
