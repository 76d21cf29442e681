use Rattle.std.proofs.Common.{sym, ◌∙◌, arith, rules}
use Rattle.ranges.proofs.CountLaws.{in_order_lem, rising_start, rising-done, rising-pattern, rising-stop, rising-on}
use Rattle.ranges.proofs.counts.rising_count.Goals as goal

pub loop-i-init : goal.loop-i-init
loop-i-init c =
    let a = c.args in (
      search rules,
      search rules,
      search rules,
      rising_start a.t.now a.n a.start a.low,
    )

pub returns-then-kind-ne0 : goal.returns-then-kind-ne0
returns-then-kind-ne0 c =
    let l = c.loop-i in
    let a = c.args in
    rising-pattern a.t.now a.n l.i l.at _ l.x l.count l.invariant.3 (search rules) (λ e. c.if-kind-ne0.true (c.byte-kind.ensures ∙ e))

pub span_at-s-requires : goal.span_at-s-requires
span_at-s-requires c = (search rules, sym c.byte-kind.ensures ∙ c.if-kind-ne0.false)

pub returns-then-not-in_order : goal.returns-then-not-in_order
returns-then-not-in_order c =
    let l = c.loop-i in
    let a = c.args in
    rising-stop a.t.now a.n l.i l.at _ l.x l.count l.invariant.3 (search rules) _ _ c.span_at-s.ensures (sym c.in_order.ensures ∙ c.if-not-in_order.true)

pub overflow_add-hi : goal.overflow_add-hi
overflow_add-hi c =
    let o = in_order_lem c.loop-i.x c.span_at-s.result.first c.span_at-s.result.last (sym c.in_order.ensures ∙ c.if-not-in_order.false) in
    omega (arith, o.2)

pub overflow_sub-hi : goal.overflow_sub-hi
overflow_sub-hi c =
    let o = in_order_lem c.loop-i.x c.span_at-s.result.first c.span_at-s.result.last (sym c.in_order.ensures ∙ c.if-not-in_order.false) in
    omega (arith, o.1)

pub overflow_add-count : goal.overflow_add-count
overflow_add-count c =
    let o = in_order_lem c.loop-i.x c.span_at-s.result.first c.span_at-s.result.last (sym c.in_order.ensures ∙ c.if-not-in_order.false) in
    omega (arith, o.2)

pub overflow_add-x : goal.overflow_add-x
overflow_add-x c =
    let o = in_order_lem c.loop-i.x c.span_at-s.result.first c.span_at-s.result.last (sym c.in_order.ensures ∙ c.if-not-in_order.false) in
    omega (arith, o.2)

pub loop-i-preserved : goal.loop-i-preserved
loop-i-preserved c =
    let l = c.loop-i in
    let a = c.args in (
      search rules,
      search rules,
      omega (arith, c.min-count.ensures),
      rising-on a.t.now a.n l.i l.at _ l.x l.count l.invariant.3 (search rules) _ _ c.span_at-s.ensures (sym c.in_order.ensures ∙ c.if-not-in_order.false) c.min-count.result c.min-count.ensures,
    )

pub returns : goal.returns
returns c =
    let l = c.loop-i in
    let a = c.args in
    rising-done a.t.now a.n l.i l.at _ l.x l.count l.invariant.3 (search rules) (search rules)
