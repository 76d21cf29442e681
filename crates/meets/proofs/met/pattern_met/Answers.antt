use mathlib.Core.Path.{sym, ap, ◌∙◌}
use Prim.Native.Nat.{ℕ, ◌+◌, max}
use native.Mathlib.Omega.{arith}
use Rattle.spans.specs.Point.{free_value}
use Rattle.meets.proofs.SearchLaws.{next_ge, search_start, search_turn, search_found, search_end, is_found}
use Rattle.meets.proofs.met.pattern_met.Goals as goal

pub loop-v-init : goal.loop-v-init
loop-v-init c =
    let a = c.args in
    let q = c.requires in
    let e = c.next_fit-v.ensures in
    (omega (arith, next_ge a.bits a.mask a.ask.lo), search_start a.spans.now q a.ask.low a.bits a.mask a.ask.hi a.ask.lo _ e.0)

pub free_value-free-requires : goal.free_value-free-requires
free_value-free-requires c = (c.requires, omega arith, omega arith)

pub returns-then-free-v : goal.returns-then-free-v
returns-then-free-v c =
    let a = c.args in
    let q = c.requires in
    let l = c.loop-v in
    sym (search_found a.spans.now q a.ask.low a.bits a.mask a.ask.hi l.v (omega arith) (sym (is_found (free_value a.spans.now a.ask.low) a.bits a.mask l.v _ _ c.free_value-free.ensures.0 c.fits.ensures) ∙ c.if-free-v.true)) ∙ l.invariant.1

pub loop-v-smaller : goal.loop-v-smaller
loop-v-smaller c =
    let a = c.args in
    let e = c.next_fit-v-in-loop-v.ensures in
    omega (arith, next_ge a.bits a.mask c.max.result)

pub loop-v-preserved : goal.loop-v-preserved
loop-v-preserved c =
    let a = c.args in
    let q = c.requires in
    let l = c.loop-v in
    let e = c.next_fit-v-in-loop-v.ensures in
    let x = c.max.ensures ∙ ap (λ (y : ℕ). max y (l.v + 1)) c.free_value-free.ensures.0 in (
      omega (arith, next_ge a.bits a.mask c.max.result),
      search_turn a.spans.now q a.ask.low a.bits a.mask a.ask.hi l.v _ _ l.invariant.0 (sym (is_found (free_value a.spans.now a.ask.low) a.bits a.mask l.v _ _ c.free_value-free.ensures.0 c.fits.ensures) ∙ c.if-free-v.false) x e.0 ∙ l.invariant.1,
    )

pub returns : goal.returns
returns c =
    let a = c.args in
    let q = c.requires in
    let l = c.loop-v in
    sym (search_end a.spans.now q a.ask.low a.bits a.mask a.ask.hi l.v (omega arith)) ∙ l.invariant.1
