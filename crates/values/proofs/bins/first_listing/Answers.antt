use mathlib.Core.Path.{sym, ap, ◌∙◌}
use native.Mathlib.Omega.{arith}
use Rattle.values.specs.Listed.{first_listing}
use Rattle.values.proofs.Laws.{bins_start}
use Rattle.values.proofs.Listing.{enter, range-hit, range-on, bin-on, none_lists}
use Rattle.values.proofs.bins.first_listing.Goals as goal

pub bins-init : goal.bins-init
bins-init c =
    let a = c.args in
    (omega arith, omega arith, ap (first_listing a.p a.v 0) (sym (bins_start a.t.now a.a a.r a.n)))

pub loop-j-init : goal.loop-j-init
loop-j-init c =
    let a = c.args in
    let b = c.bins in
    (omega arith, enter a.t.now a.a a.p a.v a.n b.bin b.at c.byte-q.result c.read2-k.result c.pick-m.result (omega arith) c.byte-q.ensures c.read2-k.ensures c.pick-m.ensures ∙ b.invariant.2)

pub loop-j-preserved : goal.loop-j-preserved
loop-j-preserved c =
    let a = c.args in
    let b = c.bins in
    let l = c.loop-j in
    (omega arith, range-on a.t.now a.a a.p a.v a.n b.bin b.at _ _ l.j _ l.invariant.1 c.in_range.result (omega arith) c.in_range.ensures c.if-in_range.false)

pub bins-preserved : goal.bins-preserved
bins-preserved c =
    let a = c.args in
    let b = c.bins in
    let l = c.loop-j in
    (omega arith, omega arith, bin-on a.t.now a.a a.p a.v a.n b.bin b.at _ _ l.j _ l.invariant.1 (omega arith))

pub returns-then-n-bin : goal.returns-then-n-bin
returns-then-n-bin c =
    let a = c.args in
    let b = c.bins in
    none_lists a.t.now a.a a.p a.v a.n b.bin b.at _ b.invariant.2 (omega arith)

pub returns-then-in_range : goal.returns-then-in_range
returns-then-in_range c =
    let a = c.args in
    let b = c.bins in
    let l = c.loop-j in
    range-hit a.t.now a.a a.p a.v a.n b.bin b.at _ _ l.j _ l.invariant.1 c.in_range.result (omega arith) c.in_range.ensures c.if-in_range.true
