use mathlib.Core.Path.{refl, ◌∙◌}
use native.Mathlib.Omega.{arith}
use Rattle.model.specs.Raw.{bins_at}
use Rattle.arrays.proofs.Written.{written_start, written-room, written-turn, written_end}
use Rattle.places.specs.Places.{place_if}
use Rattle.hits.specs.Plains.{plain_hits}
use Rattle.hits.proofs.PlainLaws.{plains_start, plains_turn, plains_end, one_if, one_most}
use Rattle.hits.proofs.plains.put_plains.Goals as goal

pub loop-i-init : goal.loop-i-init
loop-i-init c =
    let a = c.args in
    (omega arith, omega arith, omega arith, written_start 0 (plain_hits a.sample.now a.h.point a.h.value a.h.listed a.plains.now 0 (bins_at a.t.now a.l.bins a.l.ranges a.l.bin_count)) _ a.hits.now (plains_start a.sample.now a.h.point a.h.value a.h.listed a.plains.now a.t.now a.l.bins a.l.ranges a.l.bin_count))

pub is_plain-own-requires : goal.is_plain-own-requires
is_plain-own-requires c = (omega arith, omega arith)

pub plain_hit-y-requires : goal.plain_hit-y-requires
plain_hit-y-requires c = (omega arith, omega arith, c.is_plain-own.ensures)

pub put_if-c-requires : goal.put_if-c-requires
put_if-c-requires c =
    let a = c.args in
    let l = c.loop-i in
    let b = c.is_plain-own in
    let y = c.plain_hit-y in
    let q = c.element-place in
    (written-room 0 (plain_hits a.sample.now a.h.point a.h.value a.h.listed a.plains.now 0 (bins_at a.t.now a.l.bins a.l.ranges a.l.bin_count)) a.hits.now l.c l.hits _ l.invariant.3 (omega (arith, c.requires.3)) (place_if y.result q.result) _ (plains_turn a.sample.now a.h.point a.h.value a.h.listed a.plains.now a.t.now a.l.bins l.at a.l.bin_count l.i l.j _ _ y.result b.result q.result (omega arith) b.ensures y.ensures q.ensures refl refl), omega (arith, q.type_inv))

pub loop-i-preserved : goal.loop-i-preserved
loop-i-preserved c =
    let a = c.args in
    let l = c.loop-i in
    let b = c.is_plain-own in
    let y = c.plain_hit-y in
    let q = c.element-place in
    let w = c.put_if-c in
    let m = c.from-j in
    let k = c.read2 in
    let turn = plains_turn a.sample.now a.h.point a.h.value a.h.listed a.plains.now a.t.now a.l.bins l.at a.l.bin_count l.i l.j k.result m.result y.result b.result q.result (omega arith) b.ensures y.ensures q.ensures (m.ensures ∙ one_if b.result) k.ensures in
    (omega arith, omega arith, omega (arith, m.ensures, one_most b.result, l.invariant.2), written-turn 0 (plain_hits a.sample.now a.h.point a.h.value a.h.listed a.plains.now 0 (bins_at a.t.now a.l.bins a.l.ranges a.l.bin_count)) a.hits.now l.c l.hits _ l.invariant.3 (omega (arith, c.requires.3)) _ _ turn w.result w.new.out w.ensures.0 w.ensures.1)

pub returns : goal.returns
returns c =
    let a = c.args in
    let l = c.loop-i in
    let e = written_end 0 (plain_hits a.sample.now a.h.point a.h.value a.h.listed a.plains.now 0 (bins_at a.t.now a.l.bins a.l.ranges a.l.bin_count)) a.hits.now l.c l.hits _ l.invariant.3 (plains_end a.sample.now a.h.point a.h.value a.h.listed a.plains.now a.t.now a.l.bins l.at a.l.bin_count l.i l.j (omega arith)) in
    (omega (arith, e.0), e.1)
