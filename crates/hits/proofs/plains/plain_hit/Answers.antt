use Rattle.words.specs.declared.kinds.Kind.TheVariants.{Illegal}
use Rattle.words.proofs.KindLaws.{illegal-byte, no_illegal-byte, apart, alike}
use Rattle.hits.proofs.PlainLaws.{not_plain, default-hit, illegal-hit}
use Rattle.hits.proofs.plains.plain_hit.Goals as goal

pub returns-then-not-own : goal.returns-then-not-own
returns-then-not-own c =
    let a = c.args in
    not_plain a.sample.now a.h.point a.h.value a.h.listed a.t.now a.a a.r a.own c.requires.2 (c.if-not-own.true)

pub returns-then-ne : goal.returns-then-ne
returns-then-ne c =
    let a = c.args in
    let k = c.byte in
    let m = c.from-kind in
    let g = c.byte-g in
    let y = c.guard_true-y in
    default-hit a.sample.now a.h.point a.h.value a.h.listed a.t.now a.a a.r a.own c.requires.2 (c.if-not-own.false) k.result g.result y.result k.ensures g.ensures y.ensures (no_illegal-byte m.result k.result m.ensures (apart m.result Illegal c.ne.result c.ne.ensures c.if-ne.true))

pub returns : goal.returns
returns c =
    let a = c.args in
    let k = c.byte in
    let m = c.from-kind in
    let g = c.byte-g in
    let y = c.guard_true-y in
    let n = c.read2-n in
    illegal-hit a.sample.now a.h.point a.h.value a.h.listed a.t.now a.a a.r a.own c.requires.2 (c.if-not-own.false) k.result g.result y.result k.ensures g.ensures y.ensures n.result c.in_ranges-z.result (illegal-byte m.result k.result m.ensures (alike m.result Illegal c.ne.result c.ne.ensures c.if-ne.false)) n.ensures c.in_ranges-z.ensures
