use native.Mathlib.Omega.{arith}
use Rattle.spans.proofs.PartLaws.{past-start, past-turn}
use Rattle.spans.proofs.PassLaws.{pass-start, pass-turn, point_below_lem, few_bins, pass-end}
use Rattle.spans.proofs.part.own_parts.Goals as goal

pub loop-i-init : goal.loop-i-init
loop-i-init c =
    let s = c.args.t.now in
    let l = c.bin_sections-l.result in
    (omega arith, omega arith, past-start s l.bins l.ranges, omega arith, pass-start s l.bins l.ranges)

pub bounds-own-q : goal.bounds-own-q
bounds-own-q c =
    let s = c.args.t.now in
    let l = c.bin_sections-l in
    let x = c.loop-i in
    let q = c.byte-q in
    omega (arith, x.invariant.4.long, point_below_lem s c.requires l.result l.ensures.value x.i x.a q.result (omega arith) x.invariant.1 q.ensures)

pub add-requires : goal.add-requires
add-requires c =
    let s = c.args.t.now in
    let ok = c.requires in
    let l = c.bin_sections-l in
    let x = c.loop-i in
    let q = c.byte-q in
    let inside = point_below_lem s ok l.result l.ensures.value x.i x.a q.result (omega arith) x.invariant.1 q.ensures in
    let o = x.invariant.4.each q.result inside in
    (omega (arith, few_bins s ok l.result l.ensures.value), omega (arith, o.place, o.few, x.invariant.1))

pub overflow_add-r : goal.overflow_add-r
overflow_add-r c =
    let l = c.bin_sections-l in
    omega (arith, l.ensures.small_bins.ranges, few_bins _ c.requires l.result l.ensures.value)

pub loop-i-preserved : goal.loop-i-preserved
loop-i-preserved c =
    let s = c.args.t.now in
    let ok = c.requires in
    let l = c.bin_sections-l in
    let x = c.loop-i in
    let q = c.byte-q in
    let k = c.read2 in
    let w = c.add in
    let inside = point_below_lem s ok l.result l.ensures.value x.i x.a q.result (omega arith) x.invariant.1 q.ensures in (
      omega arith,
      omega (arith, x.invariant.1),
      past-turn s x.i _ _ x.a x.r _ x.invariant.1 x.invariant.2 k.ensures,
      omega (arith, x.invariant.3),
      pass-turn s _ _ x.i _ x.invariant.4 x.a x.r q.result x.invariant.1 x.invariant.2 x.invariant.3 q.ensures inside _ w.ensures,
    )

pub returns : goal.returns
returns c =
    let l = c.bin_sections-l in
    let x = c.loop-i in
    pass-end _ c.requires l.result l.ensures.value l.ensures.small_bins x.i x.own (omega arith) (omega arith) x.invariant.4
