use mathlib.Core.Path.{◌≡◌, refl, ap, ◌∙◌, subst}
use Prim.Native.Nat.{ℕ, ◌+◌, ◌-◌}
use native.Mathlib.Omega.{arith}
use lib.ListN.{length}
use lib.Pow.{pow-add}
use Rattle.model.specs.Format.{byte, table_of}
use Rattle.model.proofs.Lists.{one_left}
use Rattle.products.specs.Single.{BinsSingle}
use Rattle.products.specs.Shapes.{sizes_of}
use Rattle.products.specs.Marks.{BinsLegal, longest, longest_bin}
use Rattle.products.proofs.BinHere.{bin_here}
use Rattle.products.proofs.Longest.{rest-inside, bin-room}
use Rattle.products.proofs.Parts.{room}
use Rattle.products.proofs.Adding.{Rest, rest-start, rest_end, rest-turn, chosen, bits_below}
use Rattle.products.proofs.Exact.{cross_placed, made-ready, sizes-parts, marks-are}
use Rattle.products.proofs.marks.mark_in.Goals as goal

pub overflow_add-at : goal.overflow_add-at
overflow_add-at c = omega (arith, (cross_placed c.args.plan.table.now c.args.x.place c.requires.marked.0.stands).near.0)

pub put_same-requires : goal.put_same-requires
put_same-requires c = omega (arith, c.requires.marked.0.fits.whole.small, c.requires.marked.1)

pub loop-i-init : goal.loop-i-init
loop-i-init c =
    let a = c.args in
    let pre = c.requires in
    let p = a.x.place in
    let good = cross_placed a.plan.table.now a.x.place pre.marked.0.stands in
    let n = c.byte-n.result in
    let z : byte a.plan.table.now (p.cross + 12) ≡ n - 0 = omega (arith, c.byte-n.ensures) in
    let y : n ≡ n - 0 = omega arith in (
      omega arith,
      omega arith,
      omega arith,
      refl,
      refl,
      refl,
      refl,
      subst (BinsSingle a.plan.table.now p.bins p.tokens) z good.single,
      subst (BinsLegal a.plan.table.now p.cross p.bins p.tokens) z good.legal,
      subst (λ (m : ℕ). Rest (table_of a.plan.table.now) a.plan.table.now p.cross p.bins p.tokens n p.bins p.tokens m 1 a.x.shape.total c.put_same.new.xs) y
          (rest-start (table_of a.plan.table.now) a.plan.table.now p.cross p.bins p.tokens n a.x.shape.total a.marks.now _ c.put_same.ensures.1),
      omega (arith, ap (longest a.plan.table.now p.bins) y),
    )

pub overflow_add-bin : goal.overflow_add-bin
overflow_add-bin c = omega (arith, c.loop-i.invariant.1, (cross_placed c.args.plan.table.now c.args.x.place c.requires.marked.0.stands).near.1, c.byte-n.ensures)

pub put_rows-requires : goal.put_rows-requires
put_rows-requires c =
    let a = c.args in
    let l = c.loop-i in
    let h = c.loop-i-test.true in
    let n = c.byte-n in
    let m = c.byte-m in
    let b = bin_here a.plan.table.now a.x.place n.result l.i l.bin l.token m.result c.requires.marked.0.stands n.ensures h m.ensures l.invariant.7 l.invariant.8 l.invariant.10 in
    let pre = c.requires in
    record { count_in_bounds = (omega (arith, l.invariant.5, pre.total_in_bounds.1, b.inside), b.tokens, omega (arith, b.near.0), omega (arith, b.near.2, b.few, l.invariant.2)); ready = (made-ready a.plan.table.now a.x.place pre.marked.0.stands a.x.shape pre.marked.0.fits a.plan.words.now a.plan.lists.now pre.marked.0.from pre.marked.0.planned, b.legal) }

pub eval_all-token-requires : goal.eval_all-token-requires
eval_all-token-requires c =
    let a = c.args in
    let l = c.loop-i in
    let h = c.loop-i-test.true in
    let n = c.byte-n in
    let m = c.byte-m in
    let b = bin_here a.plan.table.now a.x.place n.result l.i l.bin l.token m.result c.requires.marked.0.stands n.ensures h m.ensures l.invariant.7 l.invariant.8 l.invariant.10 in
    let pre = c.requires in
    let fits = bin-room a.plan.table.now l.bin n.result l.i h m.result m.ensures (longest_bin a.plan.table.now a.x.place) b.most a.x.shape.total (length a.stack.now) pre.total_in_bounds.0 in
    (omega (arith, b.near.2, b.few, l.invariant.2), omega (arith, b.tokens), pre.marked.0.fits.whole, omega (arith, fits, l.invariant.4))

pub overflow_cast-weight : goal.overflow_cast-weight
overflow_cast-weight c =
    let a = c.args in
    let l = c.loop-i in
    let h = c.loop-i-test.true in
    let n = c.byte-n in
    let m = c.byte-m in
    let b = bin_here a.plan.table.now a.x.place n.result l.i l.bin l.token m.result c.requires.marked.0.stands n.ensures h m.ensures l.invariant.7 l.invariant.8 l.invariant.10 in
    omega (arith, l.invariant.6, b.power)

pub add_bit-requires : goal.add_bit-requires
add_bit-requires c =
    let a = c.args in
    let l = c.loop-i in
    let h = c.loop-i-test.true in
    let n = c.byte-n in
    let m = c.byte-m in
    let b = bin_here a.plan.table.now a.x.place n.result l.i l.bin l.token m.result c.requires.marked.0.stands n.ensures h m.ensures l.invariant.7 l.invariant.8 l.invariant.10 in
    let pre = c.requires in
    let rows = c.put_rows in
    let v = c.eval_all-token in
    let chose = chosen (table_of a.plan.table.now) a.plan.table.now a.x.place.cross (sizes_of a.x.shape) (sizes-parts a.plan.table.now a.x.place pre.marked.0.stands a.x.shape pre.marked.0.fits) a.x.shape.total pre.marked.0.fits.whole.all rows.new.leaves l.token m.result b.tokens rows.ensures b.legal b.single v.result v.new.stack v.ensures.1 in
    (omega (arith, pre.marked.1, l.invariant.3, c.put_same.auto.xs), omega (arith, room (longest_bin a.plan.table.now a.x.place) a.x.shape.total (length a.stack.now) pre.total_in_bounds.0, l.invariant.4, v.auto.stack), omega (arith, l.invariant.6, b.power), l.invariant.9.below, bits_below (table_of a.plan.table.now) a.plan.table.now a.x.place.cross l.token m.result a.x.shape.total v.new.stack chose)

pub overflow_mul-weight : goal.overflow_mul-weight
overflow_mul-weight c =
    let a = c.args in
    let l = c.loop-i in
    let h = c.loop-i-test.true in
    let n = c.byte-n in
    let m = c.byte-m in
    let b = bin_here a.plan.table.now a.x.place n.result l.i l.bin l.token m.result c.requires.marked.0.stands n.ensures h m.ensures l.invariant.7 l.invariant.8 l.invariant.10 in
    omega (arith, l.invariant.6, b.power)

pub overflow_add-bin-in-loop-i : goal.overflow_add-bin-in-loop-i
overflow_add-bin-in-loop-i c =
    let a = c.args in
    let l = c.loop-i in
    let h = c.loop-i-test.true in
    let n = c.byte-n in
    let m = c.byte-m in
    let b = bin_here a.plan.table.now a.x.place n.result l.i l.bin l.token m.result c.requires.marked.0.stands n.ensures h m.ensures l.invariant.7 l.invariant.8 l.invariant.10 in
    omega (arith, l.invariant.1, b.near.1, b.few, h)

pub overflow_add-token : goal.overflow_add-token
overflow_add-token c =
    let a = c.args in
    let l = c.loop-i in
    let h = c.loop-i-test.true in
    let n = c.byte-n in
    let m = c.byte-m in
    let b = bin_here a.plan.table.now a.x.place n.result l.i l.bin l.token m.result c.requires.marked.0.stands n.ensures h m.ensures l.invariant.7 l.invariant.8 l.invariant.10 in
    omega (arith, l.invariant.2, b.near.2, b.tokens, b.few, h)

pub loop-i-preserved : goal.loop-i-preserved
loop-i-preserved c =
    let a = c.args in
    let l = c.loop-i in
    let h = c.loop-i-test.true in
    let n = c.byte-n in
    let m = c.byte-m in
    let b = bin_here a.plan.table.now a.x.place n.result l.i l.bin l.token m.result c.requires.marked.0.stands n.ensures h m.ensures l.invariant.7 l.invariant.8 l.invariant.10 in
    let pre = c.requires in
    let rows = c.put_rows in
    let v = c.eval_all-token in
    let chose = chosen (table_of a.plan.table.now) a.plan.table.now a.x.place.cross (sizes_of a.x.shape) (sizes-parts a.plan.table.now a.x.place pre.marked.0.stands a.x.shape pre.marked.0.fits) a.x.shape.total pre.marked.0.fits.whole.all rows.new.leaves l.token m.result b.tokens rows.ensures b.legal b.single v.result v.new.stack v.ensures.1 in
    let p = a.x.place in
    let add = c.add_bit in (
      omega (arith, h),
      omega (arith, l.invariant.1),
      omega (arith, l.invariant.2, b.tokens),
      add.auto.marks ∙ l.invariant.3,
      v.auto.stack ∙ l.invariant.4,
      rows.auto.leaves ∙ l.invariant.5,
      omega (arith, l.invariant.6, pow-add 2 l.i 1),
      b.single_rest,
      b.legal_rest,
      rest-turn (table_of a.plan.table.now) a.plan.table.now p.cross p.bins p.tokens n.result l.bin l.token (n.result - l.i) l.weight a.x.shape.total l.marks l.invariant.9 (n.result - (l.i + 1)) m.result (one_left n.result l.i h) m.ensures v.new.stack add.new.marks chose add.ensures,
      rest-inside a.plan.table.now l.bin n.result l.i h m.result m.ensures (longest a.plan.table.now p.bins n.result) l.invariant.10,
    )

pub returns : goal.returns
returns c =
    let a = c.args in
    let pre = c.requires in
    let p = a.x.place in
    let l = c.loop-i in
    let n = c.byte-n in
    marks-are a.plan.table.now p pre.marked.0.stands a.x.shape pre.marked.0.fits n.result n.ensures l.marks (omega (arith, pre.marked.1, l.invariant.3, c.put_same.auto.xs))
    (rest_end (table_of a.plan.table.now) a.plan.table.now p.cross p.bins p.tokens n.result l.bin l.token (n.result - l.i) l.weight a.x.shape.total l.marks l.invariant.9 (omega arith))
