use mathlib.Core.Path.{◌≡◌, sym, ap, ◌∙◌, subst}
use mathlib.Core.Bool.{true}
use Prim.Native.Nat.{ℕ, ◌+◌, ◌<◌}
use lib.Dec.{eqb}
use native.Mathlib.Omega.{arith}
use lib.ListN.{length, get_or}
use Rattle.model.specs.Lists.{as_bit}
use Rattle.model.specs.Values.{in_type}
use Rattle.model.specs.Counters.{point_at}
use Rattle.model.specs.Format.{byte, table_of}
use Rattle.model.specs.Register.{point_total}
use Rattle.arrays.specs.Flat.{covers}
use Rattle.products.specs.Tokens.{token_point}
use Rattle.products.proofs.LeafRows.{row_named, row_meets, row_same, point_inside, parts_few, parts_are}
use Rattle.products.proofs.leaves.put_row.Goals as goal

pub put_named-requires : goal.put_named-requires
put_named-requires c =
    let a = c.args in
    let pre = c.requires in
    let s = a.plan.table.now in
    let ei = c.byte-i.ensures in
    let parts = parts_are s a.k.cross a.k.at a.s a.plan.words.now a.plan.lists.now pre.ready.0 pre.ready.1 c.byte-i.result c.parts_at-parts.result ei c.parts_at-parts.ensures.0 in
    let few = parts_few s a.k.cross a.k.at a.s a.plan.words.now a.plan.lists.now pre.ready.0 pre.ready.1 in
    (omega (arith, pre.row_in_bounds.0, parts, few), omega arith, omega (arith, parts, few))

pub returns-then-op-eq1 : goal.returns-then-op-eq1
returns-then-op-eq1 c =
    let a = c.args in
    let pre = c.requires in
    let s = a.plan.table.now in
    let ei = c.byte-i.ensures in
    let parts = parts_are s a.k.cross a.k.at a.s a.plan.words.now a.plan.lists.now pre.ready.0 pre.ready.1 c.byte-i.result c.parts_at-parts.result ei c.parts_at-parts.ensures.0 in
    let op : byte s a.k.at ≡ 1 = sym c.byte-op.ensures ∙ c.if-op-eq1.true in
    let ep = c.byte-p.ensures ∙ ap (λ (x : ℕ). get_or s (a.k.cross + 1 + x) 0) ei in
    row_named (table_of s) s a.k.cross a.k.at a.k.row a.leaves.now c.put_named.new.leaves pre.row_in_bounds.0 c.parts_at-parts.result parts
    a.plan.lists.now c.read2-b.result c.byte-p.result ep c.read2-b.ensures op (pre.ready.1.bin op) (point_inside s a.k.cross a.k.at a.s a.plan.words.now a.plan.lists.now pre.ready.0 pre.ready.1) pre.ready.0.from c.put_named.ensures

pub put_meets-requires : goal.put_meets-requires
put_meets-requires c =
    let a = c.args in
    let pre = c.requires in
    let s = a.plan.table.now in
    let ei = c.byte-i.ensures in
    let parts = parts_are s a.k.cross a.k.at a.s a.plan.words.now a.plan.lists.now pre.ready.0 pre.ready.1 c.byte-i.result c.parts_at-parts.result ei c.parts_at-parts.ensures.0 in
    let ready = pre.ready.0 in
    let legal = pre.ready.1 in
    let op : byte s a.k.at ≡ 2 = sym c.byte-op.ensures ∙ c.if-op-eq2.true in
    let ep : c.byte-p.result ≡ token_point s a.k.cross a.k.at = c.byte-p.ensures ∙ ap (λ (x : ℕ). get_or s (a.k.cross + 1 + x) 0) ei in record {
      t_value = (ready.whole, subst (λ (x : ℕ). x < point_total (table_of s)) (sym ep) (point_inside s a.k.cross a.k.at a.s a.plan.words.now a.plan.lists.now pre.ready.0 pre.ready.1), ready.planned);
      parts_value = (
        parts ∙ ap (λ (x : ℕ). length (covers (table_of s) x)) (sym ep),
        omega (arith, pre.row_in_bounds.0, parts, parts_few s a.k.cross a.k.at a.s a.plan.words.now a.plan.lists.now pre.ready.0 pre.ready.1),
        subst (λ (x : ℕ). in_type (point_at (table_of s) x) c.field-lo.result ≡ true) (sym ep) (subst (λ (x : ℕ). in_type (point_at (table_of s) (token_point s a.k.cross a.k.at)) x ≡ true) (sym c.field-lo.ensures) (legal.low op)),
        subst (λ (x : ℕ). in_type (point_at (table_of s) x) c.field-hi.result ≡ true) (sym ep) (subst (λ (x : ℕ). in_type (point_at (table_of s) (token_point s a.k.cross a.k.at)) x ≡ true) (sym c.field-hi.ensures) (legal.high op)),
      );
    }

pub returns-then-op-eq2 : goal.returns-then-op-eq2
returns-then-op-eq2 c =
    let a = c.args in
    let s = a.plan.table.now in
    let op : byte s a.k.at ≡ 2 = sym c.byte-op.ensures ∙ c.if-op-eq2.true in
    let ep = c.byte-p.ensures ∙ ap (λ (x : ℕ). get_or s (a.k.cross + 1 + x) 0) c.byte-i.ensures in
    row_meets (table_of s) s a.k.cross a.k.at a.k.row a.leaves.now c.put_meets.new.out c.requires.row_in_bounds.0
    c.field-lo.result c.field-hi.result c.byte-p.result ep c.field-lo.ensures c.field-hi.ensures op c.put_meets.ensures

pub put_same-requires : goal.put_same-requires
put_same-requires c =
    let a = c.args in
    let pre = c.requires in
    let s = a.plan.table.now in
    let ei = c.byte-i.ensures in
    let parts = parts_are s a.k.cross a.k.at a.s a.plan.words.now a.plan.lists.now pre.ready.0 pre.ready.1 c.byte-i.result c.parts_at-parts.result ei c.parts_at-parts.ensures.0 in
    omega (arith, pre.row_in_bounds.0, parts, parts_few s a.k.cross a.k.at a.s a.plan.words.now a.plan.lists.now pre.ready.0 pre.ready.1)

pub returns : goal.returns
returns c =
    let a = c.args in
    let pre = c.requires in
    let s = a.plan.table.now in
    let ei = c.byte-i.ensures in
    let parts = parts_are s a.k.cross a.k.at a.s a.plan.words.now a.plan.lists.now pre.ready.0 pre.ready.1 c.byte-i.result c.parts_at-parts.result ei c.parts_at-parts.ensures.0 in
    let eo = c.byte-op.ensures in
    row_same (table_of s) s a.k.cross a.k.at a.k.row a.leaves.now c.put_same.new.xs pre.row_in_bounds.0 c.parts_at-parts.result parts
    c.as_bit-v.result (c.as_bit-v.ensures ∙ ap (λ (x : ℕ). as_bit (eqb x 0)) eo) (λ e. c.if-op-eq1.false (eo ∙ e)) (λ e. c.if-op-eq2.false (eo ∙ e)) c.put_same.ensures.1
