use mathlib.Core.Path.{sym, ap}
use Prim.Native.Nat.{ℕ, ◌+◌}
use native.Mathlib.Omega.{arith}
use Rattle.model.specs.Format.{table_of}
use Rattle.model.specs.Figures.{item_of}
use Rattle.model.proofs.RawExact.{few_points}
use Rattle.arrays.specs.Flat.{items_of}
use Rattle.crosses.proofs.Places.{count_points}
use Rattle.crosses.proofs.labels.put_cross_items.Goals as goal

pub overflow_cast-points : goal.overflow_cast-points
overflow_cast-points c =
    let a = c.args in
    let p = c.requires in
    let l = c.layout_of-l in
    omega (arith, count_points a.t.now p.0 l.result l.ensures.value, few_points a.t.now p.0)

pub put_all_labels-requires : goal.put_all_labels-requires
put_all_labels-requires c =
    let a = c.args in
    let p = c.requires in
    let l = c.layout_of-l in
    let e = count_points a.t.now p.0 l.result l.ensures.value in
    let few = few_points a.t.now p.0 in
    record { t_value = (p.0, l.ensures.value, p.1); t_in_bounds = (p.2, omega (arith, e, few), omega (arith, e, few), omega (arith, e, few)) }

pub returns : goal.returns
unfolding items_of item_of
returns c =
    let a = c.args in
    let p = c.requires in
    let l = c.layout_of-l in
    let q = c.put_all_labels in
    let e = sym (count_points a.t.now p.0 l.result l.ensures.value) in
    record { value = q.ensures.value; after = q.ensures.by_index (item_of (table_of a.t.now)) (record { on_cover = λ x i. ap (λ (n : ℕ). n + x) e; on_illegal = λ x i. ap (λ (n : ℕ). n + x) e; on_product = λ x cs. ap (λ (n : ℕ). n + x) e }) }
