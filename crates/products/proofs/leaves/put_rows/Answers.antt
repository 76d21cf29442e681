use mathlib.Core.Path.{◌≡◌, refl, ◌∙◌}
use Prim.Native.Nat.{◌+◌, ◌*◌}
use Rattle.model.specs.Format.{table_of}
use Rattle.products.specs.Tokens.{TokensLegal}
use Rattle.products.proofs.LeafRows.{no_rows, rows_more, parts_few}
use native.Mathlib.Omega.{arith}
use Rattle.products.proofs.leaves.put_rows.Goals as goal

pub loop-j-init : goal.loop-j-init
loop-j-init c =
    let a = c.args in
    (omega arith, refl, no_rows (table_of a.plan.table.now) a.plan.table.now a.k.cross a.k.at a.leaves.now)

pub put_row-requires : goal.put_row-requires
unfolding TokensLegal
put_row-requires c =
    let l = c.loop-j in
    let pre = c.requires in
    record { row_in_bounds = (omega arith, omega arith, omega arith); ready = (pre.ready.0, pre.ready.1 l.j (omega arith)) }

pub loop-j-preserved : goal.loop-j-preserved
unfolding TokensLegal
loop-j-preserved c =
    let a = c.args in
    let s = a.plan.table.now in
    let l = c.loop-j in
    let pre = c.requires in (
      omega arith,
      c.put_row.auto.leaves ∙ l.invariant.1,
      rows_more (table_of s) s a.k.cross a.k.at l.j (λ j h. parts_few s a.k.cross (a.k.at + 20 * j) a.s a.plan.words.now a.plan.lists.now pre.ready.0 (pre.ready.1 j (omega arith)))
          l.leaves c.put_row.new.leaves l.invariant.2 c.put_row.ensures.0 c.put_row.ensures.1,
    )

pub returns : goal.returns
returns c =
    let a = c.args in
    let l = c.loop-j in
    let z : l.j ≡ a.k.count = omega arith in
    rw z at l.invariant.2
