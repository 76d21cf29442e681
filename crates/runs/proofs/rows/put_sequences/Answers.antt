-- `rows::put_sequences` meets its contract. Assumes nothing.
use mathlib.Core.Path.{ap, ◌∙◌}
use mathlib.Core.List.{List}
use Prim.Native.Nat.{ℕ, ◌+◌}
use lib.ListN.{length}
use Rattle.runs.proofs.Ready.{few_bins, bins-fit, rows-laid, rows_written}
use native.Mathlib.Omega.{arith}
use Rattle.runs.proofs.rows.put_sequences.Goals as goal

pub put_bins-requires : goal.put_bins-requires
put_bins-requires c =
    let a = c.args in
    let pre = c.requires in
    let s = a.t.now in
    let l = c.layout_of-l in
    let few = few_bins s pre.0 l.result l.ensures.value in record { transitions_bound = (omega arith, omega arith, omega arith, omega arith, few); transition_count_value = (bins-fit s pre.0 l.result l.ensures.value, omega (arith, pre.1, ap length (rows-laid s pre.0 l.result l.ensures.value))) }

pub returns : goal.returns
returns c =
    let a = c.args in
    let pre = c.requires in
    let s = a.t.now in
    let l = c.layout_of-l in
    let w = c.put_bins in
    (w.ensures.0 ∙ ap (λ (xs : List ℕ). a.at + length xs) (rows-laid s pre.0 l.result l.ensures.value), rows_written s pre.0 l.result l.ensures.value a.at a.plan.now w.new.plan w.ensures.1)
