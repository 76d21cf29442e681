use mathlib.Core.Path.{◌≡◌}
use Prim.Native.Nat.{◌+◌, ◌-◌}
use native.Mathlib.Omega.{arith}
use Rattle.model.specs.Format.{table_of}
use Rattle.sampling.proofs.Joins.{labelled}
use Rattle.coverage.proofs.AnswerLaws.{counters_few, counters_there, counts-long, items-long, flags-long, numbers-there, tallies-whole}
use Rattle.coverage.proofs.figure.tallies_in.Goals as goal

pub put_totals-requires : goal.put_totals-requires
put_totals-requires c =
    let a = c.args in
    let p = c.requires in
    let k = c.put_kinds-x in
    (p.t_value.0, p.roomy.0, k.ensures.0, labelled (table_of a.t.now) a.labels.now k.new.kinds k.ensures.1 k.auto.kinds)

pub slice_bounds-tally_all-end-5 : goal.slice_bounds-tally_all-end-5
slice_bounds-tally_all-end-5 c =
    let a = c.args in
    let p = c.requires in
    let k = c.put_kinds-x in
    let e = k.ensures.0.counters in
    omega (arith, counters_there a.t.now p.t_value.0 a.register.now p.t_value.1 k.result.counters e)

pub tally_all-requires : goal.tally_all-requires
tally_all-requires c =
    let a = c.args in
    let p = c.requires in
    let k = c.put_kinds-x in
    let i = c.put_items in
    let f = c.put_totals in
    let l = c.put_leasts in
    let e = k.ensures.0.counters in
    let items = items-long a.t.now p.t_value.0 a.register.now p.t_value.1 k.result.counters e k.new.kinds i.new.items a.flags.now f.new.flags i.ensures i.auto.items f.ensures f.auto.flags in
    let flags = flags-long a.t.now p.t_value.0 a.register.now p.t_value.1 k.result.counters e k.new.kinds i.new.items a.flags.now f.new.flags i.ensures i.auto.items f.ensures f.auto.flags in
    let counts = counts-long a.t.now p.t_value.0 a.register.now p.t_value.1 k.result.counters e in
    (omega (arith, items, flags), omega (arith, items, counts), omega (arith, items, counters_few a.t.now p.t_value.0 a.register.now p.t_value.1 k.result.counters e), omega (arith, l.auto.leasts), numbers-there a.t.now p.t_value.0 a.register.now p.t_value.1 k.result.counters e k.new.kinds i.new.items a.flags.now f.new.flags i.ensures i.auto.items f.ensures f.auto.flags)

pub returns : goal.returns
returns c =
    let a = c.args in
    let p = c.requires in
    let k = c.put_kinds-x in
    let i = c.put_items in
    let f = c.put_totals in
    let l = c.put_leasts in
    let e = k.ensures.0.counters in
    let z : 2 + k.result.counters - 2 ≡ k.result.counters = omega arith in
    let y = c.tally_all.ensures in
    tallies-whole a.t.now p.t_value.0 a.register.now p.t_value.1 k.result.counters e k.new.kinds i.new.items a.flags.now f.new.flags i.ensures i.auto.items f.ensures f.auto.flags _ l.new.leasts c.tally_all.result l.ensures (rw z at y)
