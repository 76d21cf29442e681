use mathlib.Core.Path.{sym}
use native.Mathlib.Omega.{arith}
use lib.Seq.{length-take-le}
use Rattle.model.specs.Format.{table_of}
use Rattle.samples.proofs.Passed.{all-passed}
use Rattle.layout.proofs.PlaceLaws.{points-total}
use Rattle.samples.proofs.PlannedWrites.{hits_in, countable, codes_in, in_order, counted, words_written, illegals-in, report_room, illegals-order, report-written}
use Rattle.samples.proofs.write.write_planned.Goals as goal

pub find-m-requires : goal.find-m-requires
find-m-requires c =
    let a = c.args in
    let p = c.requires in
    let b = a.t.now in
    let g = all-passed (table_of b) a.sample.now a.register.now a.report.now p.3 in
    (p.0, p.1, g.long, g.widths, g.sized, p.2, omega arith)

pub slice_bounds-raise_counts-end : goal.slice_bounds-raise_counts-end
slice_bounds-raise_counts-end c =
    let a = c.args in
    let p = c.requires in
    let b = a.t.now in
    let lay = c.point_count-n in
    let k = c.element-k in
    let n = points-total b p.0 lay.result lay.ensures.value in
    let f = c.find-m in
    hits_in b p.0 a.sample.now a.register.now a.report.now p.3 _ a.lists.now p.1.ready lay.result k.result n k.ensures f.new.register f.ensures.register_after f.result a.hits.now f.new.hits f.ensures.value.0 f.ensures.value.1 f.auto.hits _ f.new.readings f.ensures.readings_after f.auto.readings

pub slice_bounds-raise_counts-end-2 : goal.slice_bounds-raise_counts-end-2
slice_bounds-raise_counts-end-2 c =
    let a = c.args in
    let p = c.requires in
    let b = a.t.now in
    let lay = c.point_count-n in
    let k = c.element-k in
    let n = points-total b p.0 lay.result lay.ensures.value in
    let f = c.find-m in
    sym (length-take-le f.result f.new.hits (hits_in b p.0 a.sample.now a.register.now a.report.now p.3 _ a.lists.now p.1.ready lay.result k.result n k.ensures f.new.register f.ensures.register_after f.result a.hits.now f.new.hits f.ensures.value.0 f.ensures.value.1 f.auto.hits _ f.new.readings f.ensures.readings_after f.auto.readings))

pub raise_counts-requires : goal.raise_counts-requires
raise_counts-requires c =
    let a = c.args in
    let p = c.requires in
    let b = a.t.now in
    let lay = c.point_count-n in
    let k = c.element-k in
    let n = points-total b p.0 lay.result lay.ensures.value in
    let f = c.find-m in
    (countable b p.0 a.sample.now a.register.now a.report.now p.3 _ a.lists.now p.1.ready lay.result k.result n k.ensures f.new.register f.ensures.register_after f.result a.hits.now f.new.hits f.ensures.value.0 f.ensures.value.1 f.auto.hits _ f.new.readings f.ensures.readings_after f.auto.readings, codes_in b p.0 a.sample.now a.register.now a.report.now p.3 _ a.lists.now p.1.ready lay.result k.result n k.ensures f.new.register f.ensures.register_after f.result a.hits.now f.new.hits f.ensures.value.0 f.ensures.value.1 f.auto.hits _ f.new.readings f.ensures.readings_after f.auto.readings, in_order b p.0 a.sample.now a.register.now a.report.now p.3 _ a.lists.now p.1.ready lay.result k.result n k.ensures f.new.register f.ensures.register_after f.result a.hits.now f.new.hits f.ensures.value.0 f.ensures.value.1 f.auto.hits _ f.new.readings f.ensures.readings_after f.auto.readings, counted b p.0 a.sample.now a.register.now a.report.now p.3 _ a.lists.now p.1.ready lay.result k.result n k.ensures f.new.register f.ensures.register_after f.result a.hits.now f.new.hits f.ensures.value.0 f.ensures.value.1 f.auto.hits _ f.new.readings f.ensures.readings_after f.auto.readings)

pub slice_bounds-report_listed-end : goal.slice_bounds-report_listed-end
slice_bounds-report_listed-end c =
    let a = c.args in
    let p = c.requires in
    let b = a.t.now in
    let lay = c.point_count-n in
    let k = c.element-k in
    let n = points-total b p.0 lay.result lay.ensures.value in
    let f = c.find-m in
    omega (arith, illegals-in b p.0 a.sample.now a.register.now a.report.now p.3 _ a.lists.now p.1.ready lay.result k.result n k.ensures f.new.register f.ensures.register_after f.result a.hits.now f.new.hits f.ensures.value.0 f.ensures.value.1 f.auto.hits _ f.new.readings f.ensures.readings_after f.auto.readings c.element-c.result c.element-c.ensures)

pub slice_bounds-report_listed-end-2 : goal.slice_bounds-report_listed-end-2
slice_bounds-report_listed-end-2 c =
    let a = c.args in
    let p = c.requires in
    let b = a.t.now in
    let lay = c.point_count-n in
    let k = c.element-k in
    let n = points-total b p.0 lay.result lay.ensures.value in
    let f = c.find-m in
    hits_in b p.0 a.sample.now a.register.now a.report.now p.3 _ a.lists.now p.1.ready lay.result k.result n k.ensures f.new.register f.ensures.register_after f.result a.hits.now f.new.hits f.ensures.value.0 f.ensures.value.1 f.auto.hits _ f.new.readings f.ensures.readings_after f.auto.readings

pub slice_bounds-report_listed-end-3 : goal.slice_bounds-report_listed-end-3
slice_bounds-report_listed-end-3 c =
    let a = c.args in
    let p = c.requires in
    let b = a.t.now in
    let lay = c.point_count-n in
    let k = c.element-k in
    let n = points-total b p.0 lay.result lay.ensures.value in
    let f = c.find-m in
    sym (length-take-le f.result f.new.hits (hits_in b p.0 a.sample.now a.register.now a.report.now p.3 _ a.lists.now p.1.ready lay.result k.result n k.ensures f.new.register f.ensures.register_after f.result a.hits.now f.new.hits f.ensures.value.0 f.ensures.value.1 f.auto.hits _ f.new.readings f.ensures.readings_after f.auto.readings))

pub report_listed-requires : goal.report_listed-requires
report_listed-requires c =
    let a = c.args in
    let p = c.requires in
    let b = a.t.now in
    let lay = c.point_count-n in
    let k = c.element-k in
    let n = points-total b p.0 lay.result lay.ensures.value in
    let f = c.find-m in
    let q = c.element-c in
    (report_room b p.0 a.sample.now a.register.now a.report.now p.3 _ a.lists.now p.1.ready lay.result k.result n k.ensures f.new.register f.ensures.register_after f.result a.hits.now f.new.hits f.ensures.value.0 f.ensures.value.1 f.auto.hits _ f.new.readings f.ensures.readings_after f.auto.readings q.result q.ensures, illegals-order b p.0 a.sample.now a.register.now a.report.now p.3 _ a.lists.now p.1.ready lay.result k.result n k.ensures f.new.register f.ensures.register_after f.result a.hits.now f.new.hits f.ensures.value.0 f.ensures.value.1 f.auto.hits _ f.new.readings f.ensures.readings_after f.auto.readings q.result q.ensures, in_order b p.0 a.sample.now a.register.now a.report.now p.3 _ a.lists.now p.1.ready lay.result k.result n k.ensures f.new.register f.ensures.register_after f.result a.hits.now f.new.hits f.ensures.value.0 f.ensures.value.1 f.auto.hits _ f.new.readings f.ensures.readings_after f.auto.readings)

pub returns : goal.returns
returns c =
    let a = c.args in
    let p = c.requires in
    let b = a.t.now in
    let lay = c.point_count-n in
    let k = c.element-k in
    let n = points-total b p.0 lay.result lay.ensures.value in
    let f = c.find-m in
    let q = c.element-c in
    let u = c.raise_counts in
    let o = c.report_listed in
    record { register_after = words_written b p.0 a.sample.now a.register.now a.report.now p.3 _ a.lists.now p.1.ready lay.result k.result n k.ensures f.new.register f.ensures.register_after f.result a.hits.now f.new.hits f.ensures.value.0 f.ensures.value.1 f.auto.hits _ f.new.readings f.ensures.readings_after f.auto.readings u.new.register u.ensures; report_after = report-written b p.0 a.sample.now a.register.now a.report.now p.3 _ a.lists.now p.1.ready lay.result k.result n k.ensures f.new.register f.ensures.register_after f.result a.hits.now f.new.hits f.ensures.value.0 f.ensures.value.1 f.auto.hits _ f.new.readings f.ensures.readings_after f.auto.readings q.result q.ensures o.new.report o.ensures }
