use mathlib.Core.Path.{refl}
use native.Mathlib.Omega.{arith}
use Rattle.model.specs.Format.{table_of}
use Rattle.layout.proofs.PlaceLaws.{points-total}
use lib.ListN.{length, take}
use Rattle.model.specs.Register.{run_stretches}
use Rattle.engine.proofs.EngineLaws.{rows_part, starts_part, rows_room, base_is, counters-many, points_in, crosses_room, hits_all, all_in, counters-small}
use Rattle.hits.proofs.AllPlaces.{all-few}
use Rattle.engine.proofs.put_hits.Goals as goal

pub slice_bounds-put_point_hits-count : goal.slice_bounds-put_point_hits-count
slice_bounds-put_point_hits-count c =
    let a = c.args in
    let p = c.requires in
    let s = a.t.now in
    let lay = c.point_count-n in
    let n = points-total s p.t_value.0 lay.result lay.ensures.value in
    omega (arith, p.found.4, n)

pub slice_bounds-put_point_hits-start : goal.slice_bounds-put_point_hits-start
slice_bounds-put_point_hits-start c =
    let a = c.args in
    let p = c.requires in
    let s = a.t.now in
    let lay = c.point_count-n in
    let n = points-total s p.t_value.0 lay.result lay.ensures.value in
    omega (arith, p.found.4, n)

pub put_point_hits-k-requires : goal.put_point_hits-k-requires
put_point_hits-k-requires c =
    let a = c.args in
    let p = c.requires in
    let s = a.t.now in
    let lay = c.point_count-n in
    let n = points-total s p.t_value.0 lay.result lay.ensures.value in
    let t = table_of s in
    let ls = a.lists.now in
    let m = lay.result in
    record { t_value = (p.t_value.0, p.t_value.1, p.t_value.2, p.t_value.3, omega (arith, p.t_value.4, counters-many t)); found = (p.found.0, p.found.1, rows_part t ls p.found.2 p.found.4 m n _ refl, starts_part t ls p.found.2 p.found.4 m n _ refl, rows_room t ls p.found.2 p.found.4 m n _ refl) }

pub offset_bounds-hits-k : goal.offset_bounds-hits-k
offset_bounds-hits-k c =
    let a = c.args in
    let p = c.requires in
    let k = c.put_point_hits-k in
    omega (arith, k.ensures.0, all-few a.t.now a.sample.now (take (length (table_of a.t.now).transition_bins) a.lens.now) p.t_value.0)

pub slice_bounds-put_crossed-count : goal.slice_bounds-put_crossed-count
slice_bounds-put_crossed-count c =
    let a = c.args in
    let p = c.requires in
    let s = a.t.now in
    let k = c.put_point_hits-k in
    points_in (table_of s) a.sample.now _ a.hits.now k.new.hits k.new.hits k.result 0 _ p.t_value.4 k.ensures.0 k.ensures.1 refl

pub slice_bounds-put_crossed-start : goal.slice_bounds-put_crossed-start
slice_bounds-put_crossed-start c =
    let a = c.args in
    let p = c.requires in
    let s = a.t.now in
    let k = c.put_point_hits-k in
    omega (arith, points_in (table_of s) a.sample.now _ a.hits.now k.new.hits k.new.hits k.result 0 _ p.t_value.4 k.ensures.0 k.ensures.1 refl)

pub put_crossed-c-requires : goal.put_crossed-c-requires
put_crossed-c-requires c =
    let a = c.args in
    let p = c.requires in
    let s = a.t.now in
    let lay = c.point_count-n in
    let n = points-total s p.t_value.0 lay.result lay.ensures.value in
    let t = table_of s in
    let k = c.put_point_hits-k in
    let b = c.element-base in
    record { t_value = (p.t_value.0, p.found.0, p.found.2, p.found.3, p.found.4); base_value = (base_is t a.lists.now p.found.2 p.found.4 lay.result n b.result b.ensures, crosses_room t a.sample.now _ a.hits.now k.new.hits k.new.hits k.result 0 _ p.t_value.4 k.ensures.0 k.ensures.1 refl) }

pub overflow_add-result : goal.overflow_add-result
overflow_add-result c =
    let a = c.args in
    let p = c.requires in
    let s = a.t.now in
    let lay = c.point_count-n in
    let n = points-total s p.t_value.0 lay.result lay.ensures.value in
    let t = table_of s in
    let k = c.put_point_hits-k in
    let b = c.element-base in
    let q = c.put_crossed-c in
    let m = run_stretches (take (length t.transition_bins) a.lens.now) in
    let base = base_is t a.lists.now p.found.2 p.found.4 lay.result n b.result b.ensures in
    omega (arith, counters-small s p.t_value.0, all_in t a.sample.now m a.hits.now k.new.hits q.new.hits k.result q.result b.result p.t_value.4 k.ensures.0 k.ensures.1 base (q.ensures m).0)

pub returns : goal.returns
returns c =
    let a = c.args in
    let p = c.requires in
    let s = a.t.now in
    let lay = c.point_count-n in
    let n = points-total s p.t_value.0 lay.result lay.ensures.value in
    let t = table_of s in
    let k = c.put_point_hits-k in
    let b = c.element-base in
    let q = c.put_crossed-c in
    let m = run_stretches (take (length t.transition_bins) a.lens.now) in
    let base = base_is t a.lists.now p.found.2 p.found.4 lay.result n b.result b.ensures in
    hits_all t a.sample.now m a.hits.now k.new.hits q.new.hits k.result q.result b.result p.t_value.4 k.ensures.0 k.ensures.1 base (q.ensures m).0 q.auto.hits (q.ensures m).1
