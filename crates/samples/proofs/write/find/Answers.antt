use mathlib.Core.Path.{ap, ◌∙◌}
use mathlib.Core.List.{List}
use Prim.Native.Nat.{ℕ, ◌+◌}
use native.Mathlib.Omega.{arith}
use lib.ListN.{length}
use Rattle.model.specs.Format.{table_of}
use Rattle.arrays.specs.Put.{put}
use Rattle.samples.specs.Writes.{runs_after}
use Rattle.samples.proofs.PreparedLaws.{lent}
use Rattle.samples.proofs.FindLaws.{few, runs-room, readings-known, runs-advanced, runs-at, places-found}
use Rattle.samples.proofs.write.find.Goals as goal

pub take_runs-requires : goal.take_runs-requires
take_runs-requires c =
    let a = c.args in
    let p = c.requires in
    let b = a.t.now in
    let lay = c.point_count-n in
    let k = c.element-k in
    let at = 2 + k.result + lay.result in
    let here = runs-at b p.0 lay.result lay.ensures.value k.result (k.ensures ∙ p.1.ready.counters) in
    let room = runs-room b p.0 a.sample.now a.register.now p.2 p.3 at here in
    let r = c.read_all in record { t_value = (p.0, p.1.sequences, c.element-b.ensures ∙ p.1.bins); in_bounds = (omega (arith, r.auto.readings, p.6), omega arith, omega (arith, few b p.0, here), room) }

pub slice_bounds-find_hits-count : goal.slice_bounds-find_hits-count
slice_bounds-find_hits-count c =
    let a = c.args in
    let p = c.requires in
    omega (arith, (lent (table_of a.t.now) a.plan.now a.lists.now p.1 _ c.element-m.ensures).0)

pub slice_bounds-find_hits-start : goal.slice_bounds-find_hits-start
slice_bounds-find_hits-start c =
    let a = c.args in
    let p = c.requires in
    omega (arith, (lent (table_of a.t.now) a.plan.now a.lists.now p.1 _ c.element-m.ensures).0)

pub find_hits-requires : goal.find_hits-requires
find_hits-requires c =
    let a = c.args in
    let p = c.requires in
    let b = a.t.now in
    let lay = c.point_count-n in
    let k = c.element-k in
    let at = 2 + k.result + lay.result in
    let here = runs-at b p.0 lay.result lay.ensures.value k.result (k.ensures ∙ p.1.ready.counters) in
    let room = runs-room b p.0 a.sample.now a.register.now p.2 p.3 at here in
    let r = c.read_all in
    let ready = (lent (table_of b) a.plan.now a.lists.now p.1 _ c.element-m.ensures).1 in
    (p.0, readings-known b p.0 a.sample.now a.register.now p.2 p.3 at here a.readings.now r.new.readings p.6 r.ensures, omega (arith, r.auto.readings, p.6), omega (arith, c.take_runs.auto.lens), p.5, ready.planned)

pub returns : goal.returns
returns c =
    let a = c.args in
    let p = c.requires in
    let b = a.t.now in
    let lay = c.point_count-n in
    let k = c.element-k in
    let at = 2 + k.result + lay.result in
    let here = runs-at b p.0 lay.result lay.ensures.value k.result (k.ensures ∙ p.1.ready.counters) in
    let room = runs-room b p.0 a.sample.now a.register.now p.2 p.3 at here in
    let r = c.read_all in
    let known = readings-known b p.0 a.sample.now a.register.now p.2 p.3 at here a.readings.now r.new.readings p.6 r.ensures in
    let g = c.take_runs in
    let e = runs-advanced b p.0 a.sample.now a.register.now p.2 p.3 at here g.new.register (g.ensures.by_index a.sample.now known) in
    let h = c.find_hits in
    let told = places-found b p.0 a.sample.now a.register.now p.2 p.3 at here g.new.register _ g.new.lens e (omega arith) g.ensures.lens_after in record { register_after = e ∙ ap (λ (i : ℕ). put i (runs_after (table_of b) a.sample.now a.register.now) a.register.now) here; value = (h.ensures.0 ∙ ap length told, h.ensures.1 ∙ ap (λ (x : List ℕ). put 0 x a.hits.now) told); readings_after = r.ensures }
