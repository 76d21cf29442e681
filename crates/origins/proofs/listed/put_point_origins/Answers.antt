use mathlib.Core.Path.{refl, sym, ap, ◌∙◌}
use Prim.Native.Nat.{ℕ, ◌+◌, ◌*◌}
use native.Mathlib.Omega.{arith}
use lib.ListN.{length, replicate, length-append, length-replicate}
use Rattle.model.specs.Format.{point_record}
use Rattle.model.specs.Raw.{bins_at}
use Rattle.arrays.proofs.Written.{both-written}
use Rattle.origins.specs.Points.{origins_in, first_of, point_origins}
use Rattle.origins.proofs.CountLaws.{low-bound}
use Rattle.origins.proofs.OriginLaws.{origins-point}
use Rattle.origins.proofs.listed.put_point_origins.Goals as goal

pub put_listed-e-requires : goal.put_listed-e-requires
put_listed-e-requires c =
    let a = c.args in
    let q = c.requires in
    let s = a.t.now in
    let low = c.lowest_at-low in
    let has = c.has_auto-has in
    let m = c.auto_total-m in
    let listed = origins_in low.result a.p (first_of a.l a.own) (bins_at s a.own.bins a.own.ranges a.own.count) in
    let z = origins-point s a.l a.own a.p low.result (first_of a.l a.own) m.result has.result low.ensures refl has.ensures m.ensures.0 in
    (q.bins_bound.0, q.bins_bound.1, q.bins_bound.3, omega (arith, low.ensures, low-bound (point_record s (a.l.points + 11 * a.p))), omega (arith, q.bins_bound.4, ap length z ∙ length-append listed (replicate m.result 65535), length-replicate {A = ℕ} m.result 65535))

pub put_same-requires : goal.put_same-requires
put_same-requires c =
    let a = c.args in
    let q = c.requires in
    let s = a.t.now in
    let low = c.lowest_at-low in
    let has = c.has_auto-has in
    let m = c.auto_total-m in
    let listed = origins_in low.result a.p (first_of a.l a.own) (bins_at s a.own.bins a.own.ranges a.own.count) in
    let z = origins-point s a.l a.own a.p low.result (first_of a.l a.own) m.result has.result low.ensures refl has.ensures m.ensures.0 in
    let w = c.put_listed-e in
    omega (arith, q.bins_bound.4, w.ensures.0, w.auto.out, ap length z ∙ length-append listed (replicate m.result 65535), length-replicate {A = ℕ} m.result 65535)

pub returns : goal.returns
returns c =
    let a = c.args in
    let q = c.requires in
    let s = a.t.now in
    let low = c.lowest_at-low in
    let has = c.has_auto-has in
    let m = c.auto_total-m in
    let listed = origins_in low.result a.p (first_of a.l a.own) (bins_at s a.own.bins a.own.ranges a.own.count) in
    let z = origins-point s a.l a.own a.p low.result (first_of a.l a.own) m.result has.result low.ensures refl has.ensures m.ensures.0 in
    let w = c.put_listed-e in
    let v = c.put_same in
    both-written a.at w.result v.result listed (replicate m.result 65535) (point_origins s a.l a.own a.p) a.out.now w.new.out v.new.xs z q.bins_bound.4
    w.ensures.0 w.ensures.1 (v.ensures.0 ∙ ap (w.result +◌) (sym (length-replicate {A = ℕ} m.result 65535))) v.ensures.1
