use mathlib.Core.Path.{sym, ap, ◌∙◌}
use mathlib.Core.List.{List}
use Prim.Native.Nat.{ℕ}
use native.Mathlib.Omega.{arith}
use lib.ListN.{length}
use borrow.Author.Tests.{eqb-true}
use Rattle.model.specs.Format.{table_of}
use Rattle.arrays.specs.Put.{put}
use Rattle.arrays.proofs.FlatLaws.{unread}
use Rattle.arrays.proofs.Written.{as_written, unwritten}
use Rattle.points.proofs.ValueLaws.{places_ready}
use Rattle.hits.proofs.Ready.{found_within, found_inside, found_places, found_length, values_few, no-value-hit, bare-hit, plains-hit}
use Rattle.hits.proofs.bins.put_value_hits.Goals as goal

pub overflow_cast-n : goal.overflow_cast-n
overflow_cast-n c = omega (arith, (c.type_inv.found 0).fits)

pub put_found-requires : goal.put_found-requires
put_found-requires c =
    let a = c.args in
    let p = c.requires in
    let few = values_few a.t.now a.sample.now p.t_value.0 a.own.point p.t_value.2 in
    let long = found_length (table_of a.t.now) a.sample.now a.own.point a.found.now p.in_bounds.1 a.places.now in
    let same = ap length (found_places (table_of a.t.now) a.sample.now a.own.point a.found.now p.in_bounds.1 a.places.now p.in_bounds.3 c.if-n-ne0.true) in
    (omega (arith, few, long, same, p.t_value.4), found_within (table_of a.t.now) a.sample.now a.own.point a.found.now p.in_bounds.1 p.in_bounds.0, omega (arith, few, long, same), found_inside (table_of a.t.now) a.sample.now a.own.point a.found.now p.in_bounds.1 a.places.now p.in_bounds.2)

pub returns-then-n-ne0 : goal.returns-then-n-ne0
returns-then-n-ne0 c =
    let a = c.args in
    let p = c.requires in
    let q = c.put_found in
    let z = as_written 0 q.result _ _ _ a.hits.now q.new.hits (found_places (table_of a.t.now) a.sample.now a.own.point a.found.now p.in_bounds.1 a.places.now p.in_bounds.3 c.if-n-ne0.true) (found_length (table_of a.t.now) a.sample.now a.own.point a.found.now p.in_bounds.1 a.places.now) (omega (arith, q.ensures.0)) q.ensures.1 in
    (omega (arith, z.0), z.1)

pub returns-then-is_empty : goal.returns-then-is_empty
returns-then-is_empty c =
    let a = c.args in
    let p = c.requires in
    let z = unwritten 0 _ a.hits.now (bare-hit a.t.now a.sample.now p.t_value.0 a.own.point p.t_value.2 p.t_value.1 a.own.reading p.t_value.3 (sym p.in_bounds.1.count ∙ c.if-n-ne0.false) a.plains.now p.in_bounds.4 (eqb-true _ 0 (sym c.is_empty.ensures ∙ c.if-is_empty.true))) in
    (omega (arith, z.0), z.1)

pub returns-in_default : goal.returns-in_default
returns-in_default c =
    let a = c.args in
    let p = c.requires in
    let z = unwritten 0 _ a.hits.now (no-value-hit a.t.now a.sample.now p.t_value.0 a.own.point p.t_value.2 p.t_value.1 a.own.reading p.t_value.3 (unread a.own.reading c.in_default.not-Known)) in
    (omega (arith, z.0), z.1)

pub put_plain_hits-requires : goal.put_plain_hits-requires
put_plain_hits-requires c =
    let a = c.args in
    let p = c.requires in
    let l = c.layout_of-l in
    let near = (places_ready a.t.now p.t_value.0 a.own.point p.t_value.2 l.result l.ensures.value).0 in
    let few = values_few a.t.now a.sample.now p.t_value.0 a.own.point p.t_value.2 in
    (near.bins_near, near.ranges_near, near.few_bins, omega (arith, few, ap length (plains-hit a.t.now a.sample.now p.t_value.0 a.own.point p.t_value.2 p.t_value.1 a.own.reading p.t_value.3 (sym p.in_bounds.1.count ∙ c.if-n-ne0.false) a.plains.now p.in_bounds.4 _ c.in-Known.is l.result l.ensures.value), p.t_value.4))

pub returns : goal.returns
returns c =
    let a = c.args in
    let p = c.requires in
    let l = c.layout_of-l in
    let q = c.put_plain_hits in
    let z = plains-hit a.t.now a.sample.now p.t_value.0 a.own.point p.t_value.2 p.t_value.1 a.own.reading p.t_value.3 (sym p.in_bounds.1.count ∙ c.if-n-ne0.false) a.plains.now p.in_bounds.4 _ c.in-Known.is l.result l.ensures.value in
    (q.ensures.0 ∙ ap length (sym z), q.ensures.1 ∙ ap (λ (x : List ℕ). put 0 x a.hits.now) (sym z))
