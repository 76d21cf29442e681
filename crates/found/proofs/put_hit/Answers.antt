use mathlib.Core.Path.{ap, ◌∙◌}
use mathlib.Core.List.{List}
use Prim.Native.Nat.{ℕ}
use native.Mathlib.Omega.{arith}
use lib.ListN.{length}
use Rattle.arrays.specs.Put.{put}
use Rattle.arrays.proofs.FlatLaws.{unread}
use Rattle.found.proofs.GuardLaws.{bins_low}
use Rattle.found.proofs.HitLaws.{few_hits, none_read, known-low, low-under, none_left, parts-hit, rows_fit, nothing_hit}
use Rattle.found.proofs.put_hit.Goals as goal

pub returns-in_default : goal.returns-in_default
returns-in_default c =
    let a = c.args in
    let q = c.requires in
    let s = a.t.now in
    nothing_hit _ _ (none_read s a.sample.now q.reading.good q.reading.widths _ q.reading.own _ q.reading.code (unread a.r.reading c.in_default.not-Known))

pub overflow_sub-v : goal.overflow_sub-v
overflow_sub-v c =
    let a = c.args in
    let q = c.requires in
    let s = a.t.now in
    low-under s a.sample.now q.reading.good q.reading.widths _ q.reading.own _ q.reading.code _ c.in-Known.is _ q.reading.low

pub inside-requires : goal.inside-requires
inside-requires c = c.requires.rows_of.1.gaps

pub returns-then-inside : goal.returns-then-inside
returns-then-inside c =
    let a = c.args in
    let q = c.requires in
    let s = a.t.now in
    nothing_hit _ _ (none_left s a.sample.now q.reading.good q.reading.widths _ q.reading.own _ q.reading.code _ c.in-Known.is _ q.reading.low a.spans.now q.rows_of.1 _ c.inside.ensures c.if-inside.true)

pub put_parts-requires : goal.put_parts-requires
put_parts-requires c =
    let a = c.args in
    let q = c.requires in
    let s = a.t.now in
    let w = a.sample.now in
    let e = parts-hit s w q.reading.good q.reading.widths _ q.reading.own _ q.reading.code _ c.in-Known.is _ q.reading.low a.spans.now q.rows_of.1 _ c.inside.ensures c.if-inside.false _ q.rows_of.0 a.origins.now q.rows_of.2 _ q.reading.bins in
    let few = few_hits s w q.reading.good q.reading.widths _ q.reading.own in
    record { value_bound = (known-low s w q.reading.good q.reading.widths _ q.reading.own _ q.reading.code _ c.in-Known.is _ q.reading.low, omega (arith, q.reading.bins, bins_low s w q.reading.good _ q.reading.own), rows_fit s w q.reading.good q.reading.widths _ q.reading.own _ q.rows_of.0); rows_in_bounds = omega (arith, ap length e, few, q.room) }

pub returns : goal.returns
returns c =
    let a = c.args in
    let q = c.requires in
    let s = a.t.now in
    let w = a.sample.now in
    let e = parts-hit s w q.reading.good q.reading.widths _ q.reading.own _ q.reading.code _ c.in-Known.is _ q.reading.low a.spans.now q.rows_of.1 _ c.inside.ensures c.if-inside.false _ q.rows_of.0 a.origins.now q.rows_of.2 _ q.reading.bins in
    let few = few_hits s w q.reading.good q.reading.widths _ q.reading.own in
    let k = c.put_parts.ensures in
    (k.0 ∙ ap length e, omega (arith, k.0, ap length e, few), k.1 ∙ ap (λ (x : List ℕ). put 1 x a.found.now) e)
