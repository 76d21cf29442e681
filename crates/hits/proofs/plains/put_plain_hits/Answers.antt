use mathlib.Core.Path.{◌≡◌, sym, subst}
use mathlib.Core.Bool.{Bool}
use Prim.Native.Nat.{◌≤◌}
use lib.ListN.{length}
use Rattle.model.specs.Raw.{bins_at}
use Rattle.arrays.specs.Put.{put}
use Rattle.hits.specs.Plains.{plain_hits}
use Rattle.hits.proofs.plains.put_plain_hits.Goals as goal

pub put_plains-requires : goal.put_plains-requires
put_plains-requires c =
    let a = c.args in
    let p = c.requires in
    (p.0, p.1, p.2, subst (λ (b : Bool). length (plain_hits a.sample.now a.point a.value b a.plains.now 0 (bins_at a.t.now a.l.bins a.l.ranges a.l.bin_count)) ≤ length a.hits.now) (sym c.listed-y.ensures) p.3)

pub returns : goal.returns
returns c =
    let a = c.args in
    let q = c.put_plains in
    subst (λ (b : Bool). (q.result ≡ length (plain_hits a.sample.now a.point a.value b a.plains.now 0 (bins_at a.t.now a.l.bins a.l.ranges a.l.bin_count))) × (q.new.hits ≡ put 0 (plain_hits a.sample.now a.point a.value b a.plains.now 0 (bins_at a.t.now a.l.bins a.l.ranges a.l.bin_count)) a.hits.now)) c.listed-y.ensures (q.ensures.0, q.ensures.1)
