use mathlib.Core.Path.{refl, sym, ap, ◌∙◌}
use mathlib.Core.List.{List}
use Prim.Native.Nat.{ℕ, ◌+◌}
use native.Mathlib.Omega.{arith}
use lib.ListN.{length, length-append}
use Rattle.arrays.specs.Put.{put}
use Rattle.arrays.proofs.PutLaws.{put-nil}
use Rattle.arrays.proofs.Written.{put-turn}
use Rattle.model.specs.Format.{kind_from}
use Rattle.crosses.specs.Flags.{label_of}
use Rattle.crosses.proofs.Laws.{flags_start, flags_turn, flags_end}
use Rattle.crosses.proofs.bins.put_bins.Goals as goal

pub loop-i-init : goal.loop-i-init
loop-i-init c =
    let a = c.args in
    let z = flags_start a.sample.now a.ask.total a.r.live a.t.now a.b a.n a.r.own a.r.every in
    (omega arith, refl, ap (λ (ys : List ℕ). a.ask.at + length ys) z, ap (λ (ys : List ℕ). put a.ask.at ys a.flags.now) z)

pub byte-requires-in-loop-i : goal.byte-requires-in-loop-i
byte-requires-in-loop-i c = tt

pub flag_of-requires-in-loop-i : goal.flag_of-requires-in-loop-i
flag_of-requires-in-loop-i c = tt

pub put_label-at-requires : goal.put_label-at-requires
put_label-at-requires c =
    let a = c.args in
    let l = c.loop-i in
    let k = c.byte-in-loop-i in
    let g = c.byte in
    let p = c.passing in
    let f = c.flag_of in
    let h = c.flag_of-in-loop-i in
    let z = flags_turn a.sample.now a.ask.total a.r.live a.t.now a.b a.n l.x l.y l.i k.result g.result f.result h.result p.result (omega arith) k.ensures g.ensures p.ensures f.ensures h.ensures in
    let long = ap length z ∙ length-append (label_of f.result h.result (kind_from k.result)) _ in
    omega (arith, long, l.invariant.1, l.invariant.2, c.requires.2)

pub loop-i-preserved : goal.loop-i-preserved
loop-i-preserved c =
    let a = c.args in
    let l = c.loop-i in
    let k = c.byte-in-loop-i in
    let g = c.byte in
    let p = c.passing in
    let f = c.flag_of in
    let h = c.flag_of-in-loop-i in
    let q = c.put_label-at in
    let z = flags_turn a.sample.now a.ask.total a.r.live a.t.now a.b a.n l.x l.y l.i k.result g.result f.result h.result p.result (omega arith) k.ensures g.ensures p.ensures f.ensures h.ensures in
    let u = put-turn l.at q.result _ _ _ l.flags q.new.out z (omega (arith, l.invariant.1, l.invariant.2, c.requires.2)) q.ensures.0 q.ensures.1 in
    (omega arith, q.auto.out ∙ l.invariant.1, u.0 ∙ l.invariant.2, u.1 ∙ l.invariant.3)

pub returns : goal.returns
returns c =
    let a = c.args in
    let l = c.loop-i in
    let z = flags_end a.sample.now a.ask.total a.r.live a.t.now a.b a.n l.x l.y l.i (omega arith) in
    (omega (arith, ap length z, l.invariant.2), sym (ap (λ (ys : List ℕ). put l.at ys l.flags) z ∙ put-nil l.at l.flags) ∙ l.invariant.3)
