use mathlib.Core.Path.{refl, sym, ap, ◌∙◌}
use mathlib.Core.List.{List}
use Prim.Native.Nat.{ℕ, ◌+◌}
use native.Mathlib.Omega.{arith}
use lib.ListN.{length, length-append}
use Rattle.arrays.specs.Put.{put}
use Rattle.arrays.proofs.PutLaws.{put-nil}
use Rattle.arrays.proofs.Written.{put-turn}
use Rattle.model.specs.Format.{kind_from}
use Rattle.crosses.specs.Flags.{label_of}
use Rattle.crosses.proofs.Laws.{labels_start, labels_turn, labels_end}
use Rattle.crosses.proofs.labels.put_labels.Goals as goal

pub loop-i-init : goal.loop-i-init
loop-i-init c =
    let a = c.args in
    let z = labels_start a.e.cover a.e.illegal a.t.now a.b a.n in
    (omega arith, refl, ap (λ (ys : List ℕ). a.cur + length ys) z, ap (λ (ys : List ℕ). put a.cur ys a.out.now) z)

pub put_label-at-requires : goal.put_label-at-requires
put_label-at-requires c =
    let a = c.args in
    let l = c.loop-i in
    let k = c.byte-kind in
    let z = labels_turn a.e.cover a.e.illegal a.t.now a.b a.n l.i k.result (omega arith) k.ensures in
    let long = ap length z ∙ length-append (label_of a.e.cover a.e.illegal (kind_from k.result)) _ in
    omega (arith, long, l.invariant.1, l.invariant.2, c.requires.2)

pub loop-i-preserved : goal.loop-i-preserved
loop-i-preserved c =
    let a = c.args in
    let l = c.loop-i in
    let k = c.byte-kind in
    let q = c.put_label-at in
    let z = labels_turn a.e.cover a.e.illegal a.t.now a.b a.n l.i k.result (omega arith) k.ensures in
    let u = put-turn l.at q.result _ _ _ l.out q.new.out z (omega (arith, l.invariant.1, l.invariant.2, c.requires.2)) q.ensures.0 q.ensures.1 in
    (omega arith, q.auto.out ∙ l.invariant.1, u.0 ∙ l.invariant.2, u.1 ∙ l.invariant.3)

pub returns : goal.returns
returns c =
    let a = c.args in
    let l = c.loop-i in
    let z = labels_end a.e.cover a.e.illegal a.t.now a.b a.n l.i (omega arith) in
    (omega (arith, ap length z, l.invariant.2), sym (ap (λ (ys : List ℕ). put l.at ys l.out) z ∙ put-nil l.at l.out) ∙ l.invariant.3)
