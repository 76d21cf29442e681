use mathlib.Core.Path.{◌≡◌, refl, sym, ap, ◌∙◌}
use mathlib.Core.List.{List, ◌∷◌}
use Prim.Native.Nat.{ℕ, ◌+◌}
use native.Mathlib.Omega.{arith}
use lib.ListN.{drop, get_or, length-set}
use Rattle.model.specs.Lists.{one_of, as_bit}
use Rattle.arrays.specs.Put.{put}
use Rattle.arrays.proofs.PutLaws.{put-cons, put-nil}
use Rattle.samples.specs.Listed.{hit_bits}
use Rattle.samples.proofs.SeekLaws.{bits-turn, bits-end, next-above}
use Rattle.samples.proofs.listed.report_listed.Goals as goal

pub loop-i-init : goal.loop-i-init
loop-i-init c = (omega arith, omega arith, refl, λ h x g. refl, refl)

pub seek-j-requires : goal.seek-j-requires
seek-j-requires c = c.loop-i.invariant.1

pub is_at-b-requires : goal.is_at-b-requires
is_at-b-requires c =
    let a = c.args in
    (c.seek-j.ensures.reached, c.requires.2)

pub offset_bounds-report-i : goal.offset_bounds-report-i
offset_bounds-report-i c = omega (arith, c.requires.0)

pub bounds-report-i : goal.bounds-report-i
bounds-report-i c = omega (arith, c.requires.0, c.loop-i.invariant.2)

pub loop-i-preserved : goal.loop-i-preserved
loop-i-preserved c =
    let a = c.args in
    let l = c.loop-i in
    let q = c.seek-j.ensures in
    let pre = c.requires in
    let k = get_or a.illegals.now l.i 0 in
    let hits = a.hits.now in
    let told : c.as_bit.result ≡ as_bit (one_of k hits) = c.as_bit.ensures ∙ ap as_bit (c.is_at-b.ensures ∙ q.same k (omega arith) ∙ l.invariant.3 (omega arith) k (omega arith)) in (
      omega arith,
      q.inside,
      simp length-set l.invariant.2,
      λ h x g. let up = next-above a.illegals.now l.i h pre.1 in q.same x (omega arith) ∙ l.invariant.3 (omega arith) x (omega arith),
      put-cons l.i c.as_bit.result (hit_bits (drop (l.i + 1) a.illegals.now) hits) l.report (omega (arith, pre.0, l.invariant.2))
          ∙ ap (λ (v : ℕ). put l.i (v ∷ hit_bits (drop (l.i + 1) a.illegals.now) hits) l.report) told
          ∙ ap (λ (z : List ℕ). put l.i z l.report) (sym (bits-turn a.illegals.now hits l.i (omega arith)))
          ∙ l.invariant.4,
    )

pub returns : goal.returns
returns c =
    let a = c.args in
    let l = c.loop-i in
    sym (ap (λ (z : List ℕ). put l.i z l.report) (bits-end a.illegals.now a.hits.now l.i (omega arith)) ∙ put-nil l.i l.report) ∙ l.invariant.4
