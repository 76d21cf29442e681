use mathlib.Core.Path.{◌≡◌, refl, sym, ap, ◌∙◌}
use mathlib.Core.List.{List}
use Prim.Native.Nat.{ℕ, ◌+◌}
use native.Mathlib.Omega.{arith}
use lib.ListN.{take}
use Rattle.arrays.specs.Put.{put}
use Rattle.arrays.proofs.PutLaws.{put-nil}
use Rattle.arrays.proofs.Written.{put-turn}
use Rattle.crosses.specs.Flags.{product_flags}
use Rattle.crosses.proofs.Laws.{products-turn, products-end, length-products}
use Rattle.crosses.proofs.bins.put_products.Goals as goal

pub loop-i-init : goal.loop-i-init
loop-i-init c =
    let a = c.args in
    let p = c.requires in
    let z : a.cur + 0 ≡ a.cur = omega arith in
    (omega arith, refl, omega (arith, length-products a.live a.n a.hits.now a.marks.now p.0 p.1), ap (λ (m : ℕ). put m (product_flags a.live (take a.n a.hits.now) (take a.n a.marks.now)) a.flags.now) z)

pub bounds-hits-i : goal.bounds-hits-i
bounds-hits-i c = omega (arith, c.requires.0)

pub bounds-marks-i : goal.bounds-marks-i
bounds-marks-i c = omega (arith, c.requires.1)

pub loop-i-preserved : goal.loop-i-preserved
loop-i-preserved c =
    let a = c.args in
    let p = c.requires in
    let l = c.loop-i in
    let q = c.put_one in
    let z = products-turn a.live a.n l.i a.hits.now a.marks.now (omega arith) p.0 p.1 in
    let e : a.cur + (l.i + 1) ≡ a.cur + l.i + 1 = omega arith in
    let u = put-turn (a.cur + l.i) (a.cur + (l.i + 1)) _ _ _ l.flags q.new.flags z (omega (arith, l.invariant.1, l.invariant.2, p.2)) e q.ensures.1 in
    (omega arith, q.auto.flags ∙ l.invariant.1, u.0 ∙ l.invariant.2, u.1 ∙ l.invariant.3)

pub returns : goal.returns
returns c =
    let a = c.args in
    let l = c.loop-i in
    let z = products-end a.live a.n l.i a.hits.now a.marks.now (omega arith) in
    (refl, sym (ap (λ (ys : List ℕ). put (a.cur + l.i) ys l.flags) z ∙ put-nil (a.cur + l.i) l.flags) ∙ l.invariant.3)
