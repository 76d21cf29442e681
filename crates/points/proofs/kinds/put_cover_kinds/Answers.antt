use Prim.Native.Nat.{◌+◌}
use mathlib.Core.Path.{sym, ap, ◌∙◌}
use Prim.Native.Nat.{ℕ}
use native.Mathlib.Omega.{arith}
use lib.ListN.{replicate}
use Rattle.arrays.specs.Put.{put}
use Rattle.values.proofs.CountLaws.{count_single}
use Rattle.points.proofs.kinds.put_cover_kinds.Goals as goal

pub put_one-requires : goal.put_one-requires
put_one-requires c =
    let a = c.args in
    let f = c.byte-form in
    omega (arith, count_single a.t.now a.a a.r a.low f.result f.ensures c.if-form-eq0.true, c.requires.3)

pub returns-then-form-eq0 : goal.returns-then-form-eq0
returns-then-form-eq0 c =
    let a = c.args in
    let f = c.byte-form in
    let q = c.put_one in
    let z = sym (count_single a.t.now a.a a.r a.low f.result f.ensures c.if-form-eq0.true) in
    (q.ensures.0 ∙ ap (a.cur +◌) z, q.ensures.1 ∙ ap (λ (n : ℕ). put a.cur (replicate n 0) a.kinds.now) z)

pub several_count-m-requires : goal.several_count-m-requires
several_count-m-requires c = (omega arith, omega arith, c.requires.2, λ e. c.if-form-eq0.false (c.byte-form.ensures ∙ e))

pub put_same-requires : goal.put_same-requires
put_same-requires c = omega (arith, c.several_count-m.ensures.0, c.requires.3)

pub returns : goal.returns
returns c =
    let a = c.args in
    let m = c.several_count-m.ensures.0 in
    let q = c.put_same in
    (q.ensures.0 ∙ ap (a.cur +◌) m, q.ensures.1 ∙ ap (λ (n : ℕ). put a.cur (replicate n 0) a.kinds.now) m)
