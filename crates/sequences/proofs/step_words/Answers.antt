use mathlib.Core.Path.{◌≡◌, refl, sym, ◌∙◌}
use Prim.Native.Nat.{◌+◌, ◌-◌}
use native.Mathlib.Omega.{arith}
use lib.ListN.{length-set}
use Rattle.sequences.proofs.Turns.{words_turn, words_end}
use Rattle.sequences.proofs.step_words.Goals as goal

pub loop-j-init : goal.loop-j-init
loop-j-init c =
    let a = c.args in
    let e : a.at + 0 ≡ a.at = omega arith in
    let z : a.most - 0 ≡ a.most = omega arith in
    (refl, rw (e, z))

pub loop-j-preserved : goal.loop-j-preserved
loop-j-preserved c =
    let l = c.loop-j in
    let a = c.args in
    let g = c.pick in (
      simp length-set l.invariant.0,
      words_turn a.old.now l.words a.at a.most l.j l.next g.result a.inside (omega arith) (omega arith) (omega arith) g.ensures ∙ l.invariant.1,
    )

pub returns : goal.returns
returns c =
    let l = c.loop-j in
    let a = c.args in
    sym (words_end a.old.now l.words a.at a.most l.j l.next a.inside (omega arith)) ∙ l.invariant.1
