use mathlib.Core.Path.{refl}
use native.Mathlib.Omega.{arith}
use lib.ListN.{get_or}
use borrow.Author.Tests.{le-leb, lt-leb}
use Rattle.refusals.specs.Refusals.{at_most}
use Rattle.refusals.proofs.Loops.{words_done, words_stop, words_on}
use Rattle.refusals.proofs.counts_hold.Goals as goal

pub loop-i-init : goal.loop-i-init
loop-i-init c = (omega arith, omega arith, refl)

pub returns-then-samples-register : goal.returns-then-samples-register
returns-then-samples-register c =
    let l = c.loop-i in
    let a = c.args in
    let w = a.register.now in
    words_stop (at_most (get_or w 1 0)) w a.end l.i _ l.invariant.2 (omega arith) (omega arith) (lt-leb (get_or w l.i 0) (get_or w 1 0) c.if-samples-register.true)

pub loop-i-preserved : goal.loop-i-preserved
loop-i-preserved c =
    let l = c.loop-i in
    let a = c.args in
    let w = a.register.now in
    (omega arith, omega arith, words_on (at_most (get_or w 1 0)) w a.end l.i _ l.invariant.2 (omega arith) (omega arith) (le-leb (get_or w l.i 0) (get_or w 1 0) c.if-samples-register.false))

pub returns : goal.returns
returns c =
    let l = c.loop-i in
    let a = c.args in
    let w = a.register.now in
    words_done (at_most (get_or w 1 0)) w a.end l.i _ l.invariant.2 (omega arith)
