use native.Mathlib.Omega.{arith}
use Prim.Native.Nat.{◌^◌, ◌<◌}
use Rattle.points.proofs.ReadingLaws.{codes}
use Rattle.points.proofs.readings.read_one.Goals as goal

pub returns-then-not-guard_true : goal.returns-then-not-guard_true
returns-then-not-guard_true c = search codes

pub returns-then-u-ne0 : goal.returns-then-u-ne0
returns-then-u-ne0 c = search codes

pub key_of-requires : goal.key_of-requires
key_of-requires c =
    let p = c.requires in
    let x = c.word-x in
    let w = c.byte-width in
    let h : x.result < 2 ^ w.result = rw (x.ensures, w.ensures) p.3 in
    (omega (arith, w.ensures, p.2.low), omega (arith, w.ensures, p.2.high), h)

pub returns : goal.returns
returns c = search codes
