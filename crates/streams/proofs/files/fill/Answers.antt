use Rattle.std.proofs.Common.{rules}
use Rattle.streams.proofs.Filling.{front_kept, filled}
use Rattle.streams.proofs.files.fill.Goals as goal

pub loop-done-preserved : goal.loop-done-preserved
loop-done-preserved g c =
    let l = c.loop-done in
    let new = c.read_behind.new in
    let read = c.in-Ok.ensures in
    let have = c.args.have in (
      search rules,
      search rules,
      search rules,
      front_kept l.buf new.buf c.args.buf.now have l.done l.invariant.0 read.front l.invariant.3,
      filled _ _ _ l.buf new.buf have l.done c.in-Ok.n l.invariant.0 (search rules) read.front l.invariant.4 read.bytes.0,
    )

pub returns-in-Err-clause-front : goal.returns-in-Err-clause-front
returns-in-Err-clause-front g c =
    let l = c.loop-done in
    front_kept l.buf c.read_behind.new.buf c.args.buf.now c.args.have l.done l.invariant.0 c.read_behind.ensures.front l.invariant.3

pub returns-in-Ok-eq0-clause-front : goal.returns-in-Ok-eq0-clause-front
returns-in-Ok-eq0-clause-front g c =
    let l = c.loop-done in
    front_kept l.buf c.read_behind.new.buf c.args.buf.now c.args.have l.done l.invariant.0 c.read_behind.ensures.front l.invariant.3
