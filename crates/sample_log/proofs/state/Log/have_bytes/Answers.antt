use Rattle.sample_log.proofs.LeftLaws.{left_kept}
use Rattle.sample_log.proofs.state.Log.have_bytes.Goals as goal

pub returns-then-want-got-clause-bytes : goal.returns-then-want-got-clause-bytes
returns-then-want-got-clause-bytes g c =
    let log = c.args.self.now in
    let moved = c.to_front-have.ensures in
    let read = c.fill-got.ensures in
    left_kept _ _ c.args.bytes.now c.to_front-have.new.buf c.fill-got.new.buf log.from log.to c.to_front-have.result c.fill-got.result.count
    moved.result_value c.requires moved.buf_after read.front read.more read.bytes

pub returns-clause-bytes : goal.returns-clause-bytes
returns-clause-bytes g c =
    let log = c.args.self.now in
    let moved = c.to_front-have.ensures in
    let read = c.fill-got.ensures in
    left_kept _ _ c.args.bytes.now c.to_front-have.new.buf c.fill-got.new.buf log.from log.to c.to_front-have.result c.fill-got.result.count
    moved.result_value c.requires moved.buf_after read.front read.more read.bytes
