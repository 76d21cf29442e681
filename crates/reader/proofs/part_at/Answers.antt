use native.Mathlib.Omega.{arith}
use Rattle.reader.specs.Parts.{part_at}
use Rattle.reader.proofs.Laws.{records-small}
use Rattle.reader.proofs.part_at.Goals as goal

pub overflow_mul-to : goal.overflow_mul-to
overflow_mul-to c = omega (arith, records-small c.from-count.result c.args.size (omega arith) (omega arith))

pub overflow_add-to : goal.overflow_add-to
overflow_add-to c = omega (arith, records-small c.from-count.result c.args.size (omega arith) (omega arith))

pub returns : goal.returns
unfolding part_at
returns c = rw (← c.read2.ensures, ← c.from-count.ensures)
