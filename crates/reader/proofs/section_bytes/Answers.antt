use native.Mathlib.Omega.{arith}
use Rattle.reader.proofs.Laws.{part-ordered, part-inside, part_past}
use Rattle.reader.proofs.section_bytes.Goals as goal

pub slice_bounds-result-count : goal.slice_bounds-result-count
slice_bounds-result-count c = part-ordered _ _ _ c.section_part-p.ensures

pub slice_bounds-result-start : goal.slice_bounds-result-start
slice_bounds-result-start c = part-ordered _ _ _ c.section_part-p.ensures

pub returns-then-p-table : goal.returns-then-p-table
returns-then-p-table c = part-inside _ _ _ c.section_part-p.ensures (omega arith)

pub returns-else-p-table : goal.returns-else-p-table
returns-else-p-table c = part_past _ _ _ c.section_part-p.ensures (omega arith)
