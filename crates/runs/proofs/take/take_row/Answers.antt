-- `take::take_row` meets its contract. Assumes nothing.
use Rattle.arrays.specs.Flat.{reading_from}
use Rattle.runs.proofs.Standing.{row_asked, row-past, shape-part, ranges-part, row-taken}
use Rattle.runs.proofs.take.take_row.Goals as goal

pub take_sequence-lengths-requires : goal.take_sequence-lengths-requires
take_sequence-lengths-requires c =
    let a = c.args in
    row_asked a.plan.now a.place.row a.register.now a.place.words c.requires.0 c.requires.1

pub returns : goal.returns
returns c =
    let a = c.args in
    let w = a.plan.now in
    let at = a.place.row in
    let l = a.register.now in
    let from = a.place.words in
    let e = c.take_sequence-lengths in record { row_value = λ ss h. row-past w at l from ss h; register_after = λ ss h. row-taken w at l from ss h (reading_from a.reading) e.result e.new.words c.requires.1 (e.ensures ss (shape-part w at l from ss h) (ranges-part w at l from ss h)) }
