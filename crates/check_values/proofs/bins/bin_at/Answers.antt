use Rattle.check_values.proofs.bins.bin_at.Goals as goal

pub returns : goal.returns
returns c = rw (c.whole2-2.ensures, c.inside-4.ensures, c.whole2.ensures, c.inside-3.ensures, c.inside-2.ensures, c.inside.ensures)
