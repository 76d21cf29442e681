use native.Mathlib.Omega.{arith}
use Rattle.found.proofs.part.Goals as goal

pub returns : goal.returns
returns c =
    (rw (c.capped.ensures, c.place-d.ensures.0), omega (arith, c.requires.2.room))
