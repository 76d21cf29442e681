use native.Mathlib.Omega.{arith}
use Rattle.samples.proofs.SeekLaws.{told, none_left}
use Rattle.samples.proofs.listed.is_at.Goals as goal

pub returns-then-j-hits : goal.returns-then-j-hits
returns-then-j-hits c =
    let a = c.args in
    told a.hits.now a.k a.j (omega arith) c.requires.1 (c.requires.0 (omega arith))

pub returns : goal.returns
returns c =
    let a = c.args in
    none_left a.hits.now a.k a.j (omega arith)
