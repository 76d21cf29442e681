-- `lists::put_planned` meets its contract. Assumes nothing.
use native.Mathlib.Omega.{arith}
use Rattle.model.proofs.RawExact.{few_points}
use Rattle.lists.proofs.put_planned.Goals as goal

pub put_in-requires-2 : goal.put_in-requires-2
put_in-requires-2 c =
    let p = c.requires in
    (p.0, p.1, p.2, p.3, p.4, omega (arith, few_points c.args.t.now p.0), omega arith)
