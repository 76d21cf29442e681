use native.Mathlib.Omega.{arith}
use mathlib.Core.Path.{◌∙◌}
use Rattle.fluviquen.proofs.fluviquen_section.Goals as goal

pub overflow_sub-len : goal.overflow_sub-len
overflow_sub-len c = let p = c.in-Ok.ensures in omega (arith, p.ordered)

pub returns-in-Ok : goal.returns-in-Ok
returns-in-Ok c =
    let p = c.in-Ok.ensures in
    record { value = p.accepted; start_after = p.start; table_after = p.bytes; len_in_bounds = omega (arith, p.ordered, p.within) }

pub returns-in-Err : goal.returns-in-Err
returns-in-Err c =
    let p = c.in-Err.ensures in
    record { value = c.from.ensures ∙ p.refused; start_after = p.start; table_after = p.bytes; len_in_bounds = omega arith }
