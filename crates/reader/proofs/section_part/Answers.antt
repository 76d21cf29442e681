use native.Mathlib.Omega.{arith}
use Prim.Native.Nat.{◌+◌, ◌-◌}
use mathlib.Core.Path.{◌≡◌}
use Rattle.reader.proofs.Laws.{places_small, no_section}
use Rattle.reader.proofs.section_part.Goals as goal

pub records_of-requires : goal.records_of-requires
records_of-requires c =
    (omega arith, omega (arith, places_small c.args.table.now (λ i. omega (arith, c.type_inv.table i)) 10))

pub returns-in-1-to-10 : goal.returns-in-1-to-10
returns-in-1-to-10 c =
    let d : c.args.number - 1 + 1 ≡ c.args.number = omega arith in
    rw d at c.records_of.ensures

pub returns-in_default : goal.returns-in_default
returns-in_default c = no_section c.args.table.now c.args.number (λ h. omega arith)

pub returns-in_default-2 : goal.returns-in_default-2
returns-in_default-2 c = no_section c.args.table.now c.args.number (λ h. omega arith)
