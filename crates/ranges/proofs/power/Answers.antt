use Rattle.std.proofs.Common.{◌^◌, ◌≤◌, mod-eq_of_lt, one-mul, arith, pow_mono, rules}
use Rattle.ranges.specs.Types.{power_of}
use Rattle.ranges.proofs.power.Goals as goal

pub returns : goal.returns
unfolding power_of
returns c =
    let h : 2 ^ c.args.width ≤ 2 ^ 32 = pow_mono {j = 32} (search rules) in
    let g : 2 ^ 0 ≤ 2 ^ c.args.width = pow_mono {i = 0} (omega arith) in
    (simp (one-mul, mod-eq_of_lt) (search rules), omega arith, omega arith)
