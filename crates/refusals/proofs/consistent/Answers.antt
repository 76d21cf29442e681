use mathlib.Core.Path.{◌≡◌, ap, ◌∙◌}
use mathlib.Core.Bool.{◌&&◌}
use Prim.Native.Nat.{ℕ, ◌+◌, ◌-◌}
use native.Mathlib.Omega.{arith}
use lib.Dec.{leb}
use lib.ListN.{take, drop}
use Rattle.model.specs.Lists.{all}
use Rattle.model.specs.Register.{flag_of, samples_of}
use Rattle.refusals.specs.Refusals.{at_most, consistent_at}
use Rattle.refusals.proofs.consistent.Goals as goal

pub returns : goal.returns
unfolding consistent_at
returns c =
    let a = c.args in
    let w = a.register.now in
    let e : 2 + a.n - 2 ≡ a.n = omega arith in
    ap (leb (flag_of w) 1 &&◌) (c.counts_hold-hold.ensures ∙ ap (λ (k : ℕ). all (at_most (samples_of w)) (take k (drop 2 w))) e)
