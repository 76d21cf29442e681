use Rattle.std.proofs.Common.{ℕ, ◌+◌, ap, ◌∙◌}
use Rattle.model.specs.Ranges.{pattern_from}
use Rattle.ranges.proofs.next.next_in_pattern.Goals as goal

pub returns : goal.returns
returns c =
    let a = c.args in
    ap (λ (m : ℕ). 2147483648 + m) (c.next_pattern.ensures.0 ∙ ap (pattern_from 32 a.bits a.mask) c.saturating_sub-number.ensures)
