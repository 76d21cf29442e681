use mathlib.Core.Path.{◌≡◌, ap, ◌∙◌}
use lib.IntN.{ℤ}
use mir.Syntax.{w64}
use mir.Val.{to_z, of_z}
use mir.Facts.{to_z-of_z}
use Rattle.values.specs.Value.{value_of, key, InKey}
use Rattle.values.proofs.ValueLaws.{value_in, in-fits, key-read}
use Rattle.values.proofs.value.key_of.Goals as goal
use Rattle.values.proofs.value.key_of.Goals.{After-value, Start}

within : (c : Start) → InKey (value_of c.args.signed c.args.width c.args.bits)
within c = value_in c.args.signed c.args.width c.args.bits c.requires.0 c.requires.1 c.requires.2

same : (c : After-value) → let a = c.args in to_z w64 (of_z w64 c.value.result) ≡ value_of a.signed a.width a.bits
same c = ap (λ (z : ℤ). to_z w64 (of_z w64 z)) c.value.ensures ∙ to_z-of_z {w = w64} (in-fits _ (within c.before))

pub offset-requires : goal.offset-requires
offset-requires c = rw (same c) (within (goal.at.offset-requires c).Start)

pub returns : goal.returns
returns c =
    let a = c.args in
    let p = c.requires in
    c.offset.ensures ∙ ap key (same (goal.at.returns c).After-value) ∙ key-read a.signed a.width a.bits p.0 p.1 p.2
