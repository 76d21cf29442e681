use Rattle.model.specs.Table.{Kind}
use Rattle.model.specs.Format.{kind_from}
use Rattle.model.specs.Ranges.{covers_of, transitions_of}
use mathlib.Core.Path.{refl, ap, ap₂, ◌∙◌}
use Prim.Native.Nat.{ℕ}
use native.Mathlib.Omega.{arith}
use Rattle.limits.specs.Bins.{more}
use Rattle.limits.proofs.EntryLaws.{entries-room}
use borrow.Author.Rules.{rules}
use Rattle.limits.proofs.transitions.add_transition.Goals as goal

pub add-requires : goal.add-requires
add-requires c =
    entries-room 100000 1 _ _ _ c.requires.entries.0 (omega (arith, c.from-p.ensures, c.byte.ensures)) (search rules) (omega arith)

pub add-requires-2 : goal.add-requires-2
add-requires-2 c =
    entries-room 100000 1 _ _ _ c.requires.entries.1 (omega (arith, c.from-p.ensures, c.byte.ensures)) (search rules) (omega arith)

pub returns : goal.returns
returns c =
    let p = c.from-p.ensures ∙ c.byte.ensures in
    let k = c.from-kind.ensures ∙ ap kind_from c.byte-2.ensures in record { covers = refl; singles_after = c.add.ensures ∙ ap₂ (λ (p x : ℕ). more p x c.args.counts.now.singles) p (c.transition_of.ensures.0 ∙ ap transitions_of k); bars_after = c.add-2.ensures ∙ ap₂ (λ (p x : ℕ). more p x c.args.counts.now.bars) p (c.cover_of.ensures.0 ∙ ap (λ (k : Kind). covers_of k 1) k) }
