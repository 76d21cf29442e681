use mathlib.Core.Path.{ap}
use native.Mathlib.Omega.{arith}
use Rattle.layout.specs.declared.Layout.{Layout}
use Rattle.sampling.proofs.Joins.{index-small}
use Rattle.batch.proofs.classes.room_for.Goals as goal

pub plan_words-requires : goal.plan_words-requires
plan_words-requires c =
    let p = c.requires in
    let few = index-small _ p.0 _ p.1 in
    (c.layout_of-l.ensures.small.range_count, few.0, few.1)

pub overflow_add-result : goal.overflow_add-result
overflow_add-result c =
    let p = c.requires in
    let few = index-small _ p.0 _ p.1 in
    let l = c.layout_of-l in
    omega (arith, c.plan_words.ensures, few.0, few.1, l.ensures.small.range_count)

pub returns : goal.returns
returns c =
    let e = c.layout_of-l.ensures.value in
    omega (
      arith,
      c.plan_words.ensures,
      ap (λ (l : Layout). l.transition_count) e,
      ap (λ (l : Layout). l.sequence_count) e,
      ap (λ (l : Layout). l.step_count) e,
      ap (λ (l : Layout). l.step_range_count) e,
      ap (λ (l : Layout). l.range_count) e,
    )
