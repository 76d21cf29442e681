use Prim.Native.Nat.{ℕ, ◌+◌, ◌*◌}
use mathlib.Core.Path.{sym, ap, ap₂, ◌∙◌, subst}
use native.Mathlib.Omega.{arith}
use Rattle.model.specs.Table.{Kind}
use Rattle.model.specs.Format.{kind_from, point_record}
use Rattle.model.specs.Ranges.{range_count, covers_of, counters_of}
use Rattle.ranges.specs.Types.{Wide}
use Rattle.limits.specs.Bins.{more, form_at, own_ranges, bars_of}
use Rattle.limits.proofs.EntryLaws.{entries-room}
use borrow.Author.Rules.{rules}
use Rattle.limits.proofs.bins.add_bin.Goals as goal

pub overflow_mul-p : goal.overflow_mul-p
overflow_mul-p c = omega (arith, c.from-p.ensures, c.inside.ensures)

pub overflow_add-points : goal.overflow_add-points
overflow_add-points c = omega (arith, c.from-p.ensures, c.inside.ensures)

pub covers_of-n-requires : goal.covers_of-n-requires
covers_of-n-requires c =
    let a = c.args in (
      omega (arith, c.from-p.ensures, c.inside.ensures),
      search rules,
      search rules,
      subst (λ (p : ℕ). Wide a.t.now (a.points + 11 * p)) (sym (c.from-p.ensures ∙ c.inside.ensures)) c.requires.points_bound.4,
      search rules,
    )

pub add-requires : goal.add-requires
add-requires c =
    entries-room 50000000 65535 _ _ _ c.requires.entries.0 (omega (arith, c.from-p.ensures, c.inside.ensures)) c.covers_of-n.ensures.1 (omega arith)

pub add-requires-2 : goal.add-requires-2
add-requires-2 c =
    entries-room 1000 1 _ _ _ c.requires.entries.1 (omega (arith, c.from-p.ensures, c.inside.ensures)) c.single_of.ensures.1 (omega arith)

pub add-requires-3 : goal.add-requires-3
add-requires-3 c =
    entries-room 1000 1 _ _ _ c.requires.entries.2 (omega (arith, c.from-p.ensures, c.inside.ensures)) c.bar_of.ensures.1 (omega arith)

pub returns : goal.returns
returns c =
    let a = c.args in
    let p = c.from-p.ensures ∙ c.inside.ensures in
    let k = c.from-kind.ensures ∙ ap kind_from c.inside-2.ensures in
    let n = c.covers_of-n.ensures.0 ∙ ap₂ (λ (p : ℕ) (k : Kind). covers_of k (range_count (point_record a.t.now (a.points + 11 * p)) (form_at a.t.now a.b) (own_ranges a.t.now a.b a.r))) p k in record { covers_after = c.add.ensures ∙ ap₂ (λ (p x : ℕ). more p x a.counts.now.covers) p n; singles_after = c.add-2.ensures ∙ ap₂ (λ (p x : ℕ). more p x a.counts.now.singles) p (c.single_of.ensures.0 ∙ ap (λ (k : Kind). counters_of k 0) k); bars_after = c.add-3.ensures ∙ ap₂ (λ (p x : ℕ). more p x a.counts.now.bars) p (c.bar_of.ensures.0 ∙ ap bars_of k); r_bound = omega (arith, n, c.covers_of-n.ensures.1) }
