use mathlib.Core.Path.{ap, ◌∙◌}
use mathlib.Core.List.{List}
use Prim.Native.Nat.{ℕ}
use Rattle.limits.specs.Bins.{autos_at}
use Rattle.limits.proofs.EntryLaws.{entries-more, entries_up, entries-room, rows_start, rows_on, rows_done}
use borrow.Author.Rules.{rules}
use Rattle.limits.proofs.points.add_autos.Goals as goal

pub loop-i-init : goal.loop-i-init
loop-i-init c = (
  search rules,
  entries_up 40000000 _ _ c.requires.3 (search rules),
  rows_start _ _ 1 0 c.args.l.point_count _,
  search rules,
  search rules,
)

pub autos_at-found-requires : goal.autos_at-found-requires
autos_at-found-requires c = (search rules, search rules, c.requires.2 c.loop-i.i (search rules))

pub add-requires : goal.add-requires
add-requires c = entries-room _ 65535 _ _ _ c.loop-i.invariant.1 (search rules) c.autos_at-found.ensures.1 (search rules)

pub loop-i-preserved : goal.loop-i-preserved
loop-i-preserved c =
    let l = c.loop-i in
    let a = c.args in
    let found = c.autos_at-found.ensures in
    let e = c.add.ensures in
    let is = found.0 ∙ ap (λ (bars : List ℕ). autos_at a.t.now a.l.points bars l.i) l.invariant.4 in (
      search rules,
      entries-more _ 65535 _ _ _ _ _ l.invariant.1 found.1 (search rules) e,
      rows_on _ _ 1 l.i c.args.l.point_count l.i _ _ l.invariant.2 (search rules) _ (e ∙ rw is),
      l.invariant.3,
      l.invariant.4,
    )

pub returns : goal.returns
returns c =
    let l = c.loop-i in record { covers_after = rows_done _ _ 1 l.i c.args.l.point_count l.i _ _ l.invariant.2 (search rules); singles = l.invariant.3; entries = entries_up _ _ _ l.invariant.1 (search rules) }
