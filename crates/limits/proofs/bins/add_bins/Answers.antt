use Prim.Native.Nat.{ℕ, ◌+◌, ◌*◌}
use mathlib.Core.Path.{◌≡◌, ap, ◌∙◌}
use mathlib.Core.Bool.{cond}
use lib.Dec.{eqb}
use native.Mathlib.Nat.{sub-zero}
use native.Mathlib.Omega.{arith}
use Rattle.model.specs.Lists.{all}
use Rattle.model.specs.Format.{byte, kind_from}
use Rattle.model.specs.Raw.{bins_at}
use Rattle.limits.specs.Walks.{after, is_byte}
use Rattle.limits.specs.Bins.{bin_below}
use Rattle.limits.proofs.KindLaws.{single-few, bar-few}
use Rattle.limits.proofs.WalkLaws.{walk_start, walk-on, walk-done}
use Rattle.limits.proofs.EntryLaws.{entries-more, entries_up, bins_start, bins_on, bins_done, bins_first, bins_others}
use borrow.Author.Rules.{rules}
use Rattle.limits.proofs.bins.add_bins.Goals as goal

pub loop-i-init : goal.loop-i-init
loop-i-init c =
    let a = c.args in
    let pre = c.requires in (
      search rules,
      search rules,
      search rules,
      entries_up 0 _ _ pre.entries.0 (search rules),
      entries_up 0 _ _ pre.entries.1 (search rules),
      entries_up 0 _ _ pre.entries.2 (search rules),
      ap (λ (m : ℕ). all (bin_below a.l.point_count) (bins_at a.t.now a.l.bins a.l.ranges m)) (sub-zero a.l.bin_count) ∙ pre.bin_count_value,
      bins_start _ a.t.now a.l.bins a.l.ranges a.l.bin_count _,
      bins_start _ a.t.now a.l.bins a.l.ranges a.l.bin_count _,
      bins_start _ a.t.now a.l.bins a.l.ranges a.l.bin_count _,
      search rules,
      walk_start (is_byte a.t.now 2) (after 8) a.l.bin_count (a.l.bins + 1),
    )

pub add_bin-requires : goal.add_bin-requires
add_bin-requires c =
    let a = c.args in
    let l = c.loop-i in
    let f = bins_first a.t.now a.l.point_count l.b l.r a.l.bin_count l.i l.invariant.6 (search rules) in record { points_bound = (search rules, search rules, search rules, omega (arith, f), c.requires.points_bound.5 _ f, search rules); entries = (entries_up _ 50000000 _ l.invariant.3 (search rules), entries_up _ 1000 _ l.invariant.4 (search rules), entries_up _ 1000 _ l.invariant.5 (search rules)) }

pub loop-i-preserved : goal.loop-i-preserved
loop-i-preserved c =
    let a = c.args in
    let l = c.loop-i in
    let e = c.add_bin.ensures in
    let r = ap (λ (k : ℕ). l.r + 17 * k) (c.from-owned.ensures ∙ c.whole2.ensures) in
    let one : c.from-illegals.result ≡ cond (eqb c.inside-kind.result 2) 1 0 = search rules in
    let kind = kind_from (byte a.t.now (l.b + 1)) in (
      search rules,
      search rules,
      search rules,
      entries-more _ 65535 _ _ _ _ _ l.invariant.3 e.r_bound (search rules) e.covers_after,
      entries-more _ 1 _ _ _ _ _ l.invariant.4 (single-few kind) (search rules) e.singles_after,
      entries-more _ 1 _ _ _ _ _ l.invariant.5 (bar-few kind) (search rules) e.bars_after,
      bins_others a.t.now a.l.point_count l.b l.r a.l.bin_count l.i l.invariant.6 (search rules) _ r,
      bins_on _ a.t.now l.b l.r a.l.bin_count l.i _ _ l.invariant.7 (search rules) _ _ r e.covers_after,
      bins_on _ a.t.now l.b l.r a.l.bin_count l.i _ _ l.invariant.8 (search rules) _ _ r e.singles_after,
      bins_on _ a.t.now l.b l.r a.l.bin_count l.i _ _ l.invariant.9 (search rules) _ _ r e.bars_after,
      search rules,
      walk-on (is_byte a.t.now 2) (after 8) a.l.bin_count l.i _ _ (l.b + 1) l.invariant.11 _ _ (search rules) (one ∙ ap (λ (k : ℕ). cond (eqb k 2) 1 0) c.inside-kind.ensures) (let z : l.b + 8 + 1 ≡ l.b + 1 + 8 = omega arith in z),
    )

pub returns : goal.returns
returns c =
    let a = c.args in
    let l = c.loop-i in record { covers_after = bins_done _ a.t.now l.b l.r a.l.bin_count l.i _ _ l.invariant.7 (search rules); singles_after = bins_done _ a.t.now l.b l.r a.l.bin_count l.i _ _ l.invariant.8 (search rules); bars_after = bins_done _ a.t.now l.b l.r a.l.bin_count l.i _ _ l.invariant.9 (search rules); entries_2 = (entries_up _ _ _ l.invariant.3 (search rules), entries_up _ _ _ l.invariant.4 (search rules), entries_up _ _ _ l.invariant.5 (search rules)); value = (walk-done (is_byte a.t.now 2) (after 8) a.l.bin_count l.i _ _ (l.b + 1) l.invariant.11 (search rules), search rules) }
