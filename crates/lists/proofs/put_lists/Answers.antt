use mathlib.Core.Path.{◌≡◌, sym, ap, ◌∙◌}
use Prim.Native.Nat.{ℕ, ◌+◌, ◌-◌, ◌*◌, ◌≤◌}
use native.Mathlib.Omega.{arith}
use borrow.Rule.Slice.PartMut.{put_mid, same_len_mid}
use lib.ListN.{length, take}
use Rattle.model.specs.Format.{table_of}
use Rattle.points.proofs.AllLaws.{few_here}
use Rattle.sampling.proofs.Joins.{labelled-points}
use Rattle.lists.specs.Lists.{places_at}
use Rattle.lists.proofs.Fronts.{back-front, back-rest, back-put}
use Rattle.lists.proofs.ListLaws.{sizes, illegal_kinds, illegal_count, lists_made}
use Rattle.lists.proofs.put_lists.Goals as goal

pub put_place_rows-requires : goal.put_place_rows-requires
put_place_rows-requires c =
    let a = c.args in
    let p = c.requires in
    let x = p.1 in
    let s = a.t.now in
    let t = table_of s in
    let k = sizes s p.0 a.kinds.now p.2 in
    record { t_value = (p.0, omega (arith, k.points, x.points, p.3), omega (arith, x.starts_sized)); kinded = (labelled-points t a.kinds.now p.2, x.starts) }

pub copy-requires : goal.copy-requires
copy-requires c =
    let a = c.args in
    let p = c.requires in
    let x = p.1 in
    let s = a.t.now in
    let k = sizes s p.0 a.kinds.now p.2 in
    (omega (arith, k.points, x.points, x.starts_sized), omega (arith, k.points, x.points, p.3))

pub put_illegal-c-requires : goal.put_illegal-c-requires
put_illegal-c-requires c =
    let a = c.args in
    let p = c.requires in
    let x = p.1 in
    let s = a.t.now in
    let t = table_of s in
    let k = sizes s p.0 a.kinds.now p.2 in
    let i = illegal_kinds t a.kinds.now p.2 a.x.counters x.counters in
    (omega (arith, k.room, x.counters), omega (arith, k.points, x.points, p.3, ap length i), omega (arith, k.counters, x.counters))

pub overflow_add-to-2 : goal.overflow_add-to-2
overflow_add-to-2 c =
    let a = c.args in
    let p = c.requires in
    let k = sizes a.t.now p.0 a.kinds.now p.2 in
    let bad = c.put_illegal-c in
    let x = p.1 in
    let many = illegal_count (table_of a.t.now) a.kinds.now p.2 a.x.counters x.counters bad.result bad.ensures.0 in
    omega (arith, k.points, k.illegals, x.points, p.3, many)

pub offset_bounds-lists-to : goal.offset_bounds-lists-to
offset_bounds-lists-to c =
    let a = c.args in
    let p = c.requires in
    let k = sizes a.t.now p.0 a.kinds.now p.2 in
    let bad = c.put_illegal-c in
    let x = p.1 in
    let many = illegal_count (table_of a.t.now) a.kinds.now p.2 a.x.counters x.counters bad.result bad.ensures.0 in
    omega (arith, k.points, k.illegals, x.points, p.3, many)

pub slice_bounds-copy-count-2 : goal.slice_bounds-copy-count-2
slice_bounds-copy-count-2 c =
    let a = c.args in
    let p = c.requires in
    let k = sizes a.t.now p.0 a.kinds.now p.2 in
    let bad = c.put_illegal-c in
    let x = p.1 in
    let many = illegal_count (table_of a.t.now) a.kinds.now p.2 a.x.counters x.counters bad.result bad.ensures.0 in
    omega (arith, k.points, k.illegals, x.points, p.3, many)

pub slice_bounds-copy-start-2 : goal.slice_bounds-copy-start-2
slice_bounds-copy-start-2 c =
    let a = c.args in
    let p = c.requires in
    let k = sizes a.t.now p.0 a.kinds.now p.2 in
    let bad = c.put_illegal-c in
    let x = p.1 in
    let many = illegal_count (table_of a.t.now) a.kinds.now p.2 a.x.counters x.counters bad.result bad.ensures.0 in
    omega (arith, k.points, k.illegals, x.points, p.3, many)

pub copy-requires-2 : goal.copy-requires-2
copy-requires-2 c =
    let a = c.args in
    let p = c.requires in
    let x = p.1 in
    let s = a.t.now in
    let t = table_of s in
    let k = sizes s p.0 a.kinds.now p.2 in
    let bad = c.put_illegal-c in
    let many = illegal_count t a.kinds.now p.2 a.x.counters x.counters bad.result bad.ensures.0 in
    (omega (arith, k.points, x.points, x.counts_sized), omega (arith, k.points, x.points, p.3, many))

pub returns : goal.returns
returns c =
    let a = c.args in
    let p = c.requires in
    let x = p.1 in
    let s = a.t.now in
    let t = table_of s in
    let k = sizes s p.0 a.kinds.now p.2 in
    let at = 64 + 256 * a.x.points in
    let rows = c.put_place_rows in
    let l₁ = put_mid at (length a.lists.now - at) a.lists.now rows.new.rows in
    let n₁ : length l₁ ≡ length a.lists.now = same_len_mid at (length a.lists.now - at) a.lists.now rows.new.rows rows.auto.rows in
    let from = at + 258 * a.x.points in
    let first = c.copy in
    let l₂ = put_mid from (length l₁ - from) l₁ first.new.out in
    let n₂ : length l₂ ≡ length l₁ = same_len_mid from (length l₁ - from) l₁ first.new.out first.auto.out in
    let bad = c.put_illegal-c in
    let l₃ = put_mid (from + 17) (length l₂ - (from + 17)) l₂ bad.new.out in
    let n₃ : length l₃ ≡ length l₂ = same_len_mid (from + 17) (length l₂ - (from + 17)) l₂ bad.new.out bad.auto.out in
    let many = illegal_count t a.kinds.now p.2 a.x.counters x.counters bad.result bad.ensures.0 in
    let to = from + 18 + bad.result in
    let last = c.copy-2 in
    let l₄ = put_mid to (length l₃ - to) l₃ last.new.out in
    let n₄ : length l₄ ≡ length l₃ = same_len_mid to (length l₃ - to) l₃ last.new.out last.auto.out in
    let e₂ = back-put from l₁ (omega (arith, k.points, k.illegals, x.points, p.3, n₁)) first.new.out _ first.ensures in
    let e₃ = back-put (from + 17) l₂ (omega (arith, k.points, k.illegals, x.points, p.3, n₁, n₂)) bad.new.out _ bad.ensures.1 in
    let e₄ = back-put to l₃ (omega (arith, k.points, k.illegals, x.points, p.3, n₁, n₂, n₃, many)) last.new.out _ last.ensures in
    let fit : at ≤ length a.lists.now = omega (arith, k.points, k.illegals, x.points, p.3) in
    let made = lists_made t (few_here s p.0) a.kinds.now p.2 k.points a.x x bad.result many l₁ l₂ l₃ l₄ (omega (arith, p.3, n₁)) e₂ e₃ e₄ (back-rest at a.lists.now fit rows.new.rows) rows.ensures.0 in
    (omega (arith, x.points, many), made.0, made.1 ∙ ap (λ (m : ℕ). take (places_at m) l₁) (sym x.points) ∙ back-front at a.lists.now fit rows.new.rows ∙ ap (λ (m : ℕ). take (places_at m) a.lists.now) x.points, n₄ ∙ n₃ ∙ n₂ ∙ n₁)
