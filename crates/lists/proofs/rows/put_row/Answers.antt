use mathlib.Core.Path.{◌≡◌}
use Prim.Native.Nat.{◌+◌, ◌-◌}
use native.Mathlib.Omega.{arith}
use borrow.Rule.Slice.PartMut.{put_mid, same_len_mid}
use lib.ListN.{length, length-set}
use Rattle.lists.proofs.Fronts.{lent_length, back-put}
use Rattle.lists.proofs.RowLaws.{row_places, row_filled}
use Rattle.lists.proofs.rows.put_row.Goals as goal

pub put_covers-c-requires-clause-room : goal.put_covers-c-requires-clause-room
put_covers-c-requires-clause-room c =
    let a = c.args in
    let p = c.requires in
    let few = row_places a.base a.n a.kinds.now p.0 p.2 in
    omega (arith, few, lent_length 2 a.row.now (omega (arith, p.1)), p.1)

pub overflow_add-c : goal.overflow_add-c
overflow_add-c c =
    let a = c.args in
    let p = c.requires in
    let one = c.put_covers-c in
    omega (arith, row_places a.base a.n a.kinds.now p.0 p.2, one.ensures.count)

pub offset_bounds-row-c : goal.offset_bounds-row-c
offset_bounds-row-c c =
    let a = c.args in
    let p = c.requires in
    let one = c.put_covers-c in
    omega (arith, row_places a.base a.n a.kinds.now p.0 p.2, one.ensures.count)

pub slice_bounds-put_plains-count : goal.slice_bounds-put_plains-count
slice_bounds-put_plains-count c =
    let a = c.args in
    let p = c.requires in
    let one = c.put_covers-c in
    omega (arith, row_places a.base a.n a.kinds.now p.0 p.2, one.ensures.count, same_len_mid 2 (length a.row.now - 2) a.row.now one.new.out one.auto.out, p.1)

pub slice_bounds-put_plains-start : goal.slice_bounds-put_plains-start
slice_bounds-put_plains-start c =
    let a = c.args in
    let p = c.requires in
    let one = c.put_covers-c in
    omega (arith, row_places a.base a.n a.kinds.now p.0 p.2, one.ensures.count, same_len_mid 2 (length a.row.now - 2) a.row.now one.new.out one.auto.out, p.1)

pub put_plains-q-requires-clause-room : goal.put_plains-q-requires-clause-room
put_plains-q-requires-clause-room c =
    let a = c.args in
    let p = c.requires in
    let one = c.put_covers-c in
    let l = put_mid 2 (length a.row.now - 2) a.row.now one.new.out in
    let k : length l ≡ length a.row.now = same_len_mid 2 (length a.row.now - 2) a.row.now one.new.out one.auto.out in
    let few = row_places a.base a.n a.kinds.now p.0 p.2 in
    omega (arith, few, one.ensures.count, k, p.1, lent_length (2 + one.result) l (omega (arith, few, one.ensures.count, k, p.1)))

pub overflow_cast-row : goal.overflow_cast-row
overflow_cast-row c =
    let a = c.args in
    let p = c.requires in
    let one = c.put_covers-c in
    omega (arith, row_places a.base a.n a.kinds.now p.0 p.2, one.ensures.count)

pub overflow_cast-row-2 : goal.overflow_cast-row-2
overflow_cast-row-2 c =
    let a = c.args in
    let p = c.requires in
    let two = c.put_plains-q in
    omega (arith, row_places a.base a.n a.kinds.now p.0 p.2, two.ensures.count)

pub bounds-row-0 : goal.bounds-row-0
bounds-row-0 c =
    let a = c.args in
    let p = c.requires in
    let one = c.put_covers-c in
    let two = c.put_plains-q in
    let l = put_mid 2 (length a.row.now - 2) a.row.now one.new.out in
    let k : length l ≡ length a.row.now = same_len_mid 2 (length a.row.now - 2) a.row.now one.new.out one.auto.out in
    let l₂ = put_mid (2 + one.result) (length l - (2 + one.result)) l two.new.out in
    omega (arith, p.1, k, same_len_mid (2 + one.result) (length l - (2 + one.result)) l two.new.out two.auto.out, length-set l₂ 1 one.result)

pub returns : goal.returns
returns c =
    let a = c.args in
    let p = c.requires in
    let one = c.put_covers-c in
    let two = c.put_plains-q in
    let row = a.row.now in
    let l = put_mid 2 (length row - 2) row one.new.out in
    let k : length l ≡ length row = same_len_mid 2 (length row - 2) row one.new.out one.auto.out in
    let few = row_places a.base a.n a.kinds.now p.0 p.2 in
    row_filled a.base a.n a.kinds.now p.0 p.2 two.result one.result row l _ p.1 one.ensures.count two.ensures.count
    (back-put 2 row (omega (arith, p.1)) one.new.out _ one.ensures.places)
    (back-put (2 + one.result) l (omega (arith, few, one.ensures.count, k, p.1)) two.new.out _ two.ensures.places)
