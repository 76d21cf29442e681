use mathlib.Core.Path.{sym, ap}
use mathlib.Core.Bool.{true, false}
use Prim.Native.Nat.{ℕ, ◌+◌}
use native.Mathlib.Omega.{arith}
use lib.ListN.{length, length-take, length-replicate}
use lib.Seq.{length-take-le}
use borrow.Rule.Slice.PartMut.{mid_len}
use Rattle.arrays.proofs.Written.{both-written}
use Rattle.places.specs.Places.{is_set, places_from}
use Rattle.places.proofs.PlaceLaws.{set_few}
use Rattle.crosses.specs.Flags.{heads_at, bin_flags}
use Rattle.crosshits.specs.Listed.{own_places}
use Rattle.crosshits.specs.Cross.{live_flags, live_places}
use Rattle.crosshits.proofs.CrossLaws.{flags_few, live-flags, live_parts, live-room, bins_put}
use Rattle.crosshits.proofs.cross.put_live.Goals as goal

pub put_bins-m-requires : goal.put_bins-m-requires
put_bins-m-requires c =
    let a = c.args in
    let pre = c.requires in
    let s = a.t.now in
    let w = a.sample.now in
    let ms = a.plan.now in
    let xs = a.list.now in
    let k = c.byte-k in
    let mask = c.mask_of in
    let own = c.marks_of in
    let every = c.marks_of-2 in
    let bins = bin_flags w false true own.result every.result (heads_at s a.x.place.bins k.result) in
    let same = live-flags s w ms xs a.x k.result mask.result own.result every.result k.ensures mask.ensures own.ensures every.ensures in
    (omega (arith, pre.1), omega (arith, k.ensures, pre.2), omega (arith, ap length same, flags_few s w ms xs a.x pre.2, length-replicate {A = ℕ} 16 0))

pub slice_bounds-flags-end : goal.slice_bounds-flags-end
slice_bounds-flags-end c =
    let a = c.args in
    let pre = c.requires in
    let s = a.t.now in
    let w = a.sample.now in
    let ms = a.plan.now in
    let xs = a.list.now in
    let k = c.byte-k in
    let mask = c.mask_of in
    let own = c.marks_of in
    let every = c.marks_of-2 in
    let bins = bin_flags w false true own.result every.result (heads_at s a.x.place.bins k.result) in
    let same = live-flags s w ms xs a.x k.result mask.result own.result every.result k.ensures mask.ensures own.ensures every.ensures in
    let m = c.put_bins-m in
    let part = mid_len a.x.at (length a.hits.now) a.hits.now (omega arith) in
    omega (arith, m.ensures.0, ap length same, flags_few s w ms xs a.x pre.2, m.auto.flags, length-replicate {A = ℕ} 16 0)

pub slice_bounds-put_set-end-2 : goal.slice_bounds-put_set-end-2
slice_bounds-put_set-end-2 c =
    let a = c.args in
    let pre = c.requires in
    let s = a.t.now in
    let w = a.sample.now in
    let ms = a.plan.now in
    let xs = a.list.now in
    let k = c.byte-k in
    let mask = c.mask_of in
    let own = c.marks_of in
    let every = c.marks_of-2 in
    let bins = bin_flags w false true own.result every.result (heads_at s a.x.place.bins k.result) in
    let same = live-flags s w ms xs a.x k.result mask.result own.result every.result k.ensures mask.ensures own.ensures every.ensures in
    let m = c.put_bins-m in
    let part = mid_len a.x.at (length a.hits.now) a.hits.now (omega arith) in
    sym (length-take-le m.result m.new.flags (omega (arith, m.ensures.0, ap length same, flags_few s w ms xs a.x pre.2, m.auto.flags, length-replicate {A = ℕ} 16 0)))

pub put_set-c-requires : goal.put_set-c-requires
put_set-c-requires c =
    let a = c.args in
    let pre = c.requires in
    let s = a.t.now in
    let w = a.sample.now in
    let ms = a.plan.now in
    let xs = a.list.now in
    let k = c.byte-k in
    let mask = c.mask_of in
    let own = c.marks_of in
    let every = c.marks_of-2 in
    let bins = bin_flags w false true own.result every.result (heads_at s a.x.place.bins k.result) in
    let same = live-flags s w ms xs a.x k.result mask.result own.result every.result k.ensures mask.ensures own.ensures every.ensures in
    let m = c.put_bins-m in
    let part = mid_len a.x.at (length a.hits.now) a.hits.now (omega arith) in
    record { room = omega (arith, set_few is_set a.x.first m.result m.new.flags, m.ensures.0, ap length same, part, pre.6); small = omega (arith, m.ensures.0, ap length same, pre.5, length-take m.result m.new.flags) }

pub overflow_add-y : goal.overflow_add-y
overflow_add-y c =
    let a = c.args in
    let pre = c.requires in
    let s = a.t.now in
    let w = a.sample.now in
    let ms = a.plan.now in
    let xs = a.list.now in
    let k = c.byte-k in
    let own = c.marks_of in
    let every = c.marks_of-2 in
    let bins = bin_flags w false true own.result every.result (heads_at s a.x.place.bins k.result) in
    let same = live-flags s w ms xs a.x k.result c.mask_of.result own.result every.result k.ensures c.mask_of.ensures own.ensures every.ensures in
    let m = c.put_bins-m in
    let q = c.put_set-c in
    let put = bins_put s w ms xs a.hits.now a.x (length xs) m.result q.result m.new.flags q.new.out bins pre.2 same pre.6 m.ensures.0 m.ensures.1 q.ensures.count q.ensures.places in
    omega (arith, put.small, put.many, pre.5, pre.7)

pub overflow_add-y-2 : goal.overflow_add-y-2
overflow_add-y-2 c =
    let a = c.args in
    let pre = c.requires in
    let s = a.t.now in
    let w = a.sample.now in
    let ms = a.plan.now in
    let xs = a.list.now in
    let k = c.byte-k in
    let own = c.marks_of in
    let every = c.marks_of-2 in
    let bins = bin_flags w false true own.result every.result (heads_at s a.x.place.bins k.result) in
    let same = live-flags s w ms xs a.x k.result c.mask_of.result own.result every.result k.ensures c.mask_of.ensures own.ensures every.ensures in
    let m = c.put_bins-m in
    let q = c.put_set-c in
    let put = bins_put s w ms xs a.hits.now a.x (length xs) m.result q.result m.new.flags q.new.out bins pre.2 same pre.6 m.ensures.0 m.ensures.1 q.ensures.count q.ensures.places in
    omega (arith, put.many, pre.5)

pub put_own-requires : goal.put_own-requires
put_own-requires c =
    let a = c.args in
    let pre = c.requires in
    let s = a.t.now in
    let w = a.sample.now in
    let ms = a.plan.now in
    let xs = a.list.now in
    let k = c.byte-k in
    let own = c.marks_of in
    let every = c.marks_of-2 in
    let bins = bin_flags w false true own.result every.result (heads_at s a.x.place.bins k.result) in
    let same = live-flags s w ms xs a.x k.result c.mask_of.result own.result every.result k.ensures c.mask_of.ensures own.ensures every.ensures in
    let m = c.put_bins-m in
    let q = c.put_set-c in
    let put = bins_put s w ms xs a.hits.now a.x (length xs) m.result q.result m.new.flags q.new.out bins pre.2 same pre.6 m.ensures.0 m.ensures.1 q.ensures.count q.ensures.places in
    (pre.4, omega (arith, put.small, put.many, put.kept, pre.6), omega (arith, put.many, pre.5), pre.3)

pub returns : goal.returns
returns c =
    let a = c.args in
    let pre = c.requires in
    let s = a.t.now in
    let w = a.sample.now in
    let ms = a.plan.now in
    let xs = a.list.now in
    let k = c.byte-k in
    let own = c.marks_of in
    let every = c.marks_of-2 in
    let bins = bin_flags w false true own.result every.result (heads_at s a.x.place.bins k.result) in
    let same = live-flags s w ms xs a.x k.result c.mask_of.result own.result every.result k.ensures c.mask_of.ensures own.ensures every.ensures in
    let m = c.put_bins-m in
    let q = c.put_set-c in
    let put = bins_put s w ms xs a.hits.now a.x (length xs) m.result q.result m.new.flags q.new.out bins pre.2 same pre.6 m.ensures.0 m.ensures.1 q.ensures.count q.ensures.places in
    let first = places_from is_set a.x.first (live_flags s w ms xs a.x) in
    let rest = own_places ms a.x.start (a.x.first + m.result) xs in
    both-written a.x.at (a.x.at + q.result) c.put_own.result first rest (live_places s w ms xs a.x) a.hits.now _ c.put_own.new.hits (live_parts s w ms xs a.x m.result put.many) (live-room s w ms xs a.x a.hits.now pre.6) (ap (a.x.at +◌) put.places) put.written c.put_own.ensures.0 c.put_own.ensures.1
