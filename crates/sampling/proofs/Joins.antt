-- The counters of the points and those of the crosses, one after the other, are all of them; and they are few.
-- Assumes nothing.
use mathlib.Core.Path.{◌≡◌, sym, ap, ◌∙◌}
use mathlib.Core.Bool.{true, ◌&&◌}
use mathlib.Core.List.{List, ◌++◌, map, map-append}
use Prim.Native.Nat.{ℕ, zero, suc, ◌+◌, ◌*◌, ◌≤◌}
use native.Mathlib.Nat.{zero-add}
use native.Mathlib.Numerals.{add-one}
use native.Mathlib.Omega.{arith}
use lib.Dec.{leb}
use lib.ListN.{length, get_or, take, length-append, length-map}
use lib.Seq.{take-take, take_at}
use borrow.Author.Tests.{leb-true}
use Rattle.model.proofs.Booleans.{and_left, and_right}
use Rattle.model.specs.Lists.{up_from, sum_of, concat_of, as_bit}
use Rattle.model.specs.Table.{Table}
use Rattle.model.specs.Counters.{Counter, point_counters, cross_counters, counters}
use Rattle.model.specs.Sampling.{Stretches, cover_hit, hits}
use Rattle.model.specs.Figures.{in_total, item_of}
use Rattle.model.specs.Format.{accepted, table_of}
use Rattle.model.specs.Raw.{record_count}
use Rattle.model.specs.Register.{point_total, counter_total}
use Rattle.model.proofs.Sections.{acceptance, accepted_decodes}
use Rattle.model.proofs.Access.{points_access}
use Rattle.model.proofs.MeasureBounds.{counters_few}
use Rattle.model.proofs.Limits.{covers_fewer}
use Rattle.layout.specs.Places.{layout_of}
use Rattle.layout.specs.declared.Layout.{Layout}
use Rattle.points.proofs.ItemLaws.{start_read}
use Rattle.points.proofs.KindExact.{start_low}
use Rattle.meets.specs.Plan.{plan_need}
use Rattle.meets.proofs.PlanRoom.{plan_fits}
use Rattle.model.proofs.Lists.{length-up_from}
use Rattle.arrays.specs.Put.{put}
use Rattle.arrays.specs.Flat.{hit_flags, total_flags, kinds_of, kind_of, items_of, all_point_counters, all_cross_counters, point_start, point_starts, covers, Tells, cover_counts}
use Rattle.points.specs.Gates.{Kinded, Flagged, Gathered}
use Rattle.sampling.specs.declared.Index.{Index}
use Rattle.sampling.specs.Index.{Roomy, Indexed, Labelled, plan_room}
use Rattle.arrays.proofs.PutLaws.{put_next, put-nil, front-put, front_kept}
use Rattle.crosses.proofs.Places.{count_crosses}
use Rattle.arrays.proofs.FlatLaws.{counts_length, kinds-length}

joined : {A : Type 0} (f : Counter → A) (xs ys : List Counter) (n : ℕ) (l m r : List A) → n ≡ length xs → n ≤ length l
    → m ≡ put 0 (map f xs) l → r ≡ put n (map f ys) m → r ≡ put 0 (map f (xs ++ ys)) l
joined f xs ys n l m r e h a b =
    b ∙ ap (put n (map f ys)) a
    ∙ ap (λ (k : ℕ). put k (map f ys) (put 0 (map f xs) l)) (sym (zero-add n))
    ∙ put_next 0 n (map f xs) (map f ys) l (length-map xs f ∙ sym e) (omega arith)
    ∙ ap (λ zs. put 0 zs l) (sym (map-append f xs ys))

-- ---- how many there are

abbrev pub point_count : Table → ℕ
point_count t = length (all_point_counters t)

pub all-count : (t : Table) → point_count t + length (all_cross_counters t) ≡ counter_total t
unfolding counters all_point_counters all_cross_counters
all-count t = sym (length-append (all_point_counters t) (all_cross_counters t))

sixteen : (s : List ℕ) → accepted s ≡ true → point_total (table_of s) ≤ 16
sixteen s e =
    let t = table_of s in
    (points_access s t (length s) (acceptance s t (accepted_decodes s e)).layout).0.high

-- 256 elements for each point are in an array of 4,096
pub gate-room : (s : List ℕ) → accepted s ≡ true → 256 * point_total (table_of s) ≤ 4096
gate-room s e = omega (arith, sixteen s e)

-- no table has more counters than this
pub largest-room : (s : List ℕ) → accepted s ≡ true → Roomy (table_of s) 12416
largest-room s e =
    let t = table_of s in
    let a = acceptance s t (accepted_decodes s e) in
    (omega (arith, sixteen s e), omega (arith, counters_few s t (length s) a.layout a.limited))

-- ---- the whole of each array

module _ (t : Table) (n : ℕ) (e : n ≡ point_count t) where
  pub hits_joined : (w : List ℕ) (m : Stretches) (l a r : List ℕ) → n ≤ length l → a ≡ put 0 (hit_flags t w m (all_point_counters t)) l
      → r ≡ put n (hit_flags t w m (all_cross_counters t)) a → r ≡ put 0 (hit_flags t w m (counters t)) l
  unfolding hit_flags counters all_point_counters all_cross_counters
  hits_joined w m l a r h = joined (λ c. as_bit (hits t w m c)) (all_point_counters t) (all_cross_counters t) n l a r e h

  pub totals_joined : (l a r : List ℕ) → n ≤ length l → a ≡ put 0 (total_flags t (all_point_counters t)) l
      → r ≡ put n (total_flags t (all_cross_counters t)) a → r ≡ put 0 (total_flags t (counters t)) l
  unfolding total_flags counters all_point_counters all_cross_counters
  totals_joined l a r h = joined (λ c. as_bit (in_total t c)) (all_point_counters t) (all_cross_counters t) n l a r e h

  pub kinds_joined : (l a r : List ℕ) → n ≤ length l → a ≡ put 0 (kinds_of (all_point_counters t)) l
      → r ≡ put n (kinds_of (all_cross_counters t)) a → r ≡ put 0 (kinds_of (counters t)) l
  unfolding kinds_of counters all_point_counters all_cross_counters
  kinds_joined l a r h = joined kind_of (all_point_counters t) (all_cross_counters t) n l a r e h

  pub items_joined : (l a r : List ℕ) → n ≤ length l → a ≡ put 0 (items_of t (all_point_counters t)) l
      → r ≡ put n (items_of t (all_cross_counters t)) a → r ≡ put 0 (items_of t (counters t)) l
  unfolding items_of counters all_point_counters all_cross_counters
  items_joined l a r h = joined (item_of t) (all_point_counters t) (all_cross_counters t) n l a r e h

-- ---- the arrays as they stand

pub length-starts : (t : Table) → length (point_starts t) ≡ point_total t + 1
unfolding point_starts
length-starts t = length-map (up_from 0 (suc (point_total t))) (point_start t) ∙ length-up_from 0 (suc (point_total t)) ∙ sym (add-one (point_total t))

pub length-hits : (t : Table) (w : List ℕ) (m : Stretches) (cs : List Counter) → length (hit_flags t w m cs) ≡ length cs
unfolding hit_flags
length-hits t w m cs = length-map cs (λ c. as_bit (hits t w m c))

pub starts_stand : (s : List ℕ) (l r : List ℕ) → accepted s ≡ true → r ≡ put 0 (point_starts (table_of s)) l → 17 ≤ length l
    → take (point_total (table_of s) + 1) r ≡ point_starts (table_of s)
starts_stand s l r a e h = let t = table_of s in let k : point_total t + 1 ≤ length l = omega (arith, sixteen s a) in ap (take (point_total t + 1)) e ∙ front-put (point_total t + 1) (point_starts t) l (length-starts t) k

pub counts_stand : (s : List ℕ) (l r : List ℕ) → accepted s ≡ true → r ≡ put 0 (cover_counts (table_of s)) l → 16 ≤ length l
    → take (point_total (table_of s)) r ≡ cover_counts (table_of s)
counts_stand s l r a e h = let t = table_of s in let k : point_total t ≤ length l = omega (arith, sixteen s a) in ap (take (point_total t)) e ∙ front-put (point_total t) (cover_counts t) l (counts_length t) k

pub kinds_stand : (s : List ℕ) (l r : List ℕ) → accepted s ≡ true → r ≡ put 0 (kinds_of (all_point_counters (table_of s))) l → point_count (table_of s) ≤ length l
    → Kinded (table_of s) r
unfolding Kinded
kinds_stand s l r a e h = let t = table_of s in ap (take (point_count t)) e ∙ front-put (point_count t) (kinds_of (all_point_counters t)) l (kinds-length (all_point_counters t)) h

-- from the flags that a sample raises at the points, the gates are the cover bins that it hits
pub gates_stand : (s w : List ℕ) (m : Stretches) (l r gate : List ℕ) → accepted s ≡ true → r ≡ put 0 (hit_flags (table_of s) w m (all_point_counters (table_of s))) l → point_count (table_of s) ≤ length l
    → Gathered (table_of s) r gate
    → Tells (cover_hit (table_of s) w) (table_of s) gate
unfolding hit_flags hits Gathered Flagged
gates_stand s w m l r gate a e h f = let t = table_of s in f (hits t w m) (ap (take (point_count t)) e ∙ front-put (point_count t) (hit_flags t w m (all_point_counters t)) l (length-hits t w m (all_point_counters t)) h)

-- the kinds of all counters begin with those of the points'
pub labelled-points : (t : Table) (kinds : List ℕ) → Labelled t kinds → Kinded t kinds
unfolding Labelled Kinded kinds_of counters all_point_counters all_cross_counters
labelled-points t kinds e =
    let xs = all_point_counters t in
    let ys = all_cross_counters t in
    sym (take-take (point_count t) (counter_total t) kinds (omega (arith, all-count t))) ∙ ap (take (point_count t)) (e ∙ map-append kind_of xs ys)
    ∙ take_at (map kind_of xs) (map kind_of ys) (point_count t) (length-map xs kind_of)

-- the kinds as they were written
pub labelled : (t : Table) (l kinds : List ℕ) → kinds ≡ put 0 (kinds_of (counters t)) l → length kinds ≡ length l → Labelled t kinds
unfolding Labelled
labelled t l kinds e k = (front_kept (counter_total t) (kinds_of (counters t)) l kinds (kinds-length (counters t)) e k).0

-- ---- the words of a plan

covers-within : (t : Table) (n i : ℕ) → sum_of (λ p. length (covers t p)) (up_from i n) ≤ length (concat_of (point_counters t) (up_from i n))
unfolding sum_of up_from concat_of covers
covers-within t zero i = omega arith
covers-within t (suc n) i =
    omega (arith, length-append (point_counters t i) (concat_of (point_counters t) (up_from (suc i) n)), covers_fewer (point_counters t i), covers-within t n (suc i))

last-start : (t : Table) (x : Index) → Indexed t x → get_or x.starts x.points 0 ≡ point_start t (point_total t)
last-start t x own = ap (λ (i : ℕ). get_or x.starts i 0) own.points ∙ start_read t x.starts own.starts (point_total t) (omega arith)

-- enough for the ranges of the table and the counters of its points
pub plan-within : (s : List ℕ) → accepted s ≡ true → (ranges : ℕ) → ranges ≡ record_count s 2 → (x : Index) → Indexed (table_of s) x → plan_need (table_of s) ≤ plan_room ranges x
unfolding point_start
plan-within s ok ranges e x own =
    let t = table_of s in
    omega (arith, plan_fits s ok, covers-within t (point_total t) 0, last-start t x own, own.points, e)

pub index-small : (s : List ℕ) → accepted s ≡ true → (x : Index) → Indexed (table_of s) x → (x.points ≤ 16) × (get_or x.starts x.points 0 ≤ 4096)
index-small s ok x own =
    let t = table_of s in
    (omega (arith, own.points, sixteen s ok), omega (arith, last-start t x own, start_low s ok (point_total t) (omega arith), sixteen s ok))

-- two tests of a size class
pub both-within : (a n b m : ℕ) → (leb a n && leb b m) ≡ true → (a ≤ n) × (b ≤ m)
both-within a n b m h = (leb-true a n (and_left (leb a n) (leb b m) h), leb-true b m (and_right (leb a n) (leb b m) h))

-- ---- a table without crosses

pub no-crosses : (s : List ℕ) → accepted s ≡ true → (l : Layout) → l ≡ layout_of s → l.cross_count ≡ 0 → (w : List ℕ) (m : Stretches) (n : ℕ) (f : List ℕ)
    → f ≡ put n (hit_flags (table_of s) w m (all_cross_counters (table_of s))) f
unfolding all_cross_counters concat_of up_from hit_flags
no-crosses s ok l el none w m n f =
    let t = table_of s in
    let z : length t.crosses ≡ 0 = sym (count_crosses s ok l el) ∙ none in
    sym (ap (λ (k : ℕ). put n (map (λ c. as_bit (hits t w m c)) (concat_of (cross_counters t) (up_from 0 k))) f) z ∙ put-nil n f)
