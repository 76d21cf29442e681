-- The plan and the lists together.
-- Assumes nothing.
use mathlib.Core.Path.{◌≡◌, sym, ap, ◌∙◌, subst}
use mathlib.Core.List.{List}
use Prim.Native.Nat.{ℕ, ◌+◌, ◌-◌, ◌*◌, ◌≤◌, ◌<◌}
use native.Mathlib.Omega.{arith}
use borrow.Rule.Slice.PartMut.{put_mid}
use lib.ListN.{length, get_or, take, drop, set, length-set}
use lib.Seq.{get_or-drop, length-take-le, drop-set-lt, get_or-set_other}
use Rattle.model.specs.Table.{Table}
use Rattle.model.specs.Counters.{point_counters}
use Rattle.model.specs.Register.{point_total}
use Rattle.model.proofs.Limits.{covers_fewer}
use Rattle.arrays.specs.Put.{put}
use Rattle.arrays.specs.Flat.{covers, Origins}
use Rattle.arrays.proofs.PutLaws.{front-put}
use Rattle.meets.specs.Plan.{ValuesPlan}
use Rattle.crosses.specs.Marked.{Marked}
use Rattle.places.specs.Places.{PlaceRows, illegal_places}
use Rattle.lists.specs.Lists.{places_at, starts_at, illegals_at, counts_at, marks_at, lists_need, Planned, Ready}
use Rattle.lists.specs.Stages.{Listed}
use Rattle.lists.proofs.Fronts.{front_less, front_get, back-front, back-rest}
use Rattle.lists.proofs.ListLaws.{listed_kept}

covers-within : (t : Table) (p : ℕ) → length (covers t p) ≤ length (point_counters t p)
unfolding covers
covers-within t p = covers_fewer (point_counters t p)

-- the bounds are in the first 49 elements
pub values-kept : (t : Table) (w b b' : List ℕ) → point_total t ≤ 16 → ((i : ℕ) → i < 49 → get_or b' i 0 ≡ get_or b i 0) → ValuesPlan t w b → ValuesPlan t w b'
unfolding ValuesPlan
values-kept t w b b' h same v p k = rw (same (3 * p) (omega arith), same (3 * p + 1) (omega arith), same (3 * p + 2) (omega arith), same (3 * p + 3) (omega arith)) (v p k)

module _ (t : Table) (few : (q : ℕ) → q < point_total t → length (point_counters t q) ≤ 256) where
  -- the origins are in 256 elements of each point
  pub origins_kept : (a a' : List ℕ) → take (places_at (point_total t)) a' ≡ take (places_at (point_total t)) a → Origins t (drop 64 a) → Origins t (drop 64 a')
  unfolding Origins
  origins_kept a a' same o p k h i =
      get_or-drop 64 a' (256 * p + k) 0
      ∙ front_get (places_at (point_total t)) a a' same (64 + (256 * p + k)) (omega (arith, few p h, covers-within t p))
      ∙ sym (get_or-drop 64 a (256 * p + k) 0)
      ∙ o p k h i

  module _ (w first l l₁ l₂ m : List ℕ) (h : point_total t ≤ 16) (room : lists_need t ≤ length l₂) (long : places_at (point_total t) ≤ length first) (fit : places_at (point_total t) ≤ length l) where
    pub planned : ValuesPlan t w first → Origins t (drop 64 first) → l₁ ≡ put 0 (take (places_at (point_total t)) first) l → take (places_at (point_total t)) l₂ ≡ take (places_at (point_total t)) l₁
        → Listed t l₂ → Marked t m → (at : ℕ) → at ≡ marks_at t → length (put_mid at (length l₂ - at) l₂ m) ≡ length l₂ → Planned t w (put_mid at (length l₂ - at) l₂ m)
    planned v o e₁ same r marks at e = subst (λ (x : ℕ). length (put_mid x (length l₂ - x) l₂ m) ≡ length l₂ → Planned t w (put_mid x (length l₂ - x) l₂ m)) (sym e) (λ kept.
        let c = places_at (point_total t) in
        let l₃ = put_mid (marks_at t) (length l₂ - marks_at t) l₂ m in
        let at : marks_at t ≤ length l₂ = omega arith in
        let front = back-front (marks_at t) l₂ at m in
        let copied : take c l₁ ≡ take c first = ap (take c) e₁ ∙ front-put c (take c first) l (length-take-le c first long) fit in
        let begin : take c l₃ ≡ take c first = front_less (marks_at t) l₂ l₃ front c (omega arith) ∙ same ∙ copied in
        let those = listed_kept t few l₂ l₃ h front r in
        record {
          values = values-kept t w first l₃ h (λ i k. front_get c first l₃ begin i (omega arith)) v;
          origins = origins_kept first l₃ begin o;
          places = those.places;
          starts = those.starts;
          illegals = those.illegals;
          illegal = those.illegal;
          counts = those.counts;
          marks = subst (Marked t) (sym (back-rest (marks_at t) l₂ at m)) marks;
          room = omega (arith, kept);
        })

-- ---- an element that no list has

module _ (t : Table) (w l : List ℕ) (j v : ℕ) (past : 48 < j) (before : j < 64) (few : point_total t ≤ 16) (ok : Planned t w l) where
  beyond : (n : ℕ) → 64 ≤ n → drop n (set l j v) ≡ drop n l
  beyond n h = drop-set-lt n l j v (omega arith)

  pub planned_set : Planned t w (set l j v)
  planned_set =
      let n = point_total t in
      record {
        values = values-kept t w l (set l j v) few (λ i k. get_or-set_other l j i v 0 (λ (e : i ≡ j). omega arith)) ok.values;
        origins = subst (Origins t) (sym (beyond 64 (omega arith))) ok.origins;
        places = subst (PlaceRows t) (sym (beyond (places_at n) (omega arith))) ok.places;
        starts = ap (take (n + 1)) (beyond (starts_at n) (omega arith)) ∙ ok.starts;
        illegals = get_or-set_other l j (illegals_at n) v 0 (λ (e : illegals_at n ≡ j). omega arith) ∙ ok.illegals;
        illegal = ap (take (length (illegal_places t))) (beyond (illegals_at n + 1) (omega arith)) ∙ ok.illegal;
        counts = ap (take n) (beyond (counts_at t) (omega arith)) ∙ ok.counts;
        marks = subst (Marked t) (sym (beyond (marks_at t) (omega arith))) ok.marks;
        room = simp length-set ok.room;
      }

pub ready-set : (t : Table) (w l : List ℕ) (j v : ℕ) → 48 < j → j < 63 → point_total t ≤ 16 → Ready t w l → Ready t w (set l j v)
ready-set t w l j v past before few r = record {
  planned = planned_set t w l j v past (omega arith) few r.planned;
  counters = get_or-set_other l j 63 v 0 (λ (e : 63 ≡ j). omega arith) ∙ r.counters;
}
