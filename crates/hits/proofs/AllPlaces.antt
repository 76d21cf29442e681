-- The places of all points' counters that are hit, point after point.
-- Assumes nothing.
use mathlib.Core.Path.{◌≡◌, refl, sym, ap, ap₂, ◌∙◌}
use mathlib.Core.Bool.{true}
use mathlib.Core.List.{List, [], ◌++◌, append_assoc}
use Prim.Native.Nat.{ℕ, ◌+◌, ◌-◌, ◌*◌, ◌≤◌, ◌<◌}
use native.Mathlib.Omega.{arith}
use lib.ListN.{length, get_or, take, drop, length-append}
use lib.Seq.{get_or-drop}
use borrow.Rule.Slice.PartMut.{put_mid}
use Rattle.model.specs.Lists.{up_from, concat_of}
use Rattle.model.specs.Table.{Table}
use Rattle.model.specs.Counters.{value_counters, auto_counters, transition_counters, point_counters}
use Rattle.model.specs.Sampling.{hits}
use Rattle.model.specs.Format.{accepted, table_of}
use Rattle.model.specs.Register.{point_total, run_stretches}
use Rattle.model.proofs.Lists.{from_step, from_end}
use Rattle.model.proofs.RawExact.{few_points}
use Rattle.arrays.specs.Put.{put}
use Rattle.arrays.specs.Flat.{all_point_counters, point_start, point_starts}
use Rattle.arrays.proofs.Written.{Written, written-room, written-turn}
use Rattle.places.specs.Places.{places_from}
use Rattle.places.proofs.PlaceLaws.{places-append, places-few}
use Rattle.points.proofs.KindExact.{start_zero, start_next, start_last, start_low}
use Rattle.points.proofs.ItemLaws.{end_read}
use Rattle.hits.specs.Places.{value_places, transition_start, transition_places, all_places}
use Rattle.hits.proofs.ValueExact.{any_stretch}
use Rattle.hits.proofs.RowLaws.{tail_back}

-- ---- where a point's counters end

split-length : (t : Table) (p : ℕ) → point_start t p + length (point_counters t p) ≡ transition_start t p + length (transition_counters p 0 t.transition_bins)
unfolding point_counters transition_start
split-length t p =
    let vs = value_counters t p 0 t.value_bins in
    let ts = transition_counters p 0 t.transition_bins in
    omega (arith, length-append (vs ++ auto_counters t p) ts, length-append vs (auto_counters t p))

-- as the array of places has it after its rows
pub end-at : (t : Table) (a : List ℕ) (n p : ℕ) → n ≡ point_total t → take (point_total t + 1) (drop (258 * point_total t) a) ≡ point_starts t → p < point_total t
    → get_or a (258 * n + p + 1) 0 ≡ transition_start t p + length (transition_counters p 0 t.transition_bins)
end-at t a n p en e h =
    ap (λ (x : ℕ). get_or a x 0) (let z : 258 * n + p + 1 ≡ 258 * point_total t + (p + 1) = omega arith in z)
    ∙ sym (get_or-drop (258 * point_total t) a (p + 1) 0)
    ∙ end_read t (drop (258 * point_total t) a) e p h
    ∙ split-length t p

-- ---- all of them

pub all-few : (s w lens : List ℕ) → accepted s ≡ true → length (all_places (table_of s) w (run_stretches lens)) ≤ 4096
unfolding all_places
all-few s w lens ok =
    let t = table_of s in
    omega (arith, places-few (hits t w (run_stretches lens)) 0 (all_point_counters t), start_last t (point_total t) refl, start_low s ok (point_total t) (omega arith), few_points s ok)

-- ---- the points from number i on

unfoldable pub places_after : Table → List ℕ → List ℕ → ℕ → ℕ → List ℕ
places_after t w lens i n = places_from (hits t w (run_stretches lens)) (point_start t i) (concat_of (point_counters t) (up_from i n))

module _ (t : Table) (w lens : List ℕ) where
  point_split : (p : ℕ) → places_from (hits t w (run_stretches lens)) (point_start t p) (point_counters t p) ≡ value_places t w p ++ transition_places t w lens p
  unfolding point_counters transition_places transition_start
  point_split p =
      let f = hits t w (run_stretches lens) in
      let vs = value_counters t p 0 t.value_bins in
      let ts = transition_counters p 0 t.transition_bins in
      let z : point_start t p + length (vs ++ auto_counters t p) ≡ point_start t p + length vs + length (auto_counters t p) = omega (arith, length-append vs (auto_counters t p)) in
      places-append f (point_start t p) (vs ++ auto_counters t p) ts
      ∙ ap₂ (λ (x : List ℕ) (n : ℕ). x ++ places_from f n ts) (sym (any_stretch t w p (run_stretches lens))) z

  module _ (n : ℕ) where
    pub after-start : n ≡ point_total t → places_after t w lens 0 (n - 0) ≡ all_places t w (run_stretches lens)
    unfolding places_after all_places all_point_counters
    after-start e = ap₂ (λ (a m : ℕ). places_from (hits t w (run_stretches lens)) a (concat_of (point_counters t) (up_from 0 m))) (sym (start_zero t)) (let z : n - 0 ≡ point_total t = omega arith in z)

    after_turn : (i : ℕ) → i < n → places_after t w lens i (n - i) ≡ value_places t w i ++ (transition_places t w lens i ++ places_after t w lens (i + 1) (n - (i + 1)))
    unfolding places_after concat_of
    after_turn i h =
        let f = hits t w (run_stretches lens) in
        let others = concat_of (point_counters t) (up_from (i + 1) (n - (i + 1))) in
        ap (λ (ps : List ℕ). places_from f (point_start t i) (concat_of (point_counters t) ps)) (from_step i n h)
        ∙ places-append f (point_start t i) (point_counters t i) others
        ∙ ap₂ (λ (x : List ℕ) (m : ℕ). x ++ places_from f m others) (point_split i) (start_next t i (point_start t i + length (point_counters t i)) refl)
        ∙ append_assoc (value_places t w i) (transition_places t w lens i) (places_from f (point_start t (i + 1)) others)

    pub after-end : (i : ℕ) → n ≤ i → places_after t w lens i (n - i) ≡ []
    unfolding places_after concat_of places_from
    after-end i h = ap (λ (ps : List ℕ). places_from (hits t w (run_stretches lens)) (point_start t i) (concat_of (point_counters t) ps)) (from_end i n h)

  -- ---- one turn

  module _ (l₀ : List ℕ) (room : length (all_point_counters t) + 256 ≤ length l₀) where
    fits : 0 + length (all_places t w (run_stretches lens)) ≤ length l₀
    unfolding all_places
    fits = omega (arith, places-few (hits t w (run_stretches lens)) 0 (all_point_counters t))

    -- no more places were written than there are counters
    pub room-left : (at : ℕ) (l rest : List ℕ) → Written 0 (all_places t w (run_stretches lens)) l₀ at l rest → at + 256 ≤ length l
    unfolding all_places
    room-left at l rest inv = omega (arith, places-few (hits t w (run_stretches lens)) 0 (all_point_counters t), inv.place, inv.kept)

    module _ (n i at : ℕ) (l : List ℕ) (inv : Written 0 (all_places t w (run_stretches lens)) l₀ at l (places_after t w lens i (n - i))) (h : i < n) (at₁ : ℕ) (l₁ : List ℕ) (e₁ : at₁ ≡ at + length (value_places t w i)) (w₁ : l₁ ≡ put at (value_places t w i) l) where
      pub values-turn : Written 0 (all_places t w (run_stretches lens)) l₀ at₁ l₁ (transition_places t w lens i ++ places_after t w lens (i + 1) (n - (i + 1)))
      values-turn = written-turn 0 (all_places t w (run_stretches lens)) l₀ at l (places_after t w lens i (n - i)) inv fits (value_places t w i) _ (after_turn n i h) at₁ l₁ e₁ w₁

      pub values-room : at₁ + 256 ≤ length l₁
      values-room = room-left at₁ l₁ _ values-turn

      pub transitions-turn : (k : ℕ) (ys : List ℕ) → k ≡ length (transition_places t w lens i) → length ys ≡ length (take (length l₁ - at₁) (drop at₁ l₁)) → ys ≡ put 0 (transition_places t w lens i) (take (length l₁ - at₁) (drop at₁ l₁))
          → Written 0 (all_places t w (run_stretches lens)) l₀ (at₁ + k) (put_mid at₁ (length l₁ - at₁) l₁ ys) (places_after t w lens (i + 1) (n - (i + 1)))
      transitions-turn k ys ek kept e =
          let xs = transition_places t w lens i in
          let others = places_after t w lens (i + 1) (n - (i + 1)) in
          let fit = written-room 0 (all_places t w (run_stretches lens)) l₀ at₁ l₁ (xs ++ others) values-turn fits xs others refl in
          written-turn 0 (all_places t w (run_stretches lens)) l₀ at₁ l₁ (xs ++ others) values-turn fits xs others refl (at₁ + k) _ (ap (at₁ +◌) ek) (tail_back at₁ xs l₁ ys fit kept e)
