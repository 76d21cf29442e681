-- What the run words tell after a sample, and the flags that follow from them.
-- Assumes nothing.
use mathlib.Core.Path.{◌≡◌, refl, sym, ap, ap₂, ◌∙◌, fun_ext}
use mathlib.Core.Bool.{Bool, true}
use mathlib.Core.List.{List, [], ◌∷◌}
use Prim.Native.Nat.{ℕ, suc, ◌+◌, ◌≤◌}
use native.Mathlib.Omega.{arith}
use lib.ListN.{length, take, drop}
use borrow.Author.Tests.{leb-true}
use Rattle.model.specs.Lists.{sum_of, as_bit}
use Rattle.model.specs.Table.{Table, TransitionBin}
use Rattle.model.specs.Counters.{Counter, counters}
use Rattle.model.specs.Sampling.{run_length, Stretches, hits}
use Rattle.model.specs.Format.{accepted, table_of}
use Rattle.model.specs.Register.{counter_total, point_total, run_total, words_needed, runs_of, sequences, next_runs, all_lengths, run_stretches, long_enough, in_widths}
use Rattle.model.proofs.Sections.{acceptance, accepted_decodes}
use Rattle.model.proofs.Access.{points_access}
use Rattle.model.proofs.AccessTransitions.{transitions_access}
use Rattle.model.proofs.MeasureBounds.{words_few}
use Rattle.model.proofs.WellFormed.{WellFormed, well-formed}
use Rattle.arrays.specs.Put.{put}
use Rattle.arrays.specs.declared.reading.Reading as code
use Rattle.arrays.specs.Flat.{hit_flags, reading_codes, Readings}
use Rattle.layout.specs.Places.{layout_of}
use Rattle.layout.proofs.PlaceLaws.{points-total}
use Rattle.places.specs.Places.{is_set, places_from, hit_places}
use Rattle.places.proofs.PlaceLaws.{places-map}
use Rattle.model.proofs.RunBits.{as_bit_eqb}
use Rattle.arrays.proofs.PutLaws.{part-put}
use Rattle.samples.specs.Writes.{runs_after, flags_after}
use Rattle.arrays.proofs.PutLaws.{front-put}
use Rattle.samples.proofs.WriteLaws.{codes-length, runs_after_length}

length-lengths : (bs : List TransitionBin) (runs : List ℕ) → length (all_lengths bs runs) ≡ length bs
unfolding all_lengths
length-lengths [] runs = refl
length-lengths (b ∷ bs) runs = ap suc (length-lengths bs (drop (sum_of run_length b.sequences) runs))

-- the places of what is hit are those of its flags
pub places_flagged : (t : Table) (s : List ℕ) (m : Stretches) → hit_places t s m ≡ places_from is_set 0 (hit_flags t s m (counters t))
unfolding hit_places hit_flags
places_flagged t s m =
    sym (places-map is_set (λ c. as_bit (hits t s m c)) 0 (counters t) ∙ ap (λ (f : Counter → Bool). places_from f 0 (counters t)) (fun_ext (λ c. as_bit_eqb (hits t s m c))))

-- ---- an accepted table

module _ (b : List ℕ) (ok : accepted b ≡ true) where
  pub good : WellFormed (table_of b)
  good = well-formed b (table_of b) (accepted_decodes b ok)

  pub points_few : point_total (table_of b) ≤ 16
  points_few = (points_access b (table_of b) (length b) (acceptance b (table_of b) (accepted_decodes b ok)).layout).0.high

  pub transitions_few : length (table_of b).transition_bins ≤ 64
  transitions_few = (transitions_access b (table_of b) (length b) (acceptance b (table_of b) (accepted_decodes b ok)).layout).0.high

  pub few : 2 + counter_total (table_of b) + point_total (table_of b) + run_total (table_of b) ≤ 14482
  unfolding words_needed
  few = let a = acceptance b (table_of b) (accepted_decodes b ok) in words_few b (table_of b) (length b) a.layout a.limited

  module _ (s w : List ℕ) (long : long_enough (table_of b) w ≡ true) (widths : in_widths (table_of b) s ≡ true) (at : ℕ) (ea : at ≡ 2 + counter_total (table_of b) + point_total (table_of b)) where
    pub runs-room : at + run_total (table_of b) ≤ length w
    unfolding words_needed
    runs-room = omega (arith, leb-true (words_needed (table_of b)) (length w) long)

    pub readings-known : (r₀ r : List code.Reading) → 16 ≤ length r₀ → r ≡ put 0 (reading_codes (table_of b) s) r₀ → Readings (table_of b) s r
    readings-known r₀ r h e =
        record { codes = ap (take (point_total (table_of b))) e ∙ front-put (point_total (table_of b)) (reading_codes (table_of b) s) r₀ (codes-length (table_of b) s) (omega (arith, points_few)); widths = widths }

    pub runs-advanced : (w₁ : List ℕ) → w₁ ≡ put at (next_runs (table_of b) s (sequences (table_of b)) (take (run_total (table_of b)) (drop at w))) w → w₁ ≡ put at (runs_after (table_of b) s w) w
    unfolding runs_after runs_of
    runs-advanced w₁ e = e ∙ ap (λ (n : ℕ). put at (next_runs (table_of b) s (sequences (table_of b)) (take (run_total (table_of b)) (drop n w))) w) ea

    -- what the run words after the sample tell, and so what is hit
    pub places-found : (w₁ lens₀ lens : List ℕ) → w₁ ≡ put at (runs_after (table_of b) s w) w → 64 ≤ length lens₀
        → lens ≡ put 0 (all_lengths (table_of b).transition_bins (take (run_total (table_of b)) (drop at w₁))) lens₀
        → hit_places (table_of b) s (run_stretches (take (length (table_of b).transition_bins) lens)) ≡ places_from is_set 0 (flags_after (table_of b) s w)
    unfolding flags_after
    places-found w₁ lens₀ lens e₁ h e₂ =
        let bins = (table_of b).transition_bins in
        let there : take (run_total (table_of b)) (drop at w₁) ≡ runs_after (table_of b) s w =
        ap (λ (l : List ℕ). take (run_total (table_of b)) (drop at l)) e₁ ∙ part-put at (run_total (table_of b)) (runs_after (table_of b) s w) w (runs_after_length (table_of b) good s w long widths) runs-room in
        let told : take (length bins) lens ≡ all_lengths bins (runs_after (table_of b) s w) =
        ap (take (length bins)) e₂ ∙ front-put (length bins) (all_lengths bins (take (run_total (table_of b)) (drop at w₁))) lens₀ (length-lengths bins _) (omega (arith, transitions_few)) ∙ ap (all_lengths bins) there in
        ap (λ (ls : List ℕ). hit_places (table_of b) s (run_stretches ls)) told ∙ places_flagged (table_of b) s (run_stretches (all_lengths bins (runs_after (table_of b) s w)))

-- where the sum of the words begins that follow the counts
pub runs-at : (b : List ℕ) → accepted b ≡ true → (n : ℕ) → n ≡ (layout_of b).point_count → (k : ℕ) → k ≡ counter_total (table_of b) → 2 + k + n ≡ 2 + counter_total (table_of b) + point_total (table_of b)
runs-at b ok n e k ek = ap₂ (λ (i j : ℕ). 2 + i + j) ek (points-total b ok n e)
