-- What the calls ask for and write, for a point of an accepted table.
-- Assumes nothing.
use mathlib.Core.Path.{◌≡◌, refl, sym, ap, ◌∙◌}
use mathlib.Core.Bool.{Bool, true, false, cond}
use mathlib.Core.List.{List, [], ◌∷◌, ◌++◌}
use Prim.Native.Nat.{ℕ, zero, suc, ◌+◌, ◌-◌, ◌^◌, ◌≤◌, ◌<◌}
use native.Mathlib.Omega.{arith}
use lib.Dec.{eqb}
use lib.ListN.{length, get_or, take, drop, replicate, length-append, length-map, length-take, length-drop}
use lib.Seq.{get_or-take, get_or-drop}
use Rattle.model.specs.Lists.{as_bit}
use Rattle.model.specs.Table.{ValueBin, TransitionBin, Kind, cover, ignore, illegal, default, Table}
use Rattle.model.specs.Counters.{Counter, listed_value, value_counters, auto_counters, transition_counter, transition_counters, point_counters}
use Rattle.model.specs.Sampling.{reading, is_in, is_skipped, Stretches, cover_hit, hits}
use Rattle.model.specs.Format.{accepted, table_of}
use Rattle.model.specs.Raw.{bins_at}
use Rattle.model.specs.Register.{point_total, in_widths, run_stretches}
use Rattle.model.proofs.Readers.{All}
use Rattle.model.proofs.Sections.{accepted_decodes}
use Rattle.model.proofs.RawExact.{few_points}
use Rattle.layout.specs.declared.Layout.{Layout}
use Rattle.layout.specs.Places.{layout_of}
use Rattle.arrays.specs.Put.{put}
use Rattle.arrays.proofs.PutLaws.{front-put}
use Rattle.arrays.specs.Flat.{hit_flags, covers, point_start, reading_code, reading_from}
use Rattle.arrays.specs.declared.reading.Reading as code
use Rattle.arrays.specs.declared.reading.Reading.TheVariants.{Known}
use Rattle.values.specs.Listed.{listed_in}
use Rattle.values.proofs.PointExact.{bins_raw, few_counters}
use Rattle.places.specs.Places.{places_from, is_set, hit_parts}
use Rattle.places.proofs.PlaceLaws.{places-map, places-agree, places-few, places-below}
use Rattle.points.specs.Hits.{value_hits, transition_hits}
use Rattle.points.specs.Transitions.{transition_flags}
use Rattle.points.proofs.ValueLaws.{code-known, hits-none}
use Rattle.points.proofs.TransitionExact.{transition-hits}
use Rattle.points.proofs.AllLaws.{skip_code, few_bins}
use Rattle.points.proofs.KindExact.{start_low}
use Rattle.hits.specs.Places.{value_places, transition_start, transition_places, FoundOf, PlacesOf, PlainsOf, elements_at, Inside}
use Rattle.hits.specs.Plains.{plain_hits}
use Rattle.hits.proofs.ValueExact.{value_found, value-plain, value-bare}

-- ---- from flags

bit-set : (b : Bool) → is_set (as_bit b) ≡ b
bit-set true = refl
bit-set false = refl

all_same : {A : Type 0} (f g : A → Bool) → ((x : A) → f x ≡ g x) → (xs : List A) → All (λ x. f x ≡ g x) xs
all_same f g h [] = tt
all_same f g h (x ∷ xs) = (h x, all_same f g h xs)

flag-places : (t : Table) (w : List ℕ) (m : Stretches) (n : ℕ) (cs : List Counter) → places_from is_set n (hit_flags t w m cs) ≡ places_from (hits t w m) n cs
unfolding hit_flags
flag-places t w m n cs =
    places-map is_set (λ c. as_bit (hits t w m c)) n cs
    ∙ places-agree (λ c. is_set (as_bit (hits t w m c))) (hits t w m) n cs (all_same (λ c. is_set (as_bit (hits t w m c))) (hits t w m) (λ c. bit-set (hits t w m c)) cs)

no-flags : (n k : ℕ) → places_from is_set n (replicate k 0) ≡ []
unfolding places_from
no-flags n zero = refl
no-flags n (suc k) = no-flags (suc n) k

-- ---- the cover bins that are found

all-get : (P : ℕ → Type 0) (xs : List ℕ) → All P xs → (i : ℕ) → i < length xs → P (get_or xs i 0)
all-get P [] h i k = absurd (omega arith)
all-get P (x ∷ xs) h zero k = h.0
all-get P (x ∷ xs) h (suc i) k = all-get P xs h.1 i (omega arith)

module _ (t : Table) (w : List ℕ) (p : ℕ) (f : List ℕ) (found : FoundOf t w p f) where
  pub found_within : 1 ≤ length f → get_or f 0 0 < length f
  found_within h = omega (arith, found.count, ap length found.parts, length-take (length (hit_parts t w p)) (drop 1 f), length-drop 1 f)

  pub found_inside : (a : List ℕ) → length (covers t p) ≤ length a → Inside f (get_or f 0 0) (length a)
  unfolding Inside hit_parts
  found_inside a h i k =
      let n = found.count in
      let e = sym (get_or-drop 1 f i 0) ∙ sym (get_or-take (length (hit_parts t w p)) (drop 1 f) i 0 (omega arith)) ∙ ap (λ (l : List ℕ). get_or l i 0) found.parts in
      let b = all-get (λ k. k < 0 + length (covers t p)) (hit_parts t w p) (places-below (cover_hit t w) 0 (covers t p)) i (omega arith) in
      omega arith

  pub found_places : (a : List ℕ) → PlacesOf t p a → (get_or f 0 0 ≡ 0 → ⊥) → value_places t w p ≡ elements_at a (take (get_or f 0 0) (drop 1 f))
  found_places a h e =
      value_found t w p a h (some (get_or f 0 0) e found.count)
      ∙ ap (elements_at a) (sym found.parts ∙ ap (λ (n : ℕ). take n (drop 1 f)) (sym found.count))
    where
      some : (n : ℕ) → (n ≡ 0 → ⊥) → n ≡ length (hit_parts t w p) → 0 < length (hit_parts t w p)
      some zero e z = absurd (e refl)
      some (suc n) e z = omega arith

  pub found_length : (a : List ℕ) → length (elements_at a (take (get_or f 0 0) (drop 1 f))) ≡ get_or f 0 0
  unfolding elements_at
  found_length a =
      length-map (take (get_or f 0 0) (drop 1 f)) (λ k. get_or a k 0)
      ∙ ap (λ (n : ℕ). length (take n (drop 1 f))) found.count ∙ ap length found.parts ∙ sym found.count

-- ---- a point of an accepted table

module _ (s w : List ℕ) (ok : accepted s ≡ true) (p : ℕ) (inside : p < point_total (table_of s)) where
  counters_few : length (point_counters (table_of s) p) ≤ 256
  counters_few = few_counters s (table_of s) (accepted_decodes s ok) p inside

  pub values_few : length (value_places (table_of s) w p) ≤ 256
  unfolding value_places point_counters
  values_few =
      let t = table_of s in
      let cs = value_counters t p 0 t.value_bins ++ auto_counters t p in
      omega (arith, places-few (hits t w (run_stretches [])) (point_start t p) cs, counters_few, length-append cs (transition_counters p 0 t.transition_bins))

  module _ (widths : in_widths (table_of s) w ≡ true) (x : code.Reading) (is : x ≡ reading_code (reading (table_of s) w p)) where
    pub no-value-hit : ((f : ℕ → Bool) → is_in f (reading_from x) ≡ false) → value_places (table_of s) w p ≡ []
    unfolding value_places value_hits
    no-value-hit h =
        let t = table_of s in
        let cs = value_counters t p 0 t.value_bins ++ auto_counters t p in
        sym (flag-places t w (run_stretches []) (point_start t p) cs)
        ∙ ap (places_from is_set (point_start t p)) (hits-none t w p x is h)
        ∙ no-flags (point_start t p) (length (value_hits t w p))

    module _ (none : length (hit_parts (table_of s) w p) ≡ 0) (a : List ℕ) (plains : PlainsOf (table_of s) p a) where
      pub bare-hit : length a ≡ 0 → value_places (table_of s) w p ≡ []
      bare-hit e = value-bare (table_of s) w p none a plains e

      pub plains-hit : (v : ℕ) → x ≡ Known v → (l : Layout) → l ≡ layout_of s
          → value_places (table_of s) w p ≡ plain_hits w p v (listed_in p v (bins_at s l.bins l.ranges l.bin_count)) a 0 (bins_at s l.bins l.ranges l.bin_count)
      unfolding layout_of listed_in listed_value
      plains-hit v e l z =
          value-plain (table_of s) w p none v (code-known (reading (table_of s) w p) v (sym e ∙ is)) a plains
          ∙ ap (λ (bs : List ValueBin). plain_hits w p v (listed_in p v bs) a 0 bs) (bins_raw s (table_of s) (accepted_decodes s ok) p inside)
          ∙ sym (ap (λ (x : Layout). plain_hits w p v (listed_in p v (bins_at s x.bins x.ranges x.bin_count)) a 0 (bins_at s x.bins x.ranges x.bin_count)) z)

-- ---- its transition bins

few_transitions : (p b : ℕ) (us : List TransitionBin) → length (transition_counters p b us) ≤ length us
unfolding transition_counters
few_transitions p b [] = omega arith
few_transitions p b (u ∷ us) = omega (arith, length-append (cond (eqb u.point p) (transition_counter b u.kind) []) (transition_counters p (suc b) us), go (eqb u.point p) u.kind, few_transitions p (suc b) us)
  where
    go : (c : Bool) (k : Kind) → length (cond c (transition_counter b k) []) ≤ 1
    go false k = omega arith
    go true cover = omega arith
    go true ignore = omega arith
    go true illegal = omega arith
    go true default = omega arith

module _ (s w lens : List ℕ) (ok : accepted s ≡ true) (widths : in_widths (table_of s) w ≡ true) (words : (j : ℕ) → get_or lens j 0 < 2 ^ 32) (p : ℕ) (inside : p < point_total (table_of s)) (l : Layout) (e : l ≡ layout_of s) (x : code.Reading) (is : x ≡ reading_code (reading (table_of s) w p)) where
  flags_are : transition_flags s w lens p (is_skipped (reading_from x)) l.transitions l.transition_count ≡ transition_hits (table_of s) w (take (length (table_of s).transition_bins) lens) p
  flags_are =
      ap (λ (b : Bool). transition_flags s w lens p b l.transitions l.transition_count) (skip_code (reading (table_of s) w p) x is)
      ∙ sym (transition-hits s w lens ok words p l e)

  flags_length : length (transition_flags s w lens p (is_skipped (reading_from x)) l.transitions l.transition_count) ≡ length (transition_counters p 0 (table_of s).transition_bins)
  unfolding transition_hits hit_flags
  flags_length = ap length flags_are ∙ length-map (transition_counters p 0 (table_of s).transition_bins) (λ c. as_bit (hits (table_of s) w (run_stretches (take (length (table_of s).transition_bins) lens)) c))

  pub flags_few : length (transition_flags s w lens p (is_skipped (reading_from x)) l.transitions l.transition_count) ≤ 64
  flags_few = omega (arith, flags_length, few_transitions p 0 (table_of s).transition_bins, few_bins s w lens ok widths words p inside)

  -- from where the point's counters end, back by the number of flags
  pub base_is : (end n : ℕ) → end ≡ transition_start (table_of s) p + length (transition_counters p 0 (table_of s).transition_bins) → n ≡ 0 + length (transition_flags s w lens p (is_skipped (reading_from x)) l.transitions l.transition_count) → (n ≤ end) × (end - n ≡ transition_start (table_of s) p)
  base_is end n e z = (omega (arith, flags_length), omega (arith, flags_length))

  pub places_small : transition_start (table_of s) p + length (transition_flags s w lens p (is_skipped (reading_from x)) l.transitions l.transition_count) ≤ 65535
  unfolding transition_start point_counters
  places_small =
      let t = table_of s in
      let vs = value_counters t p 0 t.value_bins in
      let ts = transition_counters p 0 t.transition_bins in
      omega (arith, flags_length, length-append (vs ++ auto_counters t p) ts, length-append vs (auto_counters t p), few_counters s t (accepted_decodes s ok) p inside, start_low s ok p (omega arith), few_points s ok)

  pub transitions_hit : (n : ℕ) (flags : List ℕ) → n ≡ 0 + length (transition_flags s w lens p (is_skipped (reading_from x)) l.transitions l.transition_count) → 64 ≤ length flags
      → places_from is_set (transition_start (table_of s) p) (take n (put 0 (transition_flags s w lens p (is_skipped (reading_from x)) l.transitions l.transition_count) flags))
      ≡ transition_places (table_of s) w (take (length (table_of s).transition_bins) lens) p
  unfolding transition_places transition_hits
  transitions_hit n flags z room =
      let t = table_of s in
      let xs = transition_flags s w lens p (is_skipped (reading_from x)) l.transitions l.transition_count in
      ap (places_from is_set (transition_start t p)) (front-put n xs flags (omega arith) (omega (arith, flags_few)) ∙ flags_are)
      ∙ flag-places t w (run_stretches (take (length t.transition_bins) lens)) (transition_start t p) (transition_counters p 0 t.transition_bins)
