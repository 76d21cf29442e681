-- From the places that were found to the model's words and report.
-- Assumes nothing.
use mathlib.Core.Path.{◌≡◌, refl, sym, ap, ap₂, ◌∙◌, subst}
use mathlib.Core.Bool.{true}
use mathlib.Core.List.{List}
use Prim.Native.Nat.{ℕ, ◌+◌, ◌-◌, ◌*◌, ◌≤◌, ◌<◌}
use native.Mathlib.Nat.{zero-add}
use native.Mathlib.Omega.{arith}
use lib.ListN.{length, get_or, take, drop}
use lib.Seq.{take-length}
use Rattle.model.specs.Counters.{counters}
use Rattle.model.specs.Format.{accepted, table_of}
use Rattle.model.specs.Register.{counter_total, point_total, sampled_words, sampled_report}
use Rattle.model.proofs.Readers.{All}
use Rattle.arrays.specs.Put.{put}
use Rattle.arrays.specs.declared.reading.Reading as code
use Rattle.arrays.specs.Flat.{kind_of, reading_codes}
use Rattle.arrays.proofs.PutLaws.{put_all, front_kept}
use Rattle.places.specs.Places.{ascending, is_set, of_kind, places_from, illegal_places}
use Rattle.places.proofs.PlaceLaws.{ascending-places, places-below}
use Rattle.lists.specs.Lists.{illegals_at, Ready}
use Rattle.samples.specs.Listed.{hit_bits}
use Rattle.samples.specs.Writes.{sample_refusal, runs_after, flags_after, report_of, counts_after, Countable}
use Rattle.samples.proofs.Passed.{all-passed}
use Rattle.samples.proofs.ReportLaws.{report-places, illegal-many}
use Rattle.samples.proofs.WriteLaws.{flags-after-length}
use Rattle.samples.proofs.Whole.{countable_now, codes_room, words_whole, report_whole}

module _ (b : List ℕ) (ok : accepted b ≡ true) (s w r : List ℕ) (tested : sample_refusal (table_of b) s w r ≡ 0) (plan lists : List ℕ) (ready : Ready (table_of b) plan lists)
    (n k : ℕ) (en : n ≡ point_total (table_of b)) (ek : k ≡ get_or lists 63 0)
    (w₁ : List ℕ) (ew : w₁ ≡ put (2 + counter_total (table_of b) + point_total (table_of b)) (runs_after (table_of b) s w) w)
    (m : ℕ) (h₀ h : List ℕ) (em : m ≡ length (places_from is_set 0 (flags_after (table_of b) s w))) (eh : h ≡ put 0 (places_from is_set 0 (flags_after (table_of b) s w)) h₀) (kh : length h ≡ length h₀)
    (c₀ c : List code.Reading) (ec : c ≡ put 0 (reading_codes (table_of b) s) c₀) (kc : length c ≡ length c₀) where
  fs : List ℕ
  fs = flags_after (table_of b) s w

  many : k ≡ counter_total (table_of b)
  many = ek ∙ ready.counters

  front : (take m h ≡ places_from is_set 0 (flags_after (table_of b) s w)) × (m ≤ length h)
  front = front_kept m (places_from is_set 0 (flags_after (table_of b) s w)) h₀ h (sym em) eh kh

  pub hits_in : m ≤ length h
  hits_in = front.1

  same : fs ≡ put 0 fs fs
  same = sym (put_all fs fs (omega arith))

  here : w₁ ≡ put (2 + k + n) (runs_after (table_of b) s w) w
  here = ew ∙ ap₂ (λ (i j : ℕ). put (2 + i + j) (runs_after (table_of b) s w) w) (sym many) (sym en)

  pub countable : Countable k n w₁
  unfolding fs
  countable = countable_now b ok s w r tested k n many en w₁ fs fs c₀ c here same refl ec kc

  pub codes_in : n ≤ length c
  unfolding fs
  codes_in = codes_room b ok s w r tested k n many en w₁ fs fs c₀ c here same refl ec kc

  pub in_order : ascending 0 (take m h) ≡ true
  in_order = ap (ascending 0) front.0 ∙ ascending-places is_set 0 (flags_after (table_of b) s w)

  long : length (flags_after (table_of b) s w) ≡ k
  long = flags-after-length (table_of b) s w ∙ sym many

  pub counted : All (λ x. x < k) (take m h)
  counted =
      subst (All (λ x. x < k)) (sym front.0)
      (subst (λ (i : ℕ). All (λ x. x < i) (places_from is_set 0 (flags_after (table_of b) s w))) (zero-add (length (flags_after (table_of b) s w)) ∙ long) (places-below is_set 0 (flags_after (table_of b) s w)))

  pub words_written : (w₂ : List ℕ) → ((gs : List ℕ) → length gs ≡ k → take m h ≡ places_from is_set 0 gs → w₂ ≡ put 1 (counts_after k n gs c w₁) w₁) → w₂ ≡ sampled_words (table_of b) s w
  unfolding fs
  words_written w₂ e = words_whole b ok s w r tested k n many en w₁ fs fs c₀ c here same refl ec kc w₂ (e (flags_after (table_of b) s w) long front.0)

  -- ---- the report

  module _ (q : ℕ) (eq : q ≡ get_or lists (81 + 514 * n) 0) where
    listed : q ≡ length (illegal_places (table_of b))
    listed = eq ∙ ap (λ (i : ℕ). get_or lists i 0) (let z : 81 + 514 * n ≡ illegals_at (point_total (table_of b)) = omega arith in z) ∙ ready.planned.illegals

    pub illegals-in : 81 + 514 * n + 1 + q ≤ length lists
    illegals-in = omega (arith, listed, ready.planned.room)

    part : List ℕ
    part = take ((81 + 514 * n + 1 + q) - (81 + 514 * n + 1)) (drop (81 + 514 * n + 1) lists)

    part_is : part ≡ illegal_places (table_of b)
    unfolding part
    part_is =
        ap₂ (λ (i j : ℕ). take i (drop j lists)) (let z : (81 + 514 * n + 1 + q) - (81 + 514 * n + 1) ≡ length (illegal_places (table_of b)) = omega (arith, listed) in z)
        (let z : 81 + 514 * n + 1 ≡ illegals_at (point_total (table_of b)) + 1 = omega arith in z)
        ∙ ready.planned.illegal

    pub report_room : length (take ((81 + 514 * n + 1 + q) - (81 + 514 * n + 1)) (drop (81 + 514 * n + 1) lists)) ≤ length r
    unfolding part
    report_room = omega (arith, ap length part_is, illegal-many (table_of b), (all-passed (table_of b) s w r tested).reported)

    pub illegals-order : ascending 0 (take ((81 + 514 * n + 1 + q) - (81 + 514 * n + 1)) (drop (81 + 514 * n + 1) lists)) ≡ true
    unfolding part illegal_places
    illegals-order = ap (ascending 0) part_is ∙ ascending-places (λ x. of_kind 2 (kind_of x)) 0 (counters (table_of b))

    pub report-written : (r₁ : List ℕ) → r₁ ≡ put 0 (hit_bits (take ((81 + 514 * n + 1 + q) - (81 + 514 * n + 1)) (drop (81 + 514 * n + 1) lists)) (take m h)) r → r₁ ≡ sampled_report (table_of b) s w r
    unfolding part fs
    report-written r₁ e =
        report_whole b ok s w r tested k n many en w₁ fs fs c₀ c here same refl ec kc r₁
        (e ∙ ap₂ (λ (i j : List ℕ). put 0 (hit_bits i j) r) part_is front.0 ∙ ap (λ (x : List ℕ). put 0 x r) (report-places (table_of b) s w)
        ∙ ap (λ (x : List ℕ). put 0 (report_of (table_of b) x) r) (sym (ap (λ (i : ℕ). take i (flags_after (table_of b) s w)) (sym long) ∙ take-length (flags_after (table_of b) s w))))
