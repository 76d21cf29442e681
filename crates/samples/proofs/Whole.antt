-- The parts of what a sample writes, put together: from what `find_hits` found to the model's words and report.
-- Assumes nothing.
use mathlib.Core.Path.{◌≡◌, sym, ap, ap₂, ◌∙◌, subst}
use mathlib.Core.Bool.{true}
use mathlib.Core.List.{List}
use Prim.Native.Nat.{ℕ, ◌+◌, ◌≤◌}
use native.Mathlib.Omega.{arith}
use lib.ListN.{length, take}
use Rattle.model.specs.Format.{accepted, table_of}
use Rattle.model.specs.Register.{counter_total, point_total, sampled_words, sampled_report}
use Rattle.arrays.specs.Put.{put}
use Rattle.arrays.specs.declared.reading.Reading as code
use Rattle.arrays.specs.Flat.{reading_codes}
use Rattle.samples.specs.Writes.{sample_refusal, runs_after, flags_after, report_of, counts_after, Countable}
use Rattle.arrays.proofs.PutLaws.{front_kept}
use Rattle.samples.proofs.FindLaws.{good}
use Rattle.samples.proofs.Passed.{all-passed}
use Rattle.samples.proofs.WriteLaws.{flags-after-length, codes-length, report-length, report-exact, countable, words-exact}

module _ (b : List ℕ) (ok : accepted b ≡ true) (s w r : List ℕ) (tested : sample_refusal (table_of b) s w r ≡ 0)
    (k p : ℕ) (ek : k ≡ counter_total (table_of b)) (ep : p ≡ point_total (table_of b))
    (w₁ f₀ f : List ℕ) (c₀ c : List code.Reading)
    (ew : w₁ ≡ put (2 + k + p) (runs_after (table_of b) s w) w)
    (ef : f ≡ put 0 (flags_after (table_of b) s w) f₀) (kf : length f ≡ length f₀)
    (ec : c ≡ put 0 (reading_codes (table_of b) s) c₀) (kc : length c ≡ length c₀) where
  flags_front : (take k f ≡ flags_after (table_of b) s w) × (k ≤ length f)
  flags_front = front_kept k (flags_after (table_of b) s w) f₀ f (flags-after-length (table_of b) s w ∙ sym ek) ef kf

  codes_front : (take p c ≡ reading_codes (table_of b) s) × (p ≤ length c)
  codes_front = front_kept p (reading_codes (table_of b) s) c₀ c (codes-length (table_of b) s ∙ sym ep) ec kc

  pub flags_room : k ≤ length f
  flags_room = flags_front.1

  pub codes_room : p ≤ length c
  codes_room = codes_front.1

  runs_there : w₁ ≡ put (2 + counter_total (table_of b) + point_total (table_of b)) (runs_after (table_of b) s w) w
  runs_there = ew ∙ ap₂ (λ (x y : ℕ). put (2 + x + y) (runs_after (table_of b) s w) w) ek ep

  pub countable_now : Countable k p w₁
  countable_now =
      let g = all-passed (table_of b) s w r tested in
      subst (λ (n : ℕ). Countable n p w₁) (sym ek)
      (subst (λ (n : ℕ). Countable (counter_total (table_of b)) n w₁) (sym ep)
      (countable (table_of b) (good b ok) s w g.long g.widths w₁ runs_there g.counts g.unknowns g.samples))

  pub report_room : length (report_of (table_of b) (take k f)) ≤ length r
  report_room =
      let g = all-passed (table_of b) s w r tested in
      omega (arith, g.reported, ap (λ (l : List ℕ). length (report_of (table_of b) l)) flags_front.0, report-length (table_of b) s w)

  pub words_whole : (w₂ : List ℕ) → w₂ ≡ put 1 (counts_after k p f c w₁) w₁ → w₂ ≡ sampled_words (table_of b) s w
  words_whole w₂ e =
      let g = all-passed (table_of b) s w r tested in
      words-exact (table_of b) (good b ok) s w g.long g.widths w₁ runs_there f c w₂
      (ap (λ (n : ℕ). take n f) (sym ek) ∙ flags_front.0) (ap (λ (n : ℕ). take n c) (sym ep) ∙ codes_front.0)
      (e ∙ ap₂ (λ (x y : ℕ). put 1 (counts_after x y f c w₁) w₁) ek ep)

  pub report_whole : (r₁ : List ℕ) → r₁ ≡ put 0 (report_of (table_of b) (take k f)) r → r₁ ≡ sampled_report (table_of b) s w r
  report_whole r₁ e = e ∙ ap (λ (l : List ℕ). put 0 (report_of (table_of b) l) r) flags_front.0 ∙ report-exact (table_of b) s w r
