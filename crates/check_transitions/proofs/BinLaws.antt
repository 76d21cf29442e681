-- Sections 4 to 7, one after the other.
-- Assumes nothing.
use Prim.Native.Nat.{ℕ, ◌+◌, ◌*◌, ◌<◌, ◌≤◌}
use mathlib.Core.Path.{◌≡◌, sym, ap, ◌∙◌, subst}
use mathlib.Core.List.{List}
use native.Mathlib.Omega.{arith}
use lib.ListN.{length}
use borrow.Author.Tests.{ltb-true}
use Rattle.model.specs.Table.{TransitionBin}
use Rattle.model.specs.Format.{Reader, got, ◌>>=◌, times, byte, u16, section_count, point_record, TransitionHead, transition_tests, transition_head, read_transition, read_transition_section, read_sequence_section, read_step_section, read_step_range_section, read_transition_bins}
use Rattle.model.specs.Raw.{rows, points_at, length_heads_at, transition_heads_at}
use Rattle.model.proofs.Readers.{bind_elim, got_record}
use Rattle.model.proofs.Readers as readers
use Rattle.model.proofs.RawLaws.{Says, length-rows}
use Rattle.model.proofs.RawTransitions.{transitions_raw, sequences_raw, steps_raw}
use Rattle.std.proofs.Common.{Ok, Err}
use Rattle.words.specs.Verdicts.{Verdict, verdict_of}
use Rattle.words.specs.declared.verdicts.Fault.{Fault}
use Rattle.words.proofs.Laws.{sound-got}
use Rattle.words.proofs.Chain.{bind_stop}
use Rattle.words.proofs.Chain.{says-sound, says_on}
use Rattle.words.specs.Points.{PointsBelow}

-- ---- a transition bin that is sound names a point

points_in : (s : List ℕ) (points n at : ℕ) {hs : List (TransitionHead ℕ)} {end : ℕ} → times n (read_transition s points) at ≡ got hs end → PointsBelow s 4 at n points
unfolding read_transition
points_in s points n at {hs} {end} e i h =
    let r = readers.rows (read_transition s points) 4 (transition_head s 0) (λ at next a e. (got_record s 4 (transition_tests s points) (transition_head s) at e).ends) n at hs end e in
    let w = got_record s 4 (transition_tests s points) (transition_head s) (at + i * 4) (r.row i h) in
    subst (λ (p : ℕ). byte s p < points) (let y : at + i * 4 ≡ at + 4 * i = omega arith in y) (ltb-true _ _ w.passed.0)

pub points-below : (s : List ℕ) (np n at end : ℕ) → Ok end ≡ verdict_of (read_transition_section s np at) → n ≡ u16 s at → PointsBelow s 4 (at + 2) n np
unfolding read_transition_section
points-below s np n at end e en =
    sound-got _ end e λ hs g. bind_elim (section_count s 0 64) (λ n. times n (read_transition s np)) at g λ m next e₁ e₂.
    let r = got_record s 2 _ (u16 s) at e₁ in
    let em : m ≡ n = sym r.said ∙ sym en in
    let en₂ : next ≡ at + 2 = r.ends in
    points_in s np n (at + 2) (ap (λ (k : ℕ). times k (read_transition s np) (at + 2)) (sym em) ∙ ap (times m (read_transition s np)) (sym en₂) ∙ e₂)

-- ---- where a section that is sound ends

pub bins_end : (s : List ℕ) (np n at end : ℕ) → Ok end ≡ verdict_of (read_transition_section s np at) → n ≡ u16 s at → (end ≡ at + 2 + 4 * n) × (end ≤ length s)
bins_end s np n at end e en = let h = says-sound _ _ _ _ end (transitions_raw s np at) e in let y = h.1 in let l = h.2 in (y ∙ ap (λ (k : ℕ). at + 2 + 4 * k) (sym en), omega arith)

pub sequences-end : (s : List ℕ) (b n at end : ℕ) → Ok end ≡ verdict_of (read_sequence_section s (rows (transition_head s) 4 b n) at)
    → (end ≡ at + 2 + u16 s at) × (end ≤ length s)
sequences-end s b n at end e = let h = says-sound _ _ _ _ end (sequences_raw s b n at) e in let y = h.1 in let l = h.2 in (y, omega arith)

pub steps_end : (s : List ℕ) (b q n at end : ℕ) → Ok end ≡ verdict_of (read_step_section s (length_heads_at s b q n) at)
    → (end ≡ at + 2 + 3 * u16 s at) × (end ≤ length s)
steps_end s b q n at end e = let h = says-sound _ _ _ _ end (steps_raw s b q n at) e in let y = h.1 in let l = h.2 in (y, omega arith)

-- ---- one section after the other: sections 4 to 6 end at fifth, sixth and seventh

module _ (s : List ℕ) (points np at : ℕ) where
  bins_are : {r : Verdict} → r ≡ verdict_of (read_transition_section s np at) → r ≡ verdict_of (read_transition_section s (length (points_at s points np)) at)
  bins_are e = e ∙ ap (λ (k : ℕ). verdict_of (read_transition_section s k at)) (sym (length-rows (point_record s) 11 points np))

  pub stop_bins : (f : Fault) → Err f ≡ verdict_of (read_transition_section s np at) → Err f ≡ verdict_of (read_transition_bins s (points_at s points np) at)
  unfolding read_transition_bins
  stop_bins f e = bind_stop (read_transition_section s (length (points_at s points np))) _ at f (bins_are e)

  module _ (fifth n : ℕ) (ea : Ok fifth ≡ verdict_of (read_transition_section s np at)) (en : n ≡ u16 s at) where
    heads-say : Says (read_transition_section s (length (points_at s points np)) at) (rows (transition_head s) 4 (at + 2) n) (at + 2 + 4 * n) (length s)
    heads-say =
        subst (λ (k : ℕ). Says (read_transition_section s (length (points_at s points np)) at) (rows (transition_head s) 4 (at + 2) k) (at + 2 + 4 * k) (length s)) (sym en)
        (transitions_raw s (length (points_at s points np)) at)

    -- what follows section 4
    on-bins : (k : List (TransitionHead ℕ) → Reader (List TransitionBin)) (y : Verdict) → y ≡ verdict_of (k (rows (transition_head s) 4 (at + 2) n) fifth)
        → y ≡ verdict_of (◌>>=◌ (read_transition_section s (length (points_at s points np))) k at)
    on-bins k y h = says_on (read_transition_section s (length (points_at s points np))) k at _ _ _ fifth y heads-say (bins_are ea) h

    pub stop-sequences : (f : Fault) → Err f ≡ verdict_of (read_sequence_section s (rows (transition_head s) 4 (at + 2) n) fifth) → Err f ≡ verdict_of (read_transition_bins s (points_at s points np) at)
    unfolding read_transition_bins
    stop-sequences f e = on-bins _ (Err f) (bind_stop (read_sequence_section s (rows (transition_head s) 4 (at + 2) n)) _ fifth f e)

    module _ (sixth : ℕ) (eb : Ok sixth ≡ verdict_of (read_sequence_section s (rows (transition_head s) 4 (at + 2) n) fifth)) where
      pub stop-steps : (f : Fault) → Err f ≡ verdict_of (read_step_section s (length_heads_at s (at + 2) (fifth + 2) n) sixth) → Err f ≡ verdict_of (read_transition_bins s (points_at s points np) at)
      unfolding read_transition_bins
      stop-steps f e =
          on-bins _ (Err f)
          (says_on (read_sequence_section s (rows (transition_head s) 4 (at + 2) n)) _ fifth _ _ _ sixth (Err f) (sequences_raw s (at + 2) n fifth) eb
          (bind_stop (read_step_section s (length_heads_at s (at + 2) (fifth + 2) n)) _ sixth f e))

      pub on-steps : (seventh : ℕ) → Ok seventh ≡ verdict_of (read_step_section s (length_heads_at s (at + 2) (fifth + 2) n) sixth)
          → (r : Verdict) → r ≡ verdict_of (read_step_range_section s (points_at s points np) (transition_heads_at s (at + 2) (fifth + 2) (sixth + 2) n) seventh)
          → r ≡ verdict_of (read_transition_bins s (points_at s points np) at)
      unfolding read_transition_bins
      on-steps seventh ec r h =
          on-bins _ r
          (says_on (read_sequence_section s (rows (transition_head s) 4 (at + 2) n)) _ fifth _ _ _ sixth r (sequences_raw s (at + 2) n fifth) eb
          (says_on (read_step_section s (length_heads_at s (at + 2) (fifth + 2) n)) _ sixth _ _ _ seventh r (steps_raw s (at + 2) (fifth + 2) n sixth) ec h))
