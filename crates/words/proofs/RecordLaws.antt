-- Records in a row: the verdict on them, and on one, from what calls say of each.
-- Assumes nothing.
use Rattle.std.proofs.Common.{Result, Ok, Err, ◌≡◌, refl, ap, ℕ, ◌+◌, ◌≤◌, List, length, sym, ◌∙◌}
use Rattle.model.specs.Format.{Test, read_record, times}
use Rattle.words.specs.Verdicts.{Verdict, verdict_of, pass}
use Rattle.words.specs.Records.{TestsOf, RecordsOf}
use Rattle.words.specs.declared.verdicts.Fault.{Fault}
use Rattle.words.proofs.Laws.{tests_stop, tests_on, record_whole, verdict_record}
use Rattle.words.proofs.Flat.{times-same}

-- the verdict, where the tests are those that are made; what the records' reader says besides is forgotten
pub records_read : {A : Type 0} {said : ℕ → Result Unit Fault → Type 0} (s : List ℕ) (size : ℕ) (tests : ℕ → List Test) (says : ℕ → A) (n at : ℕ) (r : Verdict)
    → RecordsOf said s size n at r → TestsOf said s size tests → r ≡ verdict_of (times n (read_record s size tests says) at)
records_read s size tests says n at r e h =
    e tests h
    ∙ times-same (read_record s size tests (λ place. place)) (read_record s size tests says)
    (λ p. verdict_record s size tests (λ place. place) p ∙ sym (verdict_record s size tests says p)) n at

module _ (said : ℕ → Result Unit Fault → Type 0) (s : List ℕ) (size : ℕ) (tests : ℕ → List Test) (h : TestsOf said s size tests) (at : ℕ) (w : at + size ≤ length s) where
  pub record_fails : (f : Fault) → said at (Err f) → Err f ≡ verdict_of (read_record s size tests (λ place. place) at)
  record_fails f e = record_whole s size tests (λ place. place) at (Err f) w (tests_stop (tests at) (Ok (at + size)) f (h at (Err f) w e))

  pub record_passes : (end : ℕ) → end ≡ at + size → said at pass → Ok end ≡ verdict_of (read_record s size tests (λ place. place) at)
  record_passes end y e =
      ap (λ (x : ℕ). Ok x) y ∙ record_whole s size tests (λ place. place) at (Ok (at + size)) w (tests_on (tests at) (Ok (at + size)) (Ok (at + size)) (h at pass w e) refl)
