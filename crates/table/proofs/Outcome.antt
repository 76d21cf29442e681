-- What the whole check says, from what the sections and the limits say.
-- Assumes nothing.
use Prim.Native.Nat.{ℕ, suc, ◌≤◌, ◌<◌}
use mathlib.Core.Path.{◌≡◌, refl, sym, ap, ◌∙◌}
use mathlib.Core.Bool.{Bool, true, false, cond}
use mathlib.Core.List.{List}
use native.Mathlib.Omega.{arith}
use lib.Dec.{eqb}
use lib.ListN.{length}
use borrow.Author.Tests.{le-leb, lt-leb, eq-eqb, ne_eqb}
use Rattle.model.specs.Table.{Table}
use Rattle.model.specs.Format as model
use Rattle.model.specs.Counters.{within_limits}
use Rattle.model.specs.Format.{leftover, Read, refused, got, read_table, Outcome, rejected, decoded, limited, whole_read, decode}
use Rattle.model.specs.Raw.{count_place, raw_table}
use Rattle.model.proofs.RawExact.{table_placed}
use Rattle.std.proofs.Common.{Ok, Err, Some, None}
use Rattle.words.specs.Verdicts.{class_of, fault_at, verdict_of}
use Rattle.words.specs.declared.verdicts.Fault.{Fault}
use Rattle.words.specs.declared.verdicts.FaultClass.TheVariants.{TooLong, Leftover, Limits}
use Rattle.words.proofs.Chain.{says-sound}
use Rattle.model.specs.Register.{counter_total}
use Rattle.limits.specs.Tallies.{counters_within}
use Rattle.table.specs.Check.{outcome_verdict, checked}

module _ (s : List ℕ) where
  pub too_long : 65536 < length s → Err (fault_at TooLong 0) ≡ checked s
  unfolding checked decode outcome_verdict
  too_long h = rw (lt-leb (length s) 65536 h)

  module _ (h : length s ≤ 65536) where
    whole : checked s ≡ outcome_verdict (length s) (whole_read (length s) (read_table s 0))
    unfolding checked decode
    whole = rw (le-leb (length s) 65536 h)

    pub sections-stop : (f : Fault) → Err f ≡ verdict_of (read_table s 0) → Err f ≡ checked s
    unfolding verdict_of outcome_verdict
    sections-stop f e = go (read_table s 0) e ∙ sym whole
      where
        go : (m : Read Table) → Err f ≡ verdict_of m → Err f ≡ outcome_verdict (length s) (whole_read (length s) m)
        go (refused g) e = e
        go (got t at) e = absurd (cc)

    module _ (end : ℕ) (e : Ok end ≡ verdict_of (read_table s 0)) where
      read : (read_table s 0 ≡ got (raw_table s) end) × (end ≡ count_place s 10)
      read = let y = says-sound (read_table s 0) (raw_table s) (count_place s 10) (length s) end (table_placed s) e in (y.0 ∙ ap (got (raw_table s)) (sym y.1), y.1)

      outcome : checked s ≡ outcome_verdict (length s) (cond (eqb end (length s)) (limited (length s) (raw_table s)) (rejected (record { class = leftover; at = end })))
      outcome = whole ∙ ap (λ (m : Read Table). outcome_verdict (length s) (whole_read (length s) m)) read.0

      pub left_over : (end ≡ length s → ⊥) → Err (fault_at Leftover end) ≡ checked s
      unfolding outcome_verdict
      left_over n = sym (outcome ∙ rw (ne_eqb end (length s) n))

      module _ (y : end ≡ length s) where
        pub readable : read_table s 0 ≡ got (raw_table s) (length s)
        readable = read.0 ∙ ap (got (raw_table s)) y

        last : checked s ≡ outcome_verdict (length s) (limited (length s) (raw_table s))
        last = outcome ∙ rw (eq-eqb end (length s) y)

        pub all-passed : within_limits (raw_table s) ≡ true → Ok (length s) ≡ checked s
        unfolding outcome_verdict
        all-passed e = sym (last ∙ rw e)

        pub over-limits : within_limits (raw_table s) ≡ false → Err (fault_at Limits (length s)) ≡ checked s
        unfolding outcome_verdict
        over-limits e = sym (last ∙ rw e)

-- what a verdict tells of the outcome
pub accepted_outcome : (s : List ℕ) (end : ℕ) → Ok end ≡ checked s → (P : Type 0) → ((t : Table) → decode s ≡ decoded t → P) → P
unfolding checked outcome_verdict
accepted_outcome s end e P k = go (decode s) refl e
  where
    go : (o : Outcome) → decode s ≡ o → Ok end ≡ outcome_verdict (length s) o → P
    go (rejected f) d e = absurd (cc)
    go (decoded t) d e = k t d

pub refused_outcome : (s : List ℕ) (x : Fault) → Err x ≡ checked s → (P : Type 0) → ((f : model.Fault) → decode s ≡ rejected f → x ≡ fault_at (class_of f.class) f.at → P) → P
unfolding checked outcome_verdict
refused_outcome s x e P k = go (decode s) refl e
  where
    go : (o : Outcome) → decode s ≡ o → Err x ≡ outcome_verdict (length s) o → P
    go (rejected f) d e = k f d (let y : x ≡ fault_at (class_of f.class) f.at = cc in y)
    go (decoded t) d e = absurd (cc)

-- ---- the limits, by the counters that are told where they hold

pub within-known : (t : Table) (n : ℕ) → Some n ≡ counters_within t → (within_limits t ≡ true) × (n ≡ counter_total t)
within-known t n e = go (within_limits t) e
  where
    go : (b : Bool) → Some n ≡ cond b (Some (counter_total t)) None → (b ≡ true) × (n ≡ counter_total t)
    go true h = (refl, cc)
    go false h = absurd (cc)

pub limits-broken : (t : Table) → None ≡ counters_within t → within_limits t ≡ false
limits-broken t e = go (within_limits t) e
  where
    go : (b : Bool) → None ≡ cond b (Some (counter_total t)) None → b ≡ false
    go true h = absurd (cc)
    go false h = refl
