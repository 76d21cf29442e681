-- The rows of the sequences and, behind them, the plan of the values.
-- Assumes nothing.
use mathlib.Core.Path.{◌≡◌, refl, sym, ap, ◌∙◌, subst}
use mathlib.Core.Bool.{true}
use mathlib.Core.List.{List, ◌++◌}
use Prim.Native.Nat.{ℕ, ◌-◌, ◌≤◌, ◌<◌}
use native.Mathlib.Omega.{arith}
use lib.ListN.{length, get_or, take, drop, set, length-set, length-drop, length-append}
use lib.Seq.{get_or-set_same, get_or-set_other, length-take-le}
use Rattle.model.specs.Table.{Table}
use Rattle.model.specs.Format.{accepted, table_of}
use Rattle.model.specs.Register.{point_total}
use Rattle.arrays.specs.Put.{put}
use Rattle.arrays.proofs.PutLaws.{front-put}
use Rattle.layout.specs.Places.{layout_of, transition_section_of}
use Rattle.layout.specs.declared.Section.{Section}
use Rattle.runs.specs.Rows.{sequence_rows, SequencesAt}
use Rattle.runs.proofs.Ready.{bins_counted}
use Rattle.lists.specs.Lists.{Ready}
use Rattle.lists.proofs.Fronts.{back-front, back-rest, lent_all, lent_length}
use Rattle.lists.proofs.PlannedLaws.{ready-set}
use Rattle.samples.specs.Prepared.{Prepared}
use borrow.Rule.Slice.PartMut.{put_mid}

-- what is lent behind the rows
pub lent : (t : Table) (plan lists : List ℕ) → Prepared t plan lists → (m : ℕ) → m ≡ get_or lists 62 0 → (m ≤ length plan) × Ready t (take (length plan - m) (drop m plan)) lists
unfolding SequencesAt
lent t plan lists p m e =
    let k = e ∙ p.rows in
    let fit : m ≤ length plan = omega (arith, k, p.sequences.1) in
    (fit, subst (λ (x : List ℕ). Ready t x lists) (sym (lent_all m plan fit ∙ ap (λ (n : ℕ). drop n plan) k)) p.ready)

-- the transition bins are as many as their section has
pub bins-told : (s : List ℕ) → accepted s ≡ true → (l : Section) → l ≡ transition_section_of s → l.count ≡ length (table_of s).transition_bins
bins-told s ok l e = ap (λ (x : Section). x.count) e ∙ bins_counted s ok (layout_of s) refl

-- the rows were put first, then the plan of the values z, then two elements of the lists
module _ (t : Table) (few : point_total t ≤ 16) (plan₀ plan₁ : List ℕ) (m : ℕ) (em : m ≡ length (sequence_rows t)) (fit : m ≤ length plan₀) (e₁ : plan₁ ≡ put 0 (sequence_rows t) plan₀) (same : length plan₁ ≡ length plan₀)
    (z lists : List ℕ) (ready : Ready t z lists) (size : length z ≡ length (take (length plan₁ - m) (drop m plan₁))) (b : ℕ) (eb : b ≡ length t.transition_bins) (room : 63 < length lists) where
  abbrev plan₂ : List ℕ
  plan₂ = put_mid m (length plan₁ - m) plan₁ z

  here : m ≤ length plan₁
  here = omega arith

  pub long : length plan₂ ≡ length plan₁
  long =
      let rest = drop (length plan₁ - m) (drop m plan₁) in
      omega (
        arith,
        length-append (take m plan₁) (z ++ rest),
        length-append z rest,
        length-take-le m plan₁ here,
        length-drop (length plan₁ - m) (drop m plan₁),
        length-drop m plan₁,
        size,
        lent_length m plan₁ here,
      )

  pub prepared : Prepared t plan₂ (set (set lists 61 b) 62 m)
  unfolding SequencesAt
  prepared = record {
    sequences = (ap (λ (n : ℕ). take n plan₂) (sym em) ∙ back-front m plan₁ here z ∙ ap (take m) e₁ ∙ front-put m (sequence_rows t) plan₀ (sym em) fit, omega (arith, em, long));
    bins = get_or-set_other (set lists 61 b) 62 61 m 0 (λ (e : 61 ≡ 62). omega arith) ∙ get_or-set_same lists 61 b 0 (omega arith) ∙ eb;
    rows = get_or-set_same (set lists 61 b) 62 m 0 (simp length-set (omega arith)) ∙ em;
    ready = subst (λ (x : List ℕ). Ready t x (set (set lists 61 b) 62 m)) (sym (ap (λ (n : ℕ). drop n plan₂) (sym em) ∙ back-rest m plan₁ here z))
        (ready-set t z (set lists 61 b) 62 m (omega arith) (omega arith) few (ready-set t z lists 61 b (omega arith) (omega arith) few ready));
  }
