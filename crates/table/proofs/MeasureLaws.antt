-- What a verdict tells of the table's facts, of measuring it, and of its sections.
-- Assumes nothing.
use Prim.Native.Nat.{ℕ, ◌+◌, ◌-◌, ◌≤◌}
use mathlib.Core.Path.{◌≡◌, refl, sym, ap, ap₂, ◌∙◌, subst}
use mathlib.Core.Bool.{true}
use mathlib.Core.List.{List, []}
use native.Mathlib.Omega.{arith}
use lib.ListN.{length}
use Rattle.model.specs.Table.{Table}
use Rattle.model.specs.Format.{u16, Outcome, rejected, decoded, decode, section_of}
use Rattle.model.specs.Raw.{count_place, record_count, raw_table}
use Rattle.model.specs.Register.{counter_total, point_total, run_total, words_needed, illegal_total, measured, section}
use Rattle.model.specs.Register as Model
use Rattle.model.proofs.Sections.{acceptance}
use Rattle.model.proofs.RawExact.{raw-exact, sections-whole}
use Rattle.model.proofs.MeasureBounds.{points_few, counters_few, runs_few, illegals_few}
use Rattle.std.proofs.Common.{Result, Ok, Err}
use Rattle.std.specs.Prelude.{IfOk}
use Rattle.words.specs.Verdicts.{class_of, number_of, fault_at}
use Rattle.words.specs.declared.verdicts.Fault.{Fault}
use Rattle.words.proofs.Numbers.{same_number}
use Rattle.limits.proofs.PointLaws.{points_length}
use Rattle.reader.specs.declared.Part.{Part}
use Rattle.reader.specs.Parts.{section_part, section_bytes}
use Rattle.reader.proofs.Front.{section_exact, section_within}
use Rattle.reader.proofs.Laws.{part-ordered, part-inside}
use Rattle.table.specs.declared.answer.Facts.{Facts}
use Rattle.table.specs.declared.answer.Measure.{Measure}
use Rattle.table.specs.Check.{checked, facts_from, facts_of, ExaminedOf, Few, measure_from, measure_of, start_of, section_start, Placed, Placeless}
use Rattle.table.proofs.Outcome.{accepted_outcome, refused_outcome}

abbrev pub facts : ℕ → ℕ → ℕ → ℕ → Facts
facts points counters runs illegals = record { points = points; counters = counters; runs = runs; illegals = illegals }

-- ---- the facts of a table

pub few_of : (s : List ℕ) (r : Result Facts Fault) → r ≡ facts_of s → IfOk r Few
unfolding facts_of
few_of s r e = subst (λ (q : Result Facts Fault). IfOk q Few) (sym e) (go (decode s) refl)
  where
    go : (o : Outcome) → decode s ≡ o → IfOk (facts_from o) Few
    go (rejected f) d = tt
    go (decoded t) d =
        let a = acceptance s t d in
        let l = a.layout in
        let w = a.limited in
        record { points = points_few s t (length s) l w; counters = counters_few s t (length s) l w; runs = runs_few s t (length s) l w; illegals = illegals_few s t (length s) l w }

pub examined-facts : (s : List ℕ) (r : Result Facts Fault) → ExaminedOf s r → r ≡ facts_of s
examined-facts s (Ok f) e = e.1
examined-facts s (Err f) e = e.1

-- measuring, by the facts
pub measured_whole : (s : List ℕ) (f : Facts) → Ok f ≡ facts_of s → Ok (record { words = 2 + f.counters + f.points + f.runs; illegal_places = f.illegals }) ≡ measure_of s
unfolding measure_of facts_of words_needed
measured_whole s f e = go (decode s) e
  where
    go : (o : Outcome) → Ok f ≡ facts_from o → Ok (record { words = 2 + f.counters + f.points + f.runs; illegal_places = f.illegals }) ≡ measure_from o
    go (rejected x) d = absurd (cc)
    go (decoded t) d =
        let y : f ≡ facts (point_total t) (counter_total t) (run_total t) (illegal_total t) = cc in
        ap (λ (f : Facts). Ok (record { words = 2 + f.counters + f.points + f.runs; illegal_places = f.illegals })) y

pub measured_refused : (s : List ℕ) (x : Fault) → Err x ≡ facts_of s → Err x ≡ measure_of s
unfolding measure_of facts_of
measured_refused s x e = go (decode s) e
  where
    go : (o : Outcome) → Err x ≡ facts_from o → Err x ≡ measure_from o
    go (rejected y) d = cc
    go (decoded t) d = absurd (cc)

-- the answer in the model's words
pub measured-sound : (s : List ℕ) (m : Measure) → Ok m ≡ measure_of s
    → (0 ≡ (Model.measure s).number) × (m.words ≡ (Model.measure s).words) × (m.illegal_places ≡ (Model.measure s).illegals) × (0 ≡ (Model.measure s).place)
unfolding measure_of Model.measure
measured-sound s m e = go (decode s) e
  where
    go : (o : Outcome) → Ok m ≡ measure_from o → (0 ≡ (measured o).number) × (m.words ≡ (measured o).words) × (m.illegal_places ≡ (measured o).illegals) × (0 ≡ (measured o).place)
    go (rejected x) d = absurd (cc)
    go (decoded t) d =
        let y : m ≡ record { words = words_needed t; illegal_places = illegal_total t } = cc in
        (refl, ap (λ (q : Measure). q.words) y, ap (λ (q : Measure). q.illegal_places) y, refl)

pub measured-fault : (s : List ℕ) (x : Fault) → Err x ≡ measure_of s
    → (number_of x.class ≡ (Model.measure s).number) × (0 ≡ (Model.measure s).words) × (0 ≡ (Model.measure s).illegals) × (x.at ≡ (Model.measure s).place)
unfolding measure_of Model.measure
measured-fault s x e = go (decode s) e
  where
    go : (o : Outcome) → Err x ≡ measure_from o → (number_of x.class ≡ (measured o).number) × (0 ≡ (measured o).words) × (0 ≡ (measured o).illegals) × (x.at ≡ (measured o).place)
    go (rejected f) d =
        let y : x ≡ fault_at (class_of f.class) f.at = cc in
        (ap (λ (q : Fault). number_of q.class) y ∙ same_number f.class, refl, refl, ap (λ (q : Fault). q.at) y)
    go (decoded t) d = absurd (cc)

-- ---- what a verdict tells

module _ (s : List ℕ) where
  points_number : u16 s 0 ≡ point_total (raw_table s)
  unfolding record_count count_place
  points_number = sym (points_length s)

  module _ (end : ℕ) (e : Ok end ≡ checked s) where
    accepted : (P : Type 0) → ((t : Table) → decode s ≡ decoded t → t ≡ raw_table s → P) → P
    accepted P k = accepted_outcome s end e P (λ t d. k t d (raw-exact s t d))

    pub facts-whole : (p counters runs illegals : ℕ) → p ≡ u16 s 0 → counters ≡ counter_total (raw_table s) → runs ≡ run_total (raw_table s) → illegals ≡ illegal_total (raw_table s)
        → Ok (facts p counters runs illegals) ≡ facts_of s
    unfolding facts_of
    facts-whole p counters runs illegals ep ec er ei = accepted (Ok (facts p counters runs illegals) ≡ facts_of s) λ t d r.
        ap₂ (λ (a b : ℕ). Ok (facts a b runs illegals)) (ep ∙ points_number ∙ ap point_total (sym r)) (ec ∙ ap counter_total (sym r))
        ∙ ap₂ (λ (a b : ℕ). Ok (facts (point_total t) (counter_total t) a b)) (er ∙ ap run_total (sym r)) (ei ∙ ap illegal_total (sym r)) ∙ ap facts_from (sym d)

    pub section-whole : (number : ℕ) → section_bytes s number ≡ section s number
    unfolding section
    section-whole number = accepted (section_bytes s number ≡ section s number) λ t d r.
        section_exact s t d (let y = sections-whole s t d in omega arith) number

    -- the part that the reader finds is the section's place
    pub placed-whole : (number : ℕ) (p : Part) → p ≡ section_part s number → Placed s number p
    unfolding Model.measure section_start
    placed-whole number p ep = accepted (Placed s number p) λ t d r.
        let y = sections-whole s t d in
        let w : p.to ≤ length s = rw ep (section_within s (omega arith) number) in
        record {
          accepted = ap (λ (x : Outcome). (measured x).number) (sym d);
          start = ap (λ (x : Part). x.from) ep ∙ ap (λ (x : Outcome). start_of x s number) (sym d);
          bytes = part-inside s number p ep w ∙ section-whole number;
          ordered = part-ordered s number p ep;
          within = w;
        }

  module _ (x : Fault) (e : Err x ≡ checked s) where
    pub facts-refused : Err x ≡ facts_of s
    unfolding facts_of
    facts-refused = refused_outcome s x e (Err x ≡ facts_of s) λ f d c. ap (λ (q : Fault). Err q) c ∙ ap facts_from (sym d)

    pub section-refused : (number : ℕ) → [] ≡ section s number
    unfolding section
    section-refused number = refused_outcome s x e ([] ≡ section s number) λ f d c. ap (λ (o : Outcome). section_of o s number) (sym d)

    pub placed-refused : (number : ℕ) → Placeless s number x
    unfolding Model.measure section_start
    placed-refused number = refused_outcome s x e (Placeless s number x) λ f d c.
        record {
          refused = ap (λ (q : Fault). number_of q.class) c ∙ same_number f.class ∙ ap (λ (x : Outcome). (measured x).number) (sym d);
          start = ap (λ (x : Outcome). start_of x s number) (sym d);
          bytes = section-refused number;
        }
