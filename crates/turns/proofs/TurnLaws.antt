-- Samples in turn: one step, and what it leaves of the whole.
-- Assumes nothing.
use mathlib.Core.Path.{◌≡◌, refl, sym, ap, ap₂, ◌∙◌, subst}
use mathlib.Core.Bool.{Bool, true, false, cond}
use mathlib.Core.List.{List, [], ◌∷◌, ◌++◌, append_assoc, append-nil}
use Prim.Native.Nat.{ℕ, zero, suc, ◌+◌, ◌-◌, ◌*◌, ◌≤◌, ◌<◌}
use native.Mathlib.Omega.{arith}
use native.Mathlib.Nat.{add-zero, zero-add}
use lib.Dec.{leb, eqb}
use lib.ListN.{length, take, drop, get_or, length-append, length-drop, take-append-drop, drop_of_length-le}
use lib.Seq.{take-append-add, drop-append-add, take_all, drop_at, drop-drop, length-take-le}
use borrow.Author.Tests.{leb-true, leb-false}
use Rattle.model.specs.Lists.{first_failed}
use Rattle.model.specs.Table.{Table}
use Rattle.model.specs.Format.{Outcome, decode, decoded, table_of}
use Rattle.model.specs.Register.{point_total, words_needed, illegal_total, long_enough, consistent, register_tests, sample_tests, call_tests, sampled_words, sampled_report, sample, Effect, accept, perform, on_table, on_outcome, call}
use Rattle.model.proofs.Lists.{first-passed}
use Rattle.arrays.proofs.PutLaws.{put-zero}
use Rattle.std.proofs.Common.{Result, Err}
use Rattle.refusals.specs.Numbers.{number_of, number_in, pass}
use Rattle.refusals.specs.declared.refusal.Refusal.{Refusal}
use Rattle.refusals.proofs.Numbers.{never-none}
use Rattle.refusals.specs.Refusals.{own_refusal}
use Rattle.refusals.proofs.SampleLaws.{own_by}
use Rattle.samples.specs.Writes.{report_of, flags_after}
use Rattle.samples.proofs.WriteLaws.{report-length, report-exact}
use Rattle.turns.specs.Batch.{Batch, ended, sample_size, and_then, in_turn}
use Rattle.turns.specs.Turns.{Ready, Done, Took, turns, end_of, ahead}
use Rattle.turns.proofs.Keeps.{tests_on, keeps}

-- ---- one sample on a register that passes the tests 7 and 8

-- an accepted sample has passed all tests
passed_by : (t : Table) (w v r : List ℕ) (n : ℕ) → (perform n t w (sample v r)).response.number ≡ 0 → n ≡ 0
passed_by t w v r zero e = refl
passed_by t w v r (suc n) e = e

module _ (s : List ℕ) (t : Table) (known : decode s ≡ decoded t) (w v r : List ℕ) where
  abbrev tests : ℕ
  tests = first_failed (call_tests t w (sample v r))

  pub call_is : call s w (sample v r) ≡ perform tests t w (sample v r)
  unfolding call on_table
  call_is = ap (λ (o : Outcome). on_outcome o w (sample v r)) known

  module _ (z : (call s w (sample v r)).response.number ≡ 0) where
    all_pass : tests ≡ 0
    all_pass = passed_by t w v r tests (ap (λ (x : Effect). x.response.number) (sym call_is) ∙ z)

    taken_is : call s w (sample v r) ≡ accept t w (sample v r)
    taken_is = call_is ∙ ap (λ (m : ℕ). perform m t w (sample v r)) all_pass

    -- the report's own words, and then those that stood there
    report_is : (call s w (sample v r)).response.report ≡ report_of t (flags_after t v w) ++ drop (length (report_of t (flags_after t v w))) r
    unfolding accept
    report_is = ap (λ (x : Effect). x.response.report) taken_is ∙ sym (report-exact t v w r) ∙ put-zero (report_of t (flags_after t v w)) r

    pub rest-kept : drop (illegal_total t) (call s w (sample v r)).response.report ≡ drop (illegal_total t) r
    rest-kept =
        let x = report_of t (flags_after t v w) in
        ap (drop (illegal_total t)) report_is ∙ drop_at x (drop (length x) r) (illegal_total t) (report-length t v w) ∙ ap (λ (n : ℕ). drop n r) (report-length t v w)

    pub report-long : illegal_total t ≤ length (call s w (sample v r)).response.report
    report-long =
        let x = report_of t (flags_after t v w) in
        omega (arith, ap length report_is, length-append x (drop (length x) r), report-length t v w)

module _ (s w : List ℕ) (ready : Ready s w) (v r : List ℕ) where
  abbrev t : Table
  t = table_of s

  module _ (points illegals : ℕ) (ep : points ≡ point_total t) (ei : illegals ≡ illegal_total t) (n : ℕ) (e : n ≡ own_refusal s points illegals v r (get_or w 0 0) (get_or w 1 0)) where
    pub own_is : n ≡ first_failed (call_tests t w (sample v r))
    unfolding call_tests
    own_is =
        e ∙ own_by s v r t ready.known points illegals ep ei (get_or w 0 0) (get_or w 1 0)
        ∙ sym (tests_on t w (sample_tests t v r (eqb (get_or w 0 0) 1) (get_or w 1 0)) ready.passes)

    effect_is : call s w (sample v r) ≡ perform n t w (sample v r)
    effect_is = call_is s t ready.known w v r ∙ ap (λ (k : ℕ). perform k t w (sample v r)) (sym own_is)

    pub one-refused : (x : Refusal) → number_of x ≡ n → Done (call s w (sample v r)) (Err x) w r
    one-refused x z = rw effect_is (go n z)
      where
        go : (k : ℕ) → number_of x ≡ k → Done (perform k t w (sample v r)) (Err x) w r
        go zero y = absurd (never-none x y)
        go (suc k) y = record { number = y; words = refl; report = refl }

    pub one-taken : n ≡ 0 → (w' r' : List ℕ) → w' ≡ sampled_words t v w → r' ≡ sampled_report t v w r → Done (call s w (sample v r)) pass w' r'
    unfolding accept
    one-taken z w' r' ew er =
        let k = effect_is ∙ ap (λ (m : ℕ). perform m t w (sample v r)) z in
        record {
          number = ap (λ (x : Effect). x.response.number) (sym k);
          words = ew ∙ ap (λ (x : Effect). x.words) (sym k);
          report = er ∙ ap (λ (x : Effect). x.response.report) (sym k);
        }

  module _ (z : (call s w (sample v r)).response.number ≡ 0) where
    pub ready-after : Ready s (call s w (sample v r)).words
    unfolding accept
    ready-after = record {
      known = ready.known;
      passes = ap (λ (x : Effect). first_failed (register_tests t x.words)) (taken_is s t ready.known w v r z) ∙ keeps t v w r (all_pass s t ready.known w v r z);
    }

    pub room_after : illegal_total t ≤ length (call s w (sample v r)).response.report
    room_after = report-long s t ready.known w v r z

long-two : (t : Table) (w : List ℕ) → long_enough t w ≡ true → 2 ≤ length w
unfolding words_needed
long-two t w e = omega (arith, leb-true (words_needed t) (length w) e)

pub two-words : (s w : List ℕ) → Ready s w → 2 ≤ length w
two-words s w ready = long-two (table_of s) w (first-passed (long_enough (table_of s) w) 7 ((consistent (table_of s) w, 8) ∷ []) (omega arith) ready.passes).0

-- ---- more turns than there are samples change nothing

fuel : (s : List ℕ) (t : Table) (n m : ℕ) (w v r : List ℕ) → length v ≤ n → length v ≤ m → in_turn s t n w v r ≡ in_turn s t m w v r
unfolding in_turn
fuel s t zero zero w v r h k = refl
fuel s t zero (suc m) w [] r h k = refl
fuel s t zero (suc m) w (x ∷ v) r h k = absurd (omega arith)
fuel s t (suc n) zero w [] r h k = refl
fuel s t (suc n) zero w (x ∷ v) r h k = absurd (omega arith)
fuel s t (suc n) (suc m) w [] r h k = refl
fuel s t (suc n) (suc m) w (x ∷ v) r h k =
    let e = call s w (sample (take (sample_size t) (x ∷ v)) r) in
    let l = length-drop (sample_size t) (x ∷ v) in
    ap (and_then (illegal_total t) e.response.number e) (fuel s t n m e.words (drop (sample_size t) (x ∷ v)) (drop (illegal_total t) e.response.report) (omega arith) (omega arith))

pub turns-none : (s : List ℕ) (t : Table) (w v r : List ℕ) → length v ≡ 0 → turns s t w v r ≡ ended 0 w r
unfolding turns in_turn
turns-none s t w [] r e = refl
turns-none s t w (x ∷ v) r e = absurd (omega arith)

pub took-none : (s : List ℕ) (t : Table) (w v r : List ℕ) → length v ≡ 0 → Took (turns s t w v r) (record { taken = 0; end = pass }) w r
took-none s t w v r e =
    let b = turns-none s t w v r e in
    record { number = ap (λ (x : Batch). x.number) (sym b); taken = ap (λ (x : Batch). x.taken) (sym b); words = ap (λ (x : Batch). x.words) (sym b); reports = ap (λ (x : Batch). x.reports) (sym b) }

pub turns_one : (s : List ℕ) (t : Table) (w v r : List ℕ) → 0 < length v
    → (let e = call s w (sample (take (sample_size t) v) r) in
    turns s t w v r ≡ and_then (illegal_total t) e.response.number e (turns s t e.words (drop (sample_size t) v) (drop (illegal_total t) e.response.report)))
unfolding turns in_turn
turns_one s t w [] r h = absurd (omega arith)
turns_one s t w (x ∷ v) r h =
    let e = call s w (sample (take (sample_size t) (x ∷ v)) r) in
    let l = length-drop (sample_size t) (x ∷ v) in
    ap (and_then (illegal_total t) e.response.number e)
    (fuel s t (length v) (length (drop (sample_size t) (x ∷ v))) e.words (drop (sample_size t) (x ∷ v)) (drop (illegal_total t) e.response.report) (omega arith) (omega arith))

pub then-refused : (k n : ℕ) (e : Effect) (b : Batch) → (n ≡ 0 → ⊥) → and_then k n e b ≡ ended n e.words e.response.report
then-refused k zero e b z = absurd (z refl)
then-refused k (suc n) e b z = refl

-- ---- a sample in the midst of the samples' words, and its report in the midst of the reports

-- a sample's effect, where its report stands after the reports' words p
pub record DoneAt (e : Effect) (p : List ℕ) (n : ℕ) (w r : List ℕ) : Type 0 where
  pub number : n ≡ e.response.number
  pub words : w ≡ e.words
  pub reports : r ≡ p ++ e.response.report

-- the call of the sample in the words a to e - 1, with the reports' words from k on
abbrev call_in : List ℕ → List ℕ → List ℕ → List ℕ → ℕ → ℕ → ℕ → Effect
call_in s w v r a e k = call s w (sample (take (e - a) (drop a v)) (drop k r))

-- the part of the reports that was lent has come back
pub part-done : (s w v r : List ℕ) (a e k : ℕ) (n : Result Unit Refusal) (w' p r' : List ℕ) → k ≤ length r
    → Done (call s w (sample (take (e - a) (drop a v)) (take (length r - k) (drop k r)))) n w' p
    → r' ≡ take k r ++ (p ++ drop (length r - k) (drop k r)) → DoneAt (call_in s w v r a e k) (take k r) (number_in n) w' r'
part-done s w v r a e k n w' p r' h d g =
    let l : length (drop k r) ≤ length r - k = omega (arith, length-drop k r) in
    let x : Done (call_in s w v r a e k) n w' p = rw (take_all (length r - k) (drop k r) l) at d in
    record {
      number = x.number;
      words = x.words;
      reports = g ∙ ap (λ (y : List ℕ). take k r ++ (p ++ y)) (drop_of_length-le (drop k r) l) ∙ ap (take k r ++◌) (append-nil p ∙ x.report);
    }

-- where the sample ends
pub record Cut (v : List ℕ) (size a e : ℕ) : Type 0 where
  pub after : a < e
  pub within : e ≤ length v
  pub this : take (e - a) (drop a v) ≡ take size (drop a v)
  pub rest : drop e v ≡ drop size (drop a v)

pub cut_at : (v : List ℕ) (size a e : ℕ) → 0 < size → a < length v → e ≡ end_of size a (length v) → Cut v size a e
cut_at v size a e z h g = go (leb size (length v - a)) refl g
  where
    go : (b : Bool) → leb size (length v - a) ≡ b → e ≡ cond b (a + size) (length v) → Cut v size a e
    go true q g =
        let l = leb-true size (length v - a) q in
        let y : e - a ≡ size = omega arith in
        record {
          after = omega arith;
          within = omega arith;
          this = ap (λ (n : ℕ). take n (drop a v)) y;
          rest = ap (λ (n : ℕ). drop n v) g ∙ sym (drop-drop size a v);
        }
    go false q g =
        let l = leb-false size (length v - a) q in
        let d = length-drop a v in
        record {
          after = omega arith;
          within = omega arith;
          this = take_all (e - a) (drop a v) (omega arith) ∙ sym (take_all size (drop a v) (omega arith));
          rest = drop_of_length-le v {i = e} (omega arith) ∙ sym (drop_of_length-le (drop a v) {i = size} (omega arith));
        }

pub cut_for : (s v : List ℕ) (points : ℕ) → points ≡ point_total (table_of s) → (a e : ℕ) → a < length v → e ≡ end_of (4 + 2 * points) a (length v) → Cut v (sample_size (table_of s)) a e
cut_for s v points h a e l g = cut_at v (sample_size (table_of s)) a e (omega arith) l (g ∙ ap (λ (n : ℕ). end_of (4 + 2 * n) a (length v)) h)

-- ---- the loop

-- a words were read, k words of the reports are written, and what is left gives the whole
pub record Going (s v w₀ r₀ w r : List ℕ) (a k taken : ℕ) : Type 0 where
  pub ready : Ready s w
  pub read : a ≤ length v
  pub written : k ≤ length r
  pub few : taken ≤ a
  pub whole : turns s (table_of s) w₀ v r₀ ≡ ahead taken (take k r) (turns s (table_of s) w (drop a v) (drop k r))

pub going_start : (s v w r : List ℕ) → Ready s w → Going s v w r w r 0 0 0
going_start s v w r h = record {
  ready = h;
  read = omega arith;
  written = omega arith;
  few = omega arith;
  whole =
      let b = turns s (table_of s) w v r in
      ap (λ (n : ℕ). record { number = b.number; taken = n; words = b.words; reports = b.reports }) (sym (zero-add b.taken));
}

module _ (s v w₀ r₀ w r : List ℕ) (a k taken : ℕ) (g : Going s v w₀ r₀ w r a k taken) where
  pub going_end : length v ≤ a → Took (turns s (table_of s) w₀ v r₀) (record { taken = taken; end = pass }) w r
  going_end h =
      let l : length (drop a v) ≡ 0 = omega (arith, length-drop a v) in
      let e = g.whole ∙ ap (ahead taken (take k r)) (turns-none s (table_of s) w (drop a v) (drop k r) l) in
      record {
        number = ap (λ (b : Batch). b.number) (sym e);
        taken = sym (ap (λ (b : Batch). b.taken) e ∙ add-zero taken);
        words = ap (λ (b : Batch). b.words) (sym e);
        reports = sym (ap (λ (b : Batch). b.reports) e ∙ take-append-drop k r);
      }

  module _ (h : a < length v) (e : ℕ) (c : Cut v (sample_size (table_of s)) a e) (n : ℕ) (w' r' : List ℕ) (d : DoneAt (call_in s w v r a e k) (take k r) n w' r') where
    abbrev ill : ℕ
    ill = illegal_total (table_of s)

    abbrev x : Effect
    x = call_in s w v r a e k

    abbrev left : Batch
    left = turns s (table_of s) x.words (drop e v) (drop ill x.response.report)

    one_more : turns s (table_of s) w (drop a v) (drop k r) ≡ and_then ill n x left
    one_more =
        let l : 0 < length (drop a v) = omega (arith, length-drop a v) in
        rw (d.number, c.this, c.rest) (turns_one s (table_of s) w (drop a v) (drop k r) l)

    whole-more : turns s (table_of s) w₀ v r₀ ≡ ahead taken (take k r) (and_then ill n x left)
    whole-more = g.whole ∙ ap (ahead taken (take k r)) one_more

    pub going-stop : (y : Refusal) → number_of y ≡ n → Took (turns s (table_of s) w₀ v r₀) (record { taken = taken; end = Err y }) w' r'
    going-stop y z =
        let q = whole-more ∙ ap (ahead taken (take k r)) (then-refused ill n x left (λ o. never-none y (z ∙ o))) in
        record {
          number = z ∙ ap (λ (b : Batch). b.number) (sym q);
          taken = sym (ap (λ (b : Batch). b.taken) q ∙ add-zero taken);
          words = d.words ∙ ap (λ (b : Batch). b.words) (sym q);
          reports = d.reports ∙ ap (λ (b : Batch). b.reports) (sym q);
        }

    module _ (z : n ≡ 0) (illegals : ℕ) (i : illegals ≡ illegal_total (table_of s)) where
      zero_number : x.response.number ≡ 0
      zero_number = sym d.number ∙ z

      taken-part : take (k + ill) r' ≡ take k r ++ take ill x.response.report
      taken-part =
          let l : k + ill ≡ length (take k r) + ill = omega (arith, length-take-le k r g.written) in
          ap₂ take l d.reports ∙ take-append-add (take k r) x.response.report ill

      left-part : drop (k + ill) r' ≡ drop ill x.response.report
      left-part =
          let l : k + ill ≡ length (take k r) + ill = omega (arith, length-take-le k r g.written) in
          ap₂ drop l d.reports ∙ drop-append-add (take k r) x.response.report ill

      pub going_on : Going s v w₀ r₀ w' r' e (k + illegals) (taken + 1)
      going_on = record {
        ready = subst (Ready s) (sym d.words) (ready-after s w g.ready _ _ zero_number);
        read = c.within;
        written = omega (arith, i, room_after s w g.ready _ _ zero_number, ap length d.reports, length-append (take k r) x.response.report, length-take-le k r g.written);
        few = omega (arith, c.after, g.few);
        whole =
            let m : taken + suc left.taken ≡ (taken + 1) + left.taken = omega arith in
            whole-more
            ∙ ap (λ (y : ℕ). ahead taken (take k r) (and_then ill y x left)) z
            ∙ ap₂ (λ (y : ℕ) (q : List ℕ). record { number = left.number; taken = y; words = left.words; reports = q }) m
            (sym (append_assoc (take k r) (take ill x.response.report) left.reports) ∙ ap (◌++ left.reports) (sym taken-part))
            ∙ ap₂ (λ (y q : List ℕ). ahead (taken + 1) (take (k + ill) r') (turns s (table_of s) y (drop e v) q)) (sym d.words) (sym left-part)
            ∙ ap (λ (y : ℕ). ahead (taken + 1) (take (k + y) r') (turns s (table_of s) w' (drop e v) (drop (k + y) r'))) (sym i);
      }
