-- One call of a C function. A `Step` has its arguments, its result, its parameters at exit, and that its own contract holds of them: `Learnt`, which the
-- toolchain makes of the contract in src/lib.rt (what a caller learns of the call). No clause of a contract is written a second time here.
-- Assumes nothing.
use mathlib.Core.Path.{◌≡◌, refl, sym, ap, ap₂, ◌∙◌}
use mathlib.Core.List.{List, []}
use mathlib.Core.Option.{Option, none, some}
use Prim.Native.Nat.{ℕ, zero, suc}
use lib.Ieee.{Float}
use contract.Lifetimes.{Lfts}
use denote.Triple.Clauses.{AtExit}
use borrow.Fn.Kinds.{Dens, ended_of, res_t}
use Rattle.model.specs.Lists.{first_failed}
use Rattle.model.specs.Table.{Table}
use Rattle.model.specs.Format.{Outcome, rejected, decoded, decode, table_of}
use Rattle.model.specs.Register.{illegal_total, Call, reset, start, stop, sample, ask_counter, ask_unknown, ask_item, ask_group, Answer, nothing, counted, percent, millionths, Response, Effect, call_tests, accept, perform, on_table, on_outcome, call}
use Rattle.model.specs.Reference.{register_responses, register_after}
use Rattle.batch.specs.Calls.{batch_calls, batch_responses}
use Rattle.batch.proofs.Listed.{batch-is}
use Rattle.fluviquen.specs.Answers.{count_in, present_in, percent_in, millionths_in}
use Rattle.fluviquen.proofs.fluviquen_reset.Kinds as ResetK
use Rattle.fluviquen.proofs.fluviquen_reset.Reads as Reset
use Rattle.fluviquen.proofs.fluviquen_start.Kinds as StartK
use Rattle.fluviquen.proofs.fluviquen_start.Reads as Start
use Rattle.fluviquen.proofs.fluviquen_stop.Kinds as StopK
use Rattle.fluviquen.proofs.fluviquen_stop.Reads as Stop
use Rattle.fluviquen.proofs.fluviquen_sample.Kinds as SampleK
use Rattle.fluviquen.proofs.fluviquen_sample.Reads as Sample
use Rattle.fluviquen.proofs.fluviquen_samples.Kinds as SamplesK
use Rattle.fluviquen.proofs.fluviquen_samples.Reads as Samples
use Rattle.fluviquen.proofs.fluviquen_place_count.Kinds as PlaceK
use Rattle.fluviquen.proofs.fluviquen_place_count.Reads as Place
use Rattle.fluviquen.proofs.fluviquen_unknown_count.Kinds as UnknownK
use Rattle.fluviquen.proofs.fluviquen_unknown_count.Reads as Unknown
use Rattle.fluviquen.proofs.fluviquen_item_figure.Kinds as ItemK
use Rattle.fluviquen.proofs.fluviquen_item_figure.Reads as Item
use Rattle.fluviquen.proofs.fluviquen_group_figure.Kinds as GroupK
use Rattle.fluviquen.proofs.fluviquen_group_figure.Reads as Group

-- a figure as a C caller reads it: none where `present` is 0
abbrev pub read : {A : Type 0} → ℕ → A → Option A
read zero x = none
read (suc n) x = some x

abbrev response : ℕ → Answer → List ℕ → Response
response number answer report = record { number = number; answer = answer; report = report }

abbrev effect : Response → List ℕ → Effect
effect x words = record { response = x; words = words }

-- One call, on the table's bytes and the register's words: what it responds, and the words that it leaves. A question lends the register to be read only.
pub data Step : List ℕ → List ℕ → Call → Response → List ℕ → Type 0 where
  resets : (κs : Lfts 2) (a : Dens κs ResetK.ps) (r : (res_t ResetK.r κs).Denot) (e : AtExit (ended_of 2 ResetK.ps ResetK.r) κs)
      → Reset.Learnt κs a r e → Step a.0.now a.1.0.now reset (response r nothing []) e.1.0.now
  starts : (κs : Lfts 2) (a : Dens κs StartK.ps) (r : (res_t StartK.r κs).Denot) (e : AtExit (ended_of 2 StartK.ps StartK.r) κs)
      → Start.Learnt κs a r e → Step a.0.now a.1.0.now start (response r nothing []) e.1.0.now
  stops : (κs : Lfts 2) (a : Dens κs StopK.ps) (r : (res_t StopK.r κs).Denot) (e : AtExit (ended_of 2 StopK.ps StopK.r) κs)
      → Stop.Learnt κs a r e → Step a.0.now a.1.0.now stop (response r nothing []) e.1.0.now
  samples : (κs : Lfts 4) (a : Dens κs SampleK.ps) (r : (res_t SampleK.r κs).Denot) (e : AtExit (ended_of 4 SampleK.ps SampleK.r) κs)
      → Sample.Learnt κs a r e
      → Step a.0.now a.1.0.now (sample a.1.1.0.now a.1.1.1.0.now) (response r nothing e.1.1.1.0.now) e.1.0.now
  counts : (κs : Lfts 3) (a : Dens κs PlaceK.ps) (r : (res_t PlaceK.r κs).Denot) (e : AtExit (ended_of 3 PlaceK.ps PlaceK.r) κs)
      → Place.Learnt κs a r e → Step a.0.now a.1.0.now (ask_counter a.1.1.0) (response r (counted e.1.1.1.0.now) []) a.1.0.now
  unknowns : (κs : Lfts 3) (a : Dens κs UnknownK.ps) (r : (res_t UnknownK.r κs).Denot) (e : AtExit (ended_of 3 UnknownK.ps UnknownK.r) κs)
      → Unknown.Learnt κs a r e → Step a.0.now a.1.0.now (ask_unknown a.1.1.0) (response r (counted e.1.1.1.0.now) []) a.1.0.now
  items : (κs : Lfts 4) (a : Dens κs ItemK.ps) (r : (res_t ItemK.r κs).Denot) (e : AtExit (ended_of 4 ItemK.ps ItemK.r) κs)
      → Item.Learnt κs a r e
      → Step a.0.now a.1.0.now (ask_item a.1.1.0) (response r (percent (read e.1.1.1.0.now e.1.1.1.1.0.now)) []) a.1.0.now
  groups : (κs : Lfts 4) (a : Dens κs GroupK.ps) (r : (res_t GroupK.r κs).Denot) (e : AtExit (ended_of 4 GroupK.ps GroupK.r) κs)
      → Group.Learnt κs a r e
      → Step a.0.now a.1.0.now ask_group (response r (millionths (read e.1.1.0.now e.1.1.1.0.now)) []) a.1.0.now

-- One call of fluviquen_samples: the sample calls that it stands for, their responses as its caller reads them, and the words that it leaves.
pub data Batch : List ℕ → List ℕ → List Call → List Response → List ℕ → Type 0 where
  batches : (κs : Lfts 5) (a : Dens κs SamplesK.ps) (r : (res_t SamplesK.r κs).Denot) (e : AtExit (ended_of 5 SamplesK.ps SamplesK.r) κs)
      → Samples.Learnt κs a r e
      → Batch a.0.now a.1.0.now (batch_calls a.0.now r e.1.1.1.1.0.now a.1.1.0.now a.1.1.1.0.now)
      (batch_responses (illegal_total (table_of a.0.now)) r e.1.1.1.1.0.now a.1.1.0.now a.1.1.1.0.now e.1.1.1.0.now) e.1.0.now

-- ---- a step is the whole effect of the model's call

-- an answer as its numbers tell it, by the question
abbrev reread : Call → Answer → Answer
reread reset a = nothing
reread start a = nothing
reread stop a = nothing
reread (sample v p) a = nothing
reread (ask_counter i) a = counted (count_in a)
reread (ask_unknown i) a = counted (count_in a)
reread (ask_item i) a = percent (read (present_in a) (percent_in a))
reread ask_group a = millionths (read (present_in a) (millionths_in a))

-- the report of a sample; the words of what is no question
abbrev reported : Call → List ℕ → List ℕ
reported reset p = []
reported start p = []
reported stop p = []
reported (sample v q) p = p
reported (ask_counter i) p = []
reported (ask_unknown i) p = []
reported (ask_item i) p = []
reported ask_group p = []

abbrev left : Call → List ℕ → List ℕ → List ℕ
left reset w after = after
left start w after = after
left stop w after = after
left (sample v q) w after = after
left (ask_counter i) w after = w
left (ask_unknown i) w after = w
left (ask_item i) w after = w
left ask_group w after = w

abbrev whole : List ℕ → Call → Effect → Effect
whole w c e = effect (response e.response.number (reread c e.response.answer) (reported c e.response.report)) (left c w e.words)

reread-percent : (o : Option Float) → percent o ≡ percent (read (present_in (percent o)) (percent_in (percent o)))
reread-percent none = refl
reread-percent (some x) = refl

reread-millionths : (o : Option ℕ) → millionths o ≡ millionths (read (present_in (millionths o)) (millionths_in (millionths o)))
reread-millionths none = refl
reread-millionths (some x) = refl

performed : (w : List ℕ) (c : Call) (n : ℕ) (t : Table) → perform n t w c ≡ whole w c (perform n t w c)
unfolding accept
performed w reset zero t = refl
performed w start zero t = refl
performed w stop zero t = refl
performed w (sample v p) zero t = refl
performed w (ask_counter i) zero t = refl
performed w (ask_unknown i) zero t = refl
performed w (ask_item i) zero t = ap (λ (a : Answer). effect (response 0 a []) w) (reread-percent _)
performed w ask_group zero t = ap (λ (a : Answer). effect (response 0 a []) w) (reread-millionths _)
performed w reset (suc n) t = refl
performed w start (suc n) t = refl
performed w stop (suc n) t = refl
performed w (sample v p) (suc n) t = refl
performed w (ask_counter i) (suc n) t = refl
performed w (ask_unknown i) (suc n) t = refl
performed w (ask_item i) (suc n) t = refl
performed w ask_group (suc n) t = refl

called : (s w : List ℕ) (c : Call) → call s w c ≡ whole w c (call s w c)
unfolding call on_table
called s w c = go (decode s) c
  where
    go : (o : Outcome) (c : Call) → on_outcome o w c ≡ whole w c (on_outcome o w c)
    go (rejected f) reset = refl
    go (rejected f) start = refl
    go (rejected f) stop = refl
    go (rejected f) (sample v p) = refl
    go (rejected f) (ask_counter i) = refl
    go (rejected f) (ask_unknown i) = refl
    go (rejected f) (ask_item i) = refl
    go (rejected f) ask_group = refl
    go (decoded t) c = performed w c (first_failed (call_tests t w c)) t

plain : (n m : ℕ) (x y : List ℕ) → n ≡ m → x ≡ y → effect (response m nothing []) y ≡ effect (response n nothing []) x
plain n m x y e h = ap₂ (λ (k : ℕ) (l : List ℕ). effect (response k nothing []) l) (sym e) (sym h)

asked : (n m : ℕ) (a b : Answer) (w : List ℕ) → n ≡ m → a ≡ b → effect (response m b []) w ≡ effect (response n a []) w
asked n m a b w e h = ap₂ (λ (k : ℕ) (x : Answer). effect (response k x []) w) (sym e) (sym h)

pub step_is : (s w : List ℕ) (c : Call) (x : Response) (after : List ℕ) → Step s w c x after → call s w c ≡ effect x after
step_is s w c x after (resets κs a r e p) = called s w reset ∙ plain _ _ _ _ p.0 p.1
step_is s w c x after (starts κs a r e p) = called s w start ∙ plain _ _ _ _ p.0 p.1
step_is s w c x after (stops κs a r e p) = called s w stop ∙ plain _ _ _ _ p.0 p.1
step_is s w c x after (samples κs a r e p) =
    called s w (sample a.1.1.0.now a.1.1.1.0.now)
    ∙ ap₂ (λ (n : ℕ) (l : List ℕ). effect (response n nothing (call s w (sample a.1.1.0.now a.1.1.1.0.now)).response.report) l) (sym p.0) (sym p.1.0)
    ∙ ap (λ (l : List ℕ). effect (response r nothing l) after) (sym p.1.1)
step_is s w c x after (counts κs a r e p) = called s w (ask_counter a.1.1.0) ∙ asked _ _ _ _ w p.0 (ap counted p.1)
step_is s w c x after (unknowns κs a r e p) = called s w (ask_unknown a.1.1.0) ∙ asked _ _ _ _ w p.0 (ap counted p.1)
step_is s w c x after (items κs a r e p) =
    called s w (ask_item a.1.1.0) ∙ asked _ _ _ _ w p.0 (ap₂ (λ (n : ℕ) (f : Float). percent (read n f)) p.1.0 p.1.1)
step_is s w c x after (groups κs a r e p) = called s w ask_group ∙ asked _ _ _ _ w p.0 (ap₂ (λ (n m : ℕ). millionths (read n m)) p.1.0 p.1.1)

-- ---- a batch is the list of its sample calls

pub batch_step-is : (s w : List ℕ) (cs : List Call) (rs : List Response) (after : List ℕ) → Batch s w cs rs after → (register_responses s w cs ≡ rs) × (register_after s w cs ≡ after)
batch_step-is s w cs rs after (batches κs a r e p) =
    let b = batch-is s w a.1.1.0.now a.1.1.1.0.now in
    rw (p.0, p.1.0, p.1.1.0, p.1.1.1) (b.responses, b.words)
