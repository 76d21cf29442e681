-- The sample calls that a batch stands for, as a list, and their responses as its caller reads them.
-- Assumes nothing.
use Rattle.std.specs.Prelude.{ℕ, zero, suc, ◌+◌, List, [], ◌∷◌, ◌++◌, length, take, drop}
use Rattle.model.specs.Table.{Table}
use Rattle.model.specs.Format.{Outcome, rejected, decoded, decode}
use Rattle.model.specs.Register.{illegal_total, Call, sample, nothing, Response}
use Rattle.turns.specs.Batch.{sample_size}

-- ---- the calls

-- The samples' words v, cut: sample i has the reports' words from i × illegal_total on. At most n samples.
unfoldable pub cut_calls : Table → ℕ → List ℕ → List ℕ → List Call
cut_calls t zero v r = []
cut_calls t (suc n) [] r = []
cut_calls t (suc n) (x ∷ v) r = sample (take (sample_size t) (x ∷ v)) r ∷ cut_calls t n (drop (sample_size t) (x ∷ v)) (drop (illegal_total t) r)

-- of a refused table one sample is tried, whatever its words
abbrev pub calls_from : Outcome → List ℕ → List ℕ → List Call
calls_from (rejected f) [] r = []
calls_from (rejected f) (x ∷ v) r = sample (x ∷ v) r ∷ []
calls_from (decoded t) v r = cut_calls t (length v) v r

-- the samples that were taken, and the refused one if the number is not 0
abbrev pub first_calls : ℕ → ℕ → List Call → List Call
first_calls zero taken cs = take taken cs
first_calls (suc n) taken cs = take (suc taken) cs

-- the calls of a batch that answered this number and so many taken
abbrev pub batch_calls : List ℕ → ℕ → ℕ → List ℕ → List ℕ → List Call
batch_calls bytes number taken v r = first_calls number taken (calls_from (decode bytes) v r)

-- ---- their responses

abbrev pub answered : ℕ → List ℕ → Response
answered number report = record { number = number; answer = nothing; report = report }

abbrev pub refused_one : ℕ → List ℕ → List Response
refused_one zero r = []
refused_one (suc n) r = answered (suc n) r ∷ []

-- What stands after a report's own words: while n calls are to come, the reports as they were; after the last, as they are left.
abbrev pub beyond : ℕ → List ℕ → List ℕ → List ℕ
beyond zero r after = after
beyond (suc n) r after = r

-- k words for each report; r are the reports before, `after` those that the batch leaves
unfoldable pub responses_read : ℕ → ℕ → ℕ → List ℕ → List ℕ → List Response
responses_read k number zero r after = refused_one number after
responses_read k number (suc n) r after =
    answered 0 (take k after ++ beyond (number + n) (drop k r) (drop k after)) ∷ responses_read k number n (drop k r) (drop k after)

-- without words there is no call
abbrev pub batch_responses : ℕ → ℕ → ℕ → List ℕ → List ℕ → List ℕ → List Response
batch_responses k number taken [] r after = []
batch_responses k number taken (x ∷ v) r after = responses_read k number taken r after
