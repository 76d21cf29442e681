-- A batch takes no more samples than there are words.
-- Assumes nothing.
use mathlib.Core.List.{List, [], ◌∷◌}
use Prim.Native.Nat.{ℕ, zero, suc, ◌≤◌}
use native.Mathlib.Omega.{arith}
use lib.ListN.{length, take, drop}
use Rattle.model.specs.Table.{Table}
use Rattle.model.specs.Format.{Outcome, rejected, decoded, decode}
use Rattle.model.specs.Register.{illegal_total, Effect, sample, call}
use Rattle.turns.specs.Batch.{Batch, sample_size, and_then, in_turn, batch_from, batch}

turn-few : (s : List ℕ) (t : Table) (n : ℕ) (w v r : List ℕ) → (in_turn s t n w v r).taken ≤ n
unfolding in_turn
turn-few s t zero w v r = omega arith
turn-few s t (suc n) w [] r = omega arith
turn-few s t (suc n) w (x ∷ v) r =
    let e = call s w (sample (take (sample_size t) (x ∷ v)) r) in
    let v' = drop (sample_size t) (x ∷ v) in
    let r' = drop (illegal_total t) e.response.report in
    go e.response.number e (in_turn s t n e.words v' r') (turn-few s t n e.words v' r')
  where
    go : (m : ℕ) (e : Effect) (rest : Batch) → rest.taken ≤ n → (and_then (illegal_total t) m e rest).taken ≤ suc n
    go zero e rest h = omega arith
    go (suc m) e rest h = omega arith

pub batch-few : (s w v r : List ℕ) → (batch s w v r).taken ≤ length v
unfolding batch
batch-few s w v r = go (decode s) v
  where
    go : (o : Outcome) (v : List ℕ) → (batch_from o s w v r).taken ≤ length v
    go (rejected f) v = omega arith
    go (decoded t) [] = omega arith
    go (decoded t) (x ∷ v) = turn-few s t (length (x ∷ v)) w (x ∷ v) r
