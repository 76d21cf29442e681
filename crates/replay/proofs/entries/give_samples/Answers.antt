use Rattle.std.proofs.Common.{◌≡◌, ◌≤◌, ℕ, List, length, take, sym, ap, subst, ◌∙◌, arith}
use Rattle.arrays.specs.Put.{put}
use Rattle.arrays.proofs.PutLaws.{front-put}
use Rattle.refusals.specs.Numbers.{number_in}
use Rattle.turns.specs.declared.Taken.{Taken}
use Rattle.turns.specs.Batch.{batch}
use Rattle.turns.specs.Turns.{Took}
use Rattle.sample_log.specs.Samples.{samples_in}
use Rattle.replay.proofs.BatchLaws.{batch-few}
use Rattle.replay.proofs.entries.give_samples.Goals as goal

-- the words that were written
front : (v l m : List ℕ) (n : ℕ) → l ≡ put 0 v m → n ≡ length v → n ≤ length m → take n l ≡ v
front v l m n e k h = ap (take n) e ∙ front-put n v m (sym k) h

took : (t g p v x w r : List ℕ) (a : Taken) → x ≡ v → number_in a.end ≡ (batch t g x p).number → a.taken ≡ (batch t g x p).taken → w ≡ (batch t g x p).words → r ≡ (batch t g x p).reports → Took (batch t g v p) a w r
took t g p v x w r a e number taken words reports =
    subst (λ (y : List ℕ). Took (batch t g y p) a w r) e (record { number = number; taken = taken; words = words; reports = reports })

pub returns-clause-took : goal.returns-clause-took
returns-clause-took c =
    let a = c.args in
    let w = c.put_samples-n.ensures in
    let h = c.samples.ensures in
    let v = samples_in a.points a.count a.bytes.now in
    let e = front v _ _ _ w.2 w.0 (omega arith) in
    took a.table.now a.register.now a.reports.now v _ _ _ _ e h.number_value h.taken_value h.register_after h.reports_after

pub returns-clause-taken_bound : goal.returns-clause-taken_bound
returns-clause-taken_bound c =
    let a = c.args in
    let w = c.put_samples-n.ensures in
    let v = samples_in a.points a.count a.bytes.now in
    let t = returns-clause-took c in
    omega (arith, t.taken, batch-few a.table.now a.register.now v a.reports.now, w.0, w.1)
