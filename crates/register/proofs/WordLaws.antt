-- The register's words after an accepted call, as the code writes and reads them.
-- Assumes nothing.
use mathlib.Core.Path.{◌≡◌, refl, sym, ap, ap₂, ◌∙◌}
use mathlib.Core.Bool.{Bool, cond}
use mathlib.Core.List.{List, [], ◌∷◌, ◌++◌}
use Prim.Native.Nat.{ℕ, suc, ◌+◌, ◌-◌, ◌≤◌, ◌<◌}
use native.Mathlib.Omega.{arith}
use lib.ListN.{length, take, drop, get_or, set, replicate, length-replicate}
use lib.Seq.{take-add, get_or-take, get_or-drop}
use borrow.Author.Tests.{eq-eqb, ne_eqb}
use Rattle.model.specs.Table.{Table}
use Rattle.model.specs.Register.{point_total, counter_total, words_needed, counts_of, unknowns_of, start, restarted, accept}
use Rattle.arrays.specs.Put.{put}
use Rattle.arrays.proofs.PutLaws.{put-zero, put-cons}
use Rattle.table.specs.declared.answer.Facts.{Facts}
use Rattle.refusals.specs.Refusals.{Describes, words_of}
use Rattle.refusals.proofs.RefusalLaws.{words_by}

-- ---- writes, on plain numbers

new-words : (w : List ℕ) (m n : ℕ) → m ≡ suc n → 1 ≤ length w → put 1 (replicate n 0) (set w 0 1) ≡ 1 ∷ replicate (m - 1) 0 ++ drop m w
new-words w m n e h =
    let k : n ≡ m - 1 = omega arith in
    let l : suc (length {A = ℕ} (replicate n 0)) ≡ m = omega (arith, length-replicate {A = ℕ} n 0) in
    put-cons 0 1 (replicate n 0) w h ∙ put-zero (1 ∷ replicate n 0) w ∙ ap₂ (λ (a b : ℕ). 1 ∷ replicate a 0 ++ drop b w) k l

cleared-words : (w : List ℕ) (c p r : ℕ) → 2 ≤ length w
    → put (2 + c + p) (replicate r 0) (set w 0 1) ≡ 1 ∷ get_or w 1 0 ∷ take c (drop 2 w) ++ take p (drop (2 + c) w) ++ replicate r 0 ++ drop (2 + c + p + r) w
unfolding put
cleared-words [] c p r h = absurd (omega arith)
cleared-words (x ∷ []) c p r h = absurd (omega arith)
cleared-words (x ∷ y ∷ ws) c p r h =
    let a : 2 + c ≡ suc (suc c) = omega arith in
    let b : 2 + c + p ≡ suc (suc (c + p)) = omega arith in
    let d : 2 + c + p + length {A = ℕ} (replicate r 0) ≡ suc (suc (c + p + r)) = omega (arith, length-replicate {A = ℕ} r 0) in
    let e : 2 + c + p + r ≡ suc (suc (c + p + r)) = omega arith in
    rw (d, e, b, a, take-add c p ws)

-- the flag alone
pub stop-words : (w : List ℕ) → 1 ≤ length w → set w 0 0 ≡ 0 ∷ drop 1 w
stop-words [] h = absurd (omega arith)
stop-words (x ∷ w) h = refl

-- a start: a register that runs stays as it is
pub start-runs : (t : Table) (w : List ℕ) → get_or w 0 0 ≡ 1 → w ≡ (accept t w start).words
unfolding accept
start-runs t w e = ap (λ (b : Bool). cond b w (restarted t w)) (sym (eq-eqb (get_or w 0 0) 1 e))

pub start_stopped : (t : Table) (w : List ℕ) → (get_or w 0 0 ≡ 1 → ⊥) → restarted t w ≡ (accept t w start).words
unfolding accept
start_stopped t w e = ap (λ (b : Bool). cond b w (restarted t w)) (sym (ne_eqb (get_or w 0 0) 1 e))

-- ---- by the table's facts

module _ (f : Facts) (t : Table) (d : Describes f t) (w : List ℕ) where
  pub reset_words : words_of f ≤ length w → put 1 (replicate (1 + f.counters + f.points + f.runs) 0) (set w 0 1) ≡ 1 ∷ replicate (words_needed t - 1) 0 ++ drop (words_needed t) w
  reset_words h =
      let e : words_needed t ≡ suc (1 + f.counters + f.points + f.runs) = omega (arith, words_by f w t d) in
      new-words w (words_needed t) (1 + f.counters + f.points + f.runs) e (omega arith)

  pub restart_words : words_of f ≤ length w → put (2 + f.counters + f.points) (replicate f.runs 0) (set w 0 1) ≡ restarted t w
  unfolding restarted counts_of unknowns_of words_needed
  restart_words h = cleared-words w f.counters f.points f.runs (omega arith) ∙ rw (d.counters, d.points, d.runs)

  pub count_read : (i : ℕ) → i < f.counters → get_or w (2 + i) 0 ≡ get_or (counts_of t w) i 0
  unfolding counts_of
  count_read i h = sym (get_or-take (counter_total t) (drop 2 w) i 0 (omega (arith, d.counters)) ∙ get_or-drop 2 w i 0)

  pub unknown_read : (i : ℕ) → i < f.points → get_or w (2 + f.counters + i) 0 ≡ get_or (unknowns_of t w) i 0
  unfolding unknowns_of
  unknown_read i h =
      ap (λ (n : ℕ). get_or w (2 + n + i) 0) d.counters
      ∙ sym (get_or-take (point_total t) (drop (2 + counter_total t) w) i 0 (omega (arith, d.points)) ∙ get_or-drop (2 + counter_total t) w i 0)
