-- The sample word, the counts and the unknown counts are raised one after the other.
-- Assumes nothing.
use mathlib.Core.Path.{◌≡◌, sym, ap, ap₂, ◌∙◌}
use mathlib.Core.List.{List, ◌∷◌, ◌++◌}
use Prim.Native.Nat.{ℕ, ◌+◌, ◌≤◌}
use native.Mathlib.Numerals.{add-one}
use native.Mathlib.Omega.{arith}
use lib.ListN.{length, take, drop, get_or, set, length-drop, length-set}
use lib.Seq.{length-take-le, drop-set-lt}
use Rattle.arrays.specs.Put.{put}
use Rattle.arrays.specs.declared.reading.Reading as code
use Rattle.arrays.proofs.PutLaws.{put-cons, put_next, drop-put}
use Rattle.places.specs.Places.{is_set}
use Rattle.samples.specs.Adds.{add_hits, is_unknown_code}
use Rattle.samples.specs.Writes.{counts_after, Countable}
use Rattle.samples.proofs.WriteLaws.{length-add_hits}

module _ (k p : ℕ) (flags : List ℕ) (codes : List code.Reading) (w : List ℕ) (ok : Countable k p w) (hf : k ≤ length flags) (hc : p ≤ length codes) where
  -- after the sample word
  abbrev pub first : List ℕ
  first = set w 1 (get_or w 1 0 + 1)

  same_counts : drop 2 first ≡ drop 2 w
  same_counts = drop-set-lt 2 w 1 (get_or w 1 0 + 1) (omega arith)

  pub first_there : 2 + k ≤ length first
  first_there = simp length-set (omega (arith, ok.there))

  raised : List ℕ
  raised = add_hits is_set (take k flags) (take k (drop 2 first))

  raised_length : length raised ≡ k
  unfolding raised
  raised_length =
      let a : length (take k (drop 2 first)) ≡ k = length-take-le k (drop 2 first) (simp length-drop (omega (arith, first_there))) in
      length-add_hits is_set (take k flags) (take k (drop 2 first)) (length-take-le k flags hf ∙ sym a) ∙ a

  module _ (w₂ : List ℕ) (e₂ : w₂ ≡ put 2 (add_hits is_set (take k flags) (take k (drop 2 first))) first) where
    is-raised : w₂ ≡ put 2 raised first
    unfolding raised
    is-raised = e₂

    same-unknowns : drop (2 + k) w₂ ≡ drop (2 + k) w
    same-unknowns = ap (drop (2 + k)) is-raised ∙ drop-put 2 k raised first raised_length first_there ∙ drop-set-lt (2 + k) w 1 (get_or w 1 0 + 1) (omega arith)

    pub all-raised : (w₃ : List ℕ) → w₃ ≡ put (2 + k) (add_hits is_unknown_code (take p codes) (take p (drop (2 + k) w₂))) w₂ → w₃ ≡ put 1 (counts_after k p flags codes w) w
    unfolding counts_after raised
    all-raised w₃ e₃ =
        let u = add_hits is_unknown_code (take p codes) (take p (drop (2 + k) w)) in
        e₃
        ∙ ap₂ (λ (l z : List ℕ). put (2 + k) (add_hits is_unknown_code (take p codes) (take p l)) z) same-unknowns is-raised
        ∙ put_next 2 k raised u first raised_length first_there
        ∙ put-cons 1 (get_or w 1 0 + 1) (raised ++ u) w (omega (arith, ok.there))
        ∙ ap₂ (λ (x : ℕ) (l : List ℕ). put 1 (x ∷ add_hits is_set (take k flags) (take k l) ++ u) w) (add-one (get_or w 1 0)) same_counts
