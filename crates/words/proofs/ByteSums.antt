-- Sums of a byte over records in a row: a loop's steps, and what such a sum is of.
-- Assumes nothing.
use Prim.Native.Nat.{ℕ, zero, suc, ◌+◌, ◌*◌, ◌-◌, ◌<◌, ◌≤◌}
use mathlib.Core.Path.{◌≡◌, refl, sym, ap, ap₂, ◌∙◌}
use mathlib.Core.List.{List}
use native.Mathlib.Omega.{arith}
use native.Mathlib.Nat.{sub-zero}
use borrow.Author.Rules.{rules}
use Rattle.model.specs.Lists.{sum_of}
use Rattle.model.specs.Format.{byte}
use Rattle.model.specs.Raw.{rows}
use Rattle.model.proofs.Lists.{none_left, one_left}
use Rattle.words.specs.Sums.{byte_sum, sum_from}

-- a loop's sum so far, with what is left
unfoldable pub bytes_from : List ℕ → ℕ → ℕ → ℕ → ℕ → ℕ
bytes_from s size sum at n = sum + byte_sum s size at n

module _ (s : List ℕ) (size : ℕ) where
  pub bytes_start : (m at : ℕ) → byte_sum s size at m ≡ bytes_from s size 0 at (m - 0)
  unfolding bytes_from
  bytes_start m at = rw sub-zero (omega arith)

  module _ (m i at x sum : ℕ) (inv : x ≡ bytes_from s size sum at (m - i)) where
    pub bytes-done : m ≤ i → sum ≡ x
    unfolding byte_sum bytes_from
    bytes-done h = let y : x ≡ sum + 0 = rw (none_left m i h) at inv in omega arith

    pub bytes_on : (r : ℕ) → i < m → r ≡ byte s at → x ≡ bytes_from s size (sum + r) (at + size) (m - (i + 1))
    unfolding byte_sum bytes_from
    bytes_on r h e = let y : x ≡ sum + (byte s at + byte_sum s size (at + size) (m - (i + 1))) = rw (one_left m i h) at inv in omega arith

pub ruleset byte_sums = (rules, bytes_start, bytes-done, bytes_on)

-- a field of one byte, over records
pub byte-field : {A : Type 0} (s : List ℕ) (f : A → ℕ) (says : ℕ → A) (size off : ℕ) → ((at : ℕ) → f (says at) ≡ byte s (at + off))
    → (at n : ℕ) → byte_sum s size (at + off) n ≡ sum_of f (rows says size at n)
unfolding byte_sum sum_of rows
byte-field s f says size off h at zero = refl
byte-field s f says size off h at (suc n) =
    ap₂ ◌+◌ (sym (h at)) (ap (λ (p : ℕ). byte_sum s size p n) (let y : at + off + size ≡ at + size + off = omega arith in y) ∙ byte-field s f says size off h (at + size) n)

pub byte_field₀ : {A : Type 0} (s : List ℕ) (f : A → ℕ) (says : ℕ → A) (size : ℕ) → ((at : ℕ) → f (says at) ≡ byte s at)
    → (at n : ℕ) → byte_sum s size at n ≡ sum_of f (rows says size at n)
byte_field₀ s f says size h at n =
    ap (λ (p : ℕ). byte_sum s size p n) (let y : at ≡ at + 0 = omega arith in y)
    ∙ byte-field s f says size 0 (λ p. h p ∙ ap (byte s) (let y : p ≡ p + 0 = omega arith in y)) at n

-- as a loop keeps such a sum
pub byte-sum_from : {A : Type 0} (s : List ℕ) (f : A → ℕ) (says : ℕ → A) (size off : ℕ) → ((at : ℕ) → f (says at) ≡ byte s (at + off))
    → (at n : ℕ) → byte_sum s size (at + off) n ≡ sum_from 0 f says size at n
unfolding sum_from
byte-sum_from s f says size off h at n = let fields = byte-field s f says size off h at n in omega arith

-- cut anywhere
pub bytes-add : (s : List ℕ) (size at a b : ℕ) → byte_sum s size at (a + b) ≡ byte_sum s size at a + byte_sum s size (at + size * a) b
unfolding byte_sum
bytes-add s size at zero b =
    ap (byte_sum s size at) (let y : 0 + b ≡ b = omega arith in y) ∙ ap (λ (p : ℕ). byte_sum s size p b) (let y : at ≡ at + size * 0 = omega arith in y)
    ∙ (let y : byte_sum s size (at + size * 0) b ≡ 0 + byte_sum s size (at + size * 0) b = omega arith in y)
bytes-add s size at (suc a) b =
    let p = at + size in
    ap (byte_sum s size at) (let y : suc a + b ≡ suc (a + b) = omega arith in y)
    ∙ ap (byte s at +◌) (bytes-add s size p a b ∙ ap (λ (x : ℕ). byte_sum s size p a + byte_sum s size x b) (let y : p + size * a ≡ at + size * suc a = omega arith in y))
    ∙ (let y : byte s at + (byte_sum s size p a + byte_sum s size (at + size * suc a) b) ≡ byte s at + byte_sum s size p a + byte_sum s size (at + size * suc a) b = omega arith in y)
