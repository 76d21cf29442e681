-- Section 10: cross bin by cross bin, and cross by cross.
-- Assumes nothing.
use Prim.Native.Nat.{ℕ, zero, suc, ◌+◌, ◌-◌, ◌*◌, ◌<◌, ◌≤◌}
use mathlib.Core.Path.{◌≡◌, refl, ap, ap₂, sym, ◌∙◌}
use mathlib.Core.Bool.{Bool, true, false}
use mathlib.Core.List.{List, [], ◌∷◌}
use mathlib.Core.Option.{Option, none, some}
use native.Mathlib.Omega.{arith}
use lib.Dec.{eqb-zero-suc, eqb-suc-suc}
use lib.ListN.{length}
use Rattle.model.specs.Lists.{sum_of}
use Rattle.model.specs.Table.{Point, Select}
use Rattle.model.specs.Format.{BinHead, byte, times, each, cross_points, cross_head, cross_bins_owned, CrossBinHead, cross_bin_head, CrossParts, tokens_of, tokens_owned, token_tests, token_record, read_token, expressions, one_expression, read_select, read_selects, read_token_section, owned_count}
use Rattle.model.specs.Raw.{rows, cross_bin_heads_at, cross_heads_at, token_total}
use Rattle.model.proofs.RawCrosses.{token-total, select_of, selects_in}
use Rattle.model.proofs.Lists.{none_left, one_left}
use Rattle.std.proofs.Common.{Ok, Err}
use Rattle.words.specs.Verdicts.{Verdict, verdict_of, unless_fault, fault_at, pass}
use Rattle.words.specs.Verdicts as words
use Rattle.words.specs.Sums.{sum_from}
use Rattle.words.specs.declared.verdicts.Fault.{Fault}
use Rattle.words.specs.declared.verdicts.FaultClass.TheVariants.{Disagreement}
use Rattle.check_crosses.proofs.CrossLaws.{passed-test}
use Rattle.words.proofs.Laws.{owners_done, owners_stop, owners_on}
use Rattle.words.proofs.Chain.{bind_stop, bind_done, rows_on}
use Rattle.check_tokens.specs.Tokens.{found}
use Rattle.words.proofs.Chain.{says_in, count_stop, count_on}

-- ---- one cross bin

verdict_one : (o : Option (List Select)) (end : ℕ) → verdict_of (one_expression o end) ≡ unless_fault (found 1 o) Disagreement (end - 20) (Ok end)
unfolding verdict_of found
verdict_one none end = refl
verdict_one (some []) end = refl
verdict_one (some (e ∷ [])) end = refl
verdict_one (some (e ∷ f ∷ es)) end = sym (ap (λ (b : Bool). unless_fault b Disagreement (end - 20) (Ok end)) (eqb-suc-suc 0 (suc (length es)) ∙ eqb-zero-suc (length es)))

module _ (s : List ℕ) (ps : List Point) (bins : List BinHead) (c b n at : ℕ) (number : n ≡ byte s (b + 2)) where
  tokens_read : (q : Verdict) → q ≡ verdict_of (times n (read_token s ps bins (cross_points s c)) at) → q ≡ verdict_of (times (byte s (b + 2)) (read_token s ps bins (cross_points s c)) at)
  tokens_read q e = e ∙ ap (λ (k : ℕ). verdict_of (times k (read_token s ps bins (cross_points s c)) at)) number

  pub select_stop : (f : Fault) → Err f ≡ verdict_of (times n (read_token s ps bins (cross_points s c)) at) → Err f ≡ verdict_of (read_select s ps bins (cross_bin_head s (cross_points s c) b) at)
  unfolding read_select
  select_stop f e = bind_stop (times (byte s (b + 2)) (read_token s ps bins (cross_points s c))) _ at f (tokens_read (Err f) e)

  module _ (end : ℕ) (e : Ok end ≡ verdict_of (times n (read_token s ps bins (cross_points s c)) at)) (one : Bool) (last : ℕ) (o : one ≡ found 1 (expressions (rows (token_record s) 20 at n))) (l : last ≡ end - 20) where
    select_on : (y : Verdict) → y ≡ unless_fault one Disagreement last (Ok end) → y ≡ verdict_of (read_select s ps bins (cross_bin_head s (cross_points s c) b) at)
    unfolding read_select read_token
    select_on y h =
        rows_on s 20 (token_tests s ps bins (cross_points s c)) (token_record s) _ (byte s (b + 2)) at end y (tokens_read (Ok end) e)
        (bind_done (one_expression (expressions (rows (token_record s) 20 at (byte s (b + 2))))) _ end y
        (h ∙ ap (λ (x : ℕ). unless_fault one Disagreement x (Ok end)) l ∙ ap (λ (x : Bool). unless_fault x Disagreement (end - 20) (Ok end)) (o ∙ ap (λ (k : ℕ). found 1 (expressions (rows (token_record s) 20 at k))) number)
        ∙ sym (verdict_one (expressions (rows (token_record s) 20 at (byte s (b + 2)))) end)))

    -- the tokens are not one expression, or they are
    pub select_refused : (f : Fault) → Err f ≡ words.tested one Disagreement last → Err f ≡ verdict_of (read_select s ps bins (cross_bin_head s (cross_points s c) b) at)
    select_refused f h = select_on (Err f) (go one h)
      where
        go : (b : Bool) → Err f ≡ words.tested b Disagreement last → Err f ≡ unless_fault b Disagreement last (Ok end)
        go true h = absurd (cc)
        go false h = ap (λ (q : Fault). Err q) (let y : f ≡ fault_at Disagreement last = cc in y)

    pub select_read : pass ≡ words.tested one Disagreement last → Ok end ≡ verdict_of (read_select s ps bins (cross_bin_head s (cross_points s c) b) at)
    select_read h = select_on (Ok end) (sym (ap (λ (x : Bool). unless_fault x Disagreement last (Ok end)) (passed-test one Disagreement last h)))

-- ---- the bins of one cross, and those of all

module _ (s : List ℕ) (ps : List Point) (bins : List BinHead) where
  pub select_in : (c b at end : ℕ) → at ≤ length s → Ok end ≡ verdict_of (read_select s ps bins (cross_bin_head s (cross_points s c) b) at) → end ≤ length s
  select_in c b at end h e = says_in _ _ _ (length s) end (select_of s ps bins c b at h) e

  pub selects_end : (c b n at end : ℕ) → at ≤ length s → Ok end ≡ verdict_of (each (read_select s ps bins) (cross_bin_heads_at s c b n) at) → end ≤ length s
  selects_end c b n at end h e = says_in _ _ _ (length s) end (selects_in s ps bins c n b at h) e

  -- the bins of the cross at c, k in number
  abbrev parts_at : ℕ → ℕ → ℕ → CrossParts CrossBinHead
  parts_at c b k = record { head = cross_head s c; bins = cross_bin_heads_at s c b k }

  verdict_cross_bins : (c b k at : ℕ) → verdict_of (read_selects s ps bins (parts_at c b k) at) ≡ verdict_of (each (read_select s ps bins) (cross_bin_heads_at s c b k) at)
  unfolding read_selects
  verdict_cross_bins c b k at = sym (bind_done (each (read_select s ps bins) (cross_bin_heads_at s c b k)) _ at _ refl)

  module _ (m i c b at : ℕ) (x : Verdict) (inv : x ≡ verdict_of (each (read_selects s ps bins) (cross_heads_at s c b (m - i)) at)) where
    pub heads_done : m ≤ i → Ok at ≡ x
    unfolding cross_heads_at
    heads_done h = owners_done (read_selects s ps bins) (cross_heads_at s c b (m - i)) at x inv (ap (cross_heads_at s c b) (none_left m i h))

    parts : (k : ℕ) → k ≡ byte s (c + 12) → i < m → cross_heads_at s c b (m - i) ≡ parts_at c b k ∷ cross_heads_at s (c + 13) (b + 3 * k) (m - (i + 1))
    unfolding cross_heads_at
    parts k e h = ap (cross_heads_at s c b) (one_left m i h) ∙ ap (λ (k : ℕ). parts_at c b k ∷ cross_heads_at s (c + 13) (b + 3 * k) (m - (i + 1))) (sym e)

    pub heads-stop : (k : ℕ) (f : Fault) → k ≡ byte s (c + 12) → i < m → Err f ≡ verdict_of (each (read_select s ps bins) (cross_bin_heads_at s c b k) at) → Err f ≡ x
    heads-stop k f e h r =
        owners_stop (read_selects s ps bins) (cross_heads_at s c b (m - i)) at x inv (parts_at c b k) (cross_heads_at s (c + 13) (b + 3 * k) (m - (i + 1))) f (parts k e h)
        (r ∙ sym (verdict_cross_bins c b k at))

    pub heads-on : (k next : ℕ) → k ≡ byte s (c + 12) → i < m → Ok next ≡ verdict_of (each (read_select s ps bins) (cross_bin_heads_at s c b k) at)
        → x ≡ verdict_of (each (read_selects s ps bins) (cross_heads_at s (c + 13) (b + 3 * k) (m - (i + 1))) next)
    heads-on k next e h r =
        owners_on (read_selects s ps bins) (cross_heads_at s c b (m - i)) at x inv (parts_at c b k) (cross_heads_at s (c + 13) (b + 3 * k) (m - (i + 1))) next (parts k e h)
        (r ∙ sym (verdict_cross_bins c b k at))

-- ---- how many tokens

total-add : (s : List ℕ) (m n b : ℕ) → token_total s b (m + n) ≡ token_total s b m + token_total s (b + 3 * m) n
unfolding token_total rows sum_of
total-add s zero n b = ap₂ (λ (x y : ℕ). token_total s x y) (let y : b ≡ b + 3 * 0 = omega arith in y) (let y : 0 + n ≡ n = omega arith in y) ∙ omega arith
total-add s (suc m) n b =
    let here = byte s (b + 2) in
    let e : token_total s (b + 3) (m + n) ≡ token_total s (b + 3) m + token_total s (b + 3 + 3 * m) n = total-add s m n (b + 3) in
    let f : token_total s (b + 3 + 3 * m) n ≡ token_total s (b + 3 * suc m) n = ap (λ (x : ℕ). token_total s x n) (let y : b + 3 + 3 * m ≡ b + 3 * suc m = omega arith in y) in
    ap (token_total s b) (let y : suc m + n ≡ suc (m + n) = omega arith in y)
    ∙ (let y : here + token_total s (b + 3) (m + n) ≡ here + token_total s (b + 3) m + token_total s (b + 3 * suc m) n = omega arith in y)

-- the tokens of all crosses are those of all cross bins
tokens_flat : (s : List ℕ) (n c b : ℕ) → sum_of tokens_owned (cross_heads_at s c b n) ≡ token_total s b (sum_of cross_bins_owned (rows (cross_head s) 13 c n))
unfolding cross_heads_at rows sum_of
tokens_flat s zero c b = unfold token_total in refl
tokens_flat s (suc n) c b =
    let k = byte s (c + 12) in
    ap₂ ◌+◌ (token-total s (cross_points s c) k b) (tokens_flat s n (c + 13) (b + 3 * k))
    ∙ sym (total-add s k (sum_of cross_bins_owned (rows (cross_head s) 13 (c + 13) n)) b)

pub tokens-counted : (s : List ℕ) (c b n m sum : ℕ) → m ≡ sum_from 0 cross_bins_owned (cross_head s) 13 c n → sum ≡ sum_from 0 tokens_of (cross_bin_head s []) 3 b m → sum ≡ sum_of tokens_owned (cross_heads_at s c b n)
unfolding sum_from token_total
tokens-counted s c b n m sum e f =
    let y : m ≡ sum_of cross_bins_owned (rows (cross_head s) 13 c n) = e ∙ omega arith in
    f ∙ (let z : 0 + token_total s b m ≡ token_total s b m = omega arith in z) ∙ ap (token_total s b) y ∙ sym (tokens_flat s n c b)

-- ---- the section

module _ (s : List ℕ) (ps : List Point) (bins : List BinHead) (c b n m at sum : ℕ) (e : m ≡ sum_from 0 cross_bins_owned (cross_head s) 13 c n) (f : sum ≡ sum_from 0 tokens_of (cross_bin_head s []) 3 b m) where
  pub tokens_stop : (g : Fault) → Err g ≡ verdict_of (owned_count s 1024 sum at) → Err g ≡ verdict_of (read_token_section s ps bins (cross_heads_at s c b n) at)
  unfolding read_token_section
  tokens_stop g h = count_stop s 1024 at sum (sum_of tokens_owned (cross_heads_at s c b n)) _ (tokens-counted s c b n m sum e f) g h

  pub tokens_on : (next : ℕ) (y : Verdict) → Ok next ≡ verdict_of (owned_count s 1024 sum at) → y ≡ verdict_of (each (read_selects s ps bins) (cross_heads_at s c b n) next)
      → y ≡ verdict_of (read_token_section s ps bins (cross_heads_at s c b n) at)
  unfolding read_token_section
  tokens_on next y g h = count_on s 1024 at sum (sum_of tokens_owned (cross_heads_at s c b n)) _ (tokens-counted s c b n m sum e f) next y g h
