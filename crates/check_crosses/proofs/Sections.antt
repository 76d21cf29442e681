-- Sections 8 to 10, one after the other.
-- Assumes nothing.
use Prim.Native.Nat.{ℕ, ◌+◌, ◌*◌, ◌≤◌}
use mathlib.Core.Path.{◌≡◌, ap, sym, ◌∙◌, subst}
use mathlib.Core.List.{List}
use native.Mathlib.Omega.{arith}
use lib.ListN.{length}
use Rattle.model.specs.Format.{BinHead, u16, point_record, cross_head, read_cross_section, read_cross_bin_section, read_token_section, read_crosses}
use Rattle.model.specs.Raw.{rows, points_at, cross_heads_at}
use Rattle.model.proofs.RawLaws.{length-rows}
use Rattle.model.proofs.RawCrosses.{crosses_raw, cross-bins_raw}
use Rattle.std.proofs.Common.{Ok, Err}
use Rattle.words.specs.Verdicts.{Verdict, verdict_of}
use Rattle.words.specs.declared.verdicts.Fault.{Fault}
use Rattle.words.proofs.Chain.{bind_stop}
use Rattle.check_crosses.specs.Crosses.{CrossesOk}
use Rattle.words.proofs.Chain.{says-sound, says_on}
use Rattle.check_crosses.proofs.CrossLaws.{crosses-ok}

-- ninth and tenth are the places where sections 9 and 10 begin

-- ---- what stands in the table, where they are sound

module _ (s : List ℕ) (np at n ninth : ℕ) (e : Ok ninth ≡ verdict_of (read_cross_section s np at)) (k : n ≡ u16 s at) where
  pub heads_room : (ninth ≡ at + 2 + 13 * n) × (at + 2 + 13 * n ≤ length s)
  heads_room =
      let y = says-sound (read_cross_section s np at) _ _ (length s) ninth (crosses_raw s np at) e in
      (omega (arith, y.1), omega (arith, y.2))

  pub heads_ok : CrossesOk s np (at + 2) n
  heads_ok = subst (CrossesOk s np (at + 2)) (sym k) (crosses-ok s np at ninth e)

pub bins-room : (s : List ℕ) (c n at tenth : ℕ) → Ok tenth ≡ verdict_of (read_cross_bin_section s (rows (cross_head s) 13 c n) at) → (at + 2 ≤ length s) × (tenth ≤ length s)
bins-room s c n at tenth f =
    let y = says-sound (read_cross_bin_section s (rows (cross_head s) 13 c n) at) _ _ (length s) tenth (cross-bins_raw s c n at) f in
    (omega (arith, y.2), omega (arith, y.1, y.2))

-- ---- the verdict on all three

module _ (s : List ℕ) (points np : ℕ) (bins : List BinHead) (at : ℕ) where
  heads_read : (a : Verdict) → a ≡ verdict_of (read_cross_section s np at) → a ≡ verdict_of (read_cross_section s (length (points_at s points np)) at)
  heads_read a e = e ∙ ap (λ (n : ℕ). verdict_of (read_cross_section s n at)) (sym (length-rows (point_record s) 11 points np))

  pub heads_refused : (f : Fault) → Err f ≡ verdict_of (read_cross_section s np at) → Err f ≡ verdict_of (read_crosses s (points_at s points np) bins at)
  unfolding read_crosses
  heads_refused f e = bind_stop (read_cross_section s (length (points_at s points np))) _ at f (heads_read (Err f) e)

  module _ (ninth n : ℕ) (e : Ok ninth ≡ verdict_of (read_cross_section s np at)) (k : n ≡ u16 s at) where
    bins_read : (b : Verdict) → b ≡ verdict_of (read_cross_bin_section s (rows (cross_head s) 13 (at + 2) n) ninth) → b ≡ verdict_of (read_cross_bin_section s (rows (cross_head s) 13 (at + 2) (u16 s at)) ninth)
    bins_read b f = f ∙ ap (λ (n : ℕ). verdict_of (read_cross_bin_section s (rows (cross_head s) 13 (at + 2) n) ninth)) k

    pub bins-refused : (f : Fault) → Err f ≡ verdict_of (read_cross_bin_section s (rows (cross_head s) 13 (at + 2) n) ninth) → Err f ≡ verdict_of (read_crosses s (points_at s points np) bins at)
    unfolding read_crosses
    bins-refused f e₂ =
        says_on (read_cross_section s (length (points_at s points np))) _ at _ _ (length s) ninth (Err f) (crosses_raw s (length (points_at s points np)) at) (heads_read (Ok ninth) e)
        (bind_stop (read_cross_bin_section s (rows (cross_head s) 13 (at + 2) (u16 s at))) _ ninth f (bins_read (Err f) e₂))

    pub all_read : (tenth : ℕ) (y : Verdict) → Ok tenth ≡ verdict_of (read_cross_bin_section s (rows (cross_head s) 13 (at + 2) n) ninth)
        → y ≡ verdict_of (read_token_section s (points_at s points np) bins (cross_heads_at s (at + 2) (ninth + 2) n) tenth)
        → y ≡ verdict_of (read_crosses s (points_at s points np) bins at)
    unfolding read_crosses
    all_read tenth y f h =
        says_on (read_cross_section s (length (points_at s points np))) _ at _ _ (length s) ninth y (crosses_raw s (length (points_at s points np)) at) (heads_read (Ok ninth) e)
        (says_on (read_cross_bin_section s (rows (cross_head s) 13 (at + 2) (u16 s at))) _ ninth _ _ (length s) tenth y (cross-bins_raw s (at + 2) (u16 s at) ninth) (bins_read (Ok tenth) f)
        (h ∙ ap (λ (n : ℕ). verdict_of (read_token_section s (points_at s points np) bins (cross_heads_at s (at + 2) (ninth + 2) n) tenth)) k))
