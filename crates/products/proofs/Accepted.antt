-- What an accepted table grants of the cross whose record, bins and tokens stand at given places.
-- Assumes nothing.
use mathlib.Core.Path.{◌≡◌, refl, sym, ap, ap₂, ◌∙◌, subst}
use mathlib.Core.Bool.{Bool, true, false, not, ◌&&◌, ◌||◌, cond}
use mathlib.Core.List.{List, [], ◌∷◌, map}
use Prim.Native.Nat.{ℕ, zero, suc, ◌+◌, ◌*◌, ◌≤◌, ◌<◌}
use native.Mathlib.Omega.{arith}
use lib.Dec.{leb, ltb, eqb}
use lib.ListN.{length, get_or}
use borrow.Author.Tests.{leb-true, ltb-true, eqb-true}
use Rattle.model.specs.Lists.{up_from}
use Rattle.model.specs.Table.{Point, CrossBin, Cross, Table, no_point, no_cross}
use Rattle.model.specs.Values.{field_value, in_type}
use Rattle.model.specs.Counters.{point_at, cross_at}
use Rattle.model.specs.Format.{Test, BinHead, got, each, byte, u16, u64, field, unused, value_tests, cross_points, cross_point_test, cross_tests, cross_head, bin_head, cover_bin_of, CrossParts, CrossBinHead, cross_bin_tests, cross_bin_head, read_cross, read_cross_bin, read_cross_bins, token_rules, token_tests, token_record, read_token, read_select, read_selects, read_bin_section, read_range_section, read_transition_bins, read_cross_section, read_cross_bin_section, read_token_section, read_crosses, read_table, decode, decoded, accepted, table_of}
use Rattle.model.specs.Raw.{count_place, record_count, records_place, rows, cross_bin_heads_at, cross_heads_at}
use Rattle.model.specs.Raw as raw
use Rattle.model.specs.Register.{point_total}
use Rattle.model.proofs.Booleans.{false-true, and_left, and_right}
use Rattle.model.proofs.Readers.{bind_elim, got_record, AllPass, all-at, Consed, consed, got-cons, pass-right}
use Rattle.model.proofs.Access.{records, section-count}
use Rattle.model.proofs.AccessCrosses.{no_token}
use Rattle.model.proofs.Sections.{acceptance, accepted_decodes}
use Rattle.model.proofs.WellFormed.{GoodPoint, InPoints, well-formed}
use Rattle.model.proofs.TableExact.{point_at_lem}
use Rattle.model.proofs.RawLaws.{length-rows}
use Rattle.model.proofs.RawCrosses.{select_of, cross_of_lem, crosses_raw, cross-bins_raw, cross_bins_from, tokens_from, bins_of}
use Rattle.model.proofs.RawExact.{next_place_lem, points_placed, bins_placed, ranges_placed, transitions_placed, raw-exact}
use Rattle.model.proofs.Lists.{length-row, get_d-row}
use Rattle.arrays.specs.Flat.{CrossPlace, next_place, cross_place}
use Rattle.arrays.proofs.CrossPlaces.{place_from, place_is, cross-inside, cross-raw}
use Rattle.products.specs.Single.{BinsSingle, CrossesSingle}
use Rattle.products.proofs.Single.{accepted-single}
use Rattle.products.specs.Tokens.{token_point, Legal, TokensLegal}
use Rattle.products.specs.Marks.{BinsLegal}

-- ---- places, from the first cross on

place-cross : (s : List ℕ) (a : CrossPlace) (i : ℕ) → (place_from s a i).cross ≡ a.cross + i * 13
unfolding place_from
place-cross s a zero = omega arith
place-cross s a (suc i) = place-cross s (next_place s a) i ∙ omega arith

single-at : (s : List ℕ) (n : ℕ) (a : CrossPlace) (i : ℕ) → i < n → CrossesSingle s a.cross a.bins a.tokens n → (let p = place_from s a i in BinsSingle s p.bins p.tokens (byte s (p.cross + 12)))
unfolding CrossesSingle place_from
single-at s zero a i h x = absurd (omega arith)
single-at s (suc n) a zero h x = x.0
single-at s (suc n) a (suc i) h x = single-at s n (next_place s a) i (omega arith) x.1

-- ---- tokens

-- the tests of a token that passed
module _ (parts : ℕ) (p : Point) (op i b lo hi : ℕ) (names : Bool) (at : ℕ) (h : AllPass (token_rules parts p op i b lo hi names at)) where
  position_in : 1 ≤ parts → i < parts
  unfolding token_rules
  position_in some = go (leb op 2) h.1.0
    where
      go : (x : Bool) → (cond {A = Test} x (ltb i parts, field, at + 1) (eqb i 0, unused, at + 1)).0 ≡ true → i < parts
      go true e = ltb-true i parts e
      go false e = omega (arith, eqb-true i 0 e)

or_second : (a b : Bool) → a ≡ true → (not a || b) ≡ true → b ≡ true
or_second true b e h = h
or_second false b e h = absurd (false-true e)

names-bin : (parts : ℕ) (p : Point) (op i b lo hi : ℕ) (names : Bool) (at : ℕ) → AllPass (token_rules parts p op i b lo hi names at) → op ≡ 1 → names ≡ true
unfolding token_rules
names-bin parts p op i b lo hi names at h e = go (subst (λ (x : ℕ). AllPass (token_rules parts p x i b lo hi names at)) e h)
  where
    go : AllPass (token_rules parts p 1 i b lo hi names at) → names ≡ true
    go k = k.1.1.1.1.1.0

values_in : (parts : ℕ) (p : Point) (op i b lo hi : ℕ) (names : Bool) (at : ℕ) → AllPass (token_rules parts p op i b lo hi names at) → op ≡ 2
    → (in_type p (field_value lo) ≡ true) × (in_type p (field_value hi) ≡ true)
unfolding token_rules value_tests
values_in parts p op i b lo hi names at h e = go (subst (λ (x : ℕ). AllPass (token_rules parts p x i b lo hi names at)) e h)
  where
    go : AllPass (token_rules parts p 2 i b lo hi names at) → (in_type p (field_value lo) ≡ true) × (in_type p (field_value hi) ≡ true)
    go k = (k.1.1.1.0, k.1.1.1.1.0)

names-small : (bins : List BinHead) (p b : ℕ) → cover_bin_of bins p b ≡ true → b < length bins
unfolding cover_bin_of
names-small bins p b e = ltb-true b (length bins) (go (ltb b (length bins)) _ _ e)
  where
    go : (x y z : Bool) → (x && y && z) ≡ true → x ≡ true
    go true y z e = refl
    go false y z e = absurd (false-true e)

module _ (s : List ℕ) (ps : List Point) (bins : List BinHead) (good : (p : ℕ) → GoodPoint (get_or ps p no_point)) (few : length bins ≤ 512) (same : (p : ℕ) → get_or ps p no_point ≡ point_at (table_of s) p) where
  token_legal : (c at : ℕ) → 1 ≤ byte s c → AllPass (token_tests s ps bins (cross_points s c) at) → Legal s c at
  token_legal c at some h =
      let points = cross_points s c in
      let q = get_or points (byte s (at + 1)) 0 in
      let names = cover_bin_of bins q (u16 s (at + 2)) in
      let n : length points ≡ byte s c = length-row (λ i. byte s (c + 1 + i)) 0 (byte s c) in
      let g : ℕ → ℕ = λ i. byte s (c + 1 + i) in
      let position = position_in (length points) (get_or ps q no_point) (byte s at) (byte s (at + 1)) (u16 s (at + 2)) (u64 s (at + 4)) (u64 s (at + 12)) names at h (omega arith) in
      let values = values_in (length points) (get_or ps q no_point) (byte s at) (byte s (at + 1)) (u16 s (at + 2)) (u64 s (at + 4)) (u64 s (at + 12)) names at h in
      let place : q ≡ token_point s c at = get_d-row g 0 (byte s c) (byte s (at + 1)) 0 (omega arith) ∙ ap g (let z : 0 + byte s (at + 1) ≡ byte s (at + 1) = omega arith in z) in
      let here : get_or ps q no_point ≡ point_at (table_of s) (token_point s c at) = same q ∙ ap (point_at (table_of s)) place in
      record {
        position = omega arith;
        bin = λ e. omega (arith, names-small bins q (u16 s (at + 2)) (names-bin (length points) (get_or ps q no_point) (byte s at) (byte s (at + 1)) (u16 s (at + 2)) (u64 s (at + 4)) (u64 s (at + 12)) names at h e));
        low = λ e. subst (λ (x : Point). in_type x (field_value (u64 s (at + 4))) ≡ true) here (values e).0;
        high = λ e. subst (λ (x : Point). in_type x (field_value (u64 s (at + 12))) ≡ true) here (values e).1;
      }

  -- of one bin
  select_legal : (c b k : ℕ) → 1 ≤ byte s c → (x : CrossBin) (next : ℕ) → read_select s ps bins (cross_bin_head s (cross_points s c) b) k ≡ got x next → TokensLegal s c k (byte s (b + 2))
  unfolding read_select read_token TokensLegal
  select_legal c b k some x next e j h =
      bind_elim _ _ _ e λ ks end e₁ e₂.
      let r = records s 20 (token_tests s ps bins (cross_points s c)) (token_record s) no_token (byte s (b + 2)) k ks end e₁ in
      let z : k + j * 20 ≡ k + 20 * j = omega arith in
      subst (Legal s c) z (token_legal c (k + j * 20) some (r.2.record_at j (omega (arith, r.0))).passed)

  bins_legal : (c n b k : ℕ) → 1 ≤ byte s c → k ≤ length s → ((j : ℕ) → j < n → byte s (b + j * 3 + 2) ≤ 32) → (xs : List CrossBin) (end : ℕ) → each (read_select s ps bins) (cross_bin_heads_at s c b n) k ≡ got xs end → BinsLegal s c b k n
  unfolding each rows BinsLegal
  bins_legal c zero b k some h small xs end e = tt
  bins_legal c (suc n) b k some h small xs end e =
      go (got-cons (read_select s ps bins (cross_bin_head s (cross_points s c) b) k) (each (read_select s ps bins) (cross_bin_heads_at s c (b + 3) n)) e)
      (λ room. bins_legal c n (b + 3) (k + 20 * byte s (b + 2)) some room (λ j l. subst (λ (x : ℕ). byte s x ≤ 32) (let z : b + suc j * 3 + 2 ≡ b + 3 + j * 3 + 2 = omega arith in z) (small (suc j) (omega arith))))
    where
      first : byte s (b + 2) ≤ 32
      first = subst (λ (x : ℕ). byte s x ≤ 32) (let z : b + 0 * 3 + 2 ≡ b + 2 = omega arith in z) (small 0 (omega arith))

      go : Consed (read_select s ps bins (cross_bin_head s (cross_points s c) b) k) (each (read_select s ps bins) (cross_bin_heads_at s c (b + 3) n)) xs end
          → (k + 20 * byte s (b + 2) ≤ length s → (xs : List CrossBin) (end : ℕ) → each (read_select s ps bins) (cross_bin_heads_at s c (b + 3) n) (k + 20 * byte s (b + 2)) ≡ got xs end
          → BinsLegal s c (b + 3) (k + 20 * byte s (b + 2)) n)
          → (byte s (b + 2) ≤ 32) × TokensLegal s c k (byte s (b + 2)) × BinsLegal s c (b + 3) (k + 20 * byte s (b + 2)) n
      go (consed a next others e₁ e₂ z) ih =
          let r = select_of s ps bins c b k h a next e₁ in
          (first, select_legal c b k some a next e₁, ih r.2 others end (ap (each (read_select s ps bins) (cross_bin_heads_at s c (b + 3) n)) (sym r.1) ∙ e₂))

  cross_legal : (c b k : ℕ) → 1 ≤ byte s c → k ≤ length s → ((j : ℕ) → j < byte s (c + 12) → byte s (b + j * 3 + 2) ≤ 32) → (x : Cross) (next : ℕ)
      → read_selects s ps bins (record { head = cross_head s c; bins = cross_bin_heads_at s c b (byte s (c + 12)) }) k ≡ got x next → BinsLegal s c b k (byte s (c + 12))
  unfolding read_selects
  cross_legal c b k some h small x next e = bind_elim _ _ _ e λ bs end e₁ e₂. bins_legal c (byte s (c + 12)) b k some h small bs end e₁

-- ---- what was read of one cross

-- its tokens
module _ (s : List ℕ) (ps : List Point) (bins : List BinHead) where
  abbrev parts_of : CrossPlace → CrossParts CrossBinHead
  parts_of a = record { head = cross_head s a.cross; bins = cross_bin_heads_at s a.cross a.bins (byte s (a.cross + 12)) }

  record TokensRead (a : CrossPlace) : Type 0 where
    room : a.tokens ≤ length s
    cross : Cross
    next : ℕ
    read : read_selects s ps bins (parts_of a) a.tokens ≡ got cross next

  abbrev heads_from : CrossPlace → ℕ → List (CrossParts CrossBinHead)
  heads_from a n = cross_heads_at s a.cross a.bins n

  tokens_read : (n : ℕ) (a : CrossPlace) (i : ℕ) → i < n → a.tokens ≤ length s → (xs : List Cross) (end : ℕ) → each (read_selects s ps bins) (heads_from a n) a.tokens ≡ got xs end → TokensRead (place_from s a i)
  unfolding each cross_heads_at place_from
  tokens_read zero a i h room xs end e = absurd (omega arith)
  tokens_read (suc n) a i h room xs end e =
      go i h (got-cons (read_selects s ps bins (parts_of a) a.tokens) (each (read_selects s ps bins) (heads_from (next_place s a) n)) e) (tokens_read n (next_place s a))
    where
      go : (i : ℕ) → i < suc n → Consed (read_selects s ps bins (parts_of a) a.tokens) (each (read_selects s ps bins) (heads_from (next_place s a) n)) xs end
          → ((i : ℕ) → i < n → (next_place s a).tokens ≤ length s → (xs : List Cross) (end : ℕ) → each (read_selects s ps bins) (heads_from (next_place s a) n) (next_place s a).tokens ≡ got xs end → TokensRead (place_from s (next_place s a) i))
          → TokensRead (place_from s a i)
      go zero h (consed x next others e₁ e₂ z) ih = record { room = room; cross = x; next = next; read = e₁ }
      go (suc i) h (consed x next others e₁ e₂ z) ih =
          let r = cross_of_lem s ps bins a.cross a.bins a.tokens room x next e₁ in
          ih i (omega arith) r.2 others end (ap (each (read_selects s ps bins) (heads_from (next_place s a) n)) (sym r.1) ∙ e₂)

-- its bins
module _ (s : List ℕ) where
  record BinsRead (a : CrossPlace) : Type 0 where
    room : a.bins ≤ length s
    parts : CrossParts CrossBinHead
    next : ℕ
    read : read_cross_bins s (cross_head s a.cross) a.bins ≡ got parts next

  bins_read : (n : ℕ) (a : CrossPlace) (i : ℕ) → i < n → a.bins ≤ length s → (xs : List (CrossParts CrossBinHead)) (end : ℕ) → each (read_cross_bins s) (rows (cross_head s) 13 a.cross n) a.bins ≡ got xs end → BinsRead (place_from s a i)
  unfolding each rows place_from
  bins_read zero a i h room xs end e = absurd (omega arith)
  bins_read (suc n) a i h room xs end e =
      go i h (got-cons (read_cross_bins s (cross_head s a.cross) a.bins) (each (read_cross_bins s) (rows (cross_head s) 13 (a.cross + 13) n)) e) (bins_read n (next_place s a))
    where
      go : (i : ℕ) → i < suc n → Consed (read_cross_bins s (cross_head s a.cross) a.bins) (each (read_cross_bins s) (rows (cross_head s) 13 (a.cross + 13) n)) xs end
          → ((i : ℕ) → i < n → (next_place s a).bins ≤ length s → (xs : List (CrossParts CrossBinHead)) (end : ℕ) → each (read_cross_bins s) (rows (cross_head s) 13 (a.cross + 13) n) (next_place s a).bins ≡ got xs end → BinsRead (place_from s (next_place s a) i))
          → BinsRead (place_from s a i)
      go zero h (consed x next others e₁ e₂ z) ih = record { room = room; parts = x; next = next; read = e₁ }
      go (suc i) h (consed x next others e₁ e₂ z) ih =
          let r = bins_of s a.cross a.bins room x next e₁ in
          ih i (omega arith) r.2 others end (ap (each (read_cross_bins s) (rows (cross_head s) 13 (a.cross + 13) n)) (sym r.1) ∙ e₂)

  few_tokens : (c b : ℕ) (x : CrossParts CrossBinHead) (next : ℕ) → read_cross_bins s (cross_head s c) b ≡ got x next → (j : ℕ) → j < byte s (c + 12) → byte s (b + j * 3 + 2) ≤ 32
  unfolding read_cross_bins read_cross_bin
  few_tokens c b x next e j h =
      bind_elim _ _ _ e λ bs end e₁ e₂.
      let r = records s 3 (cross_bin_tests s) (cross_bin_head s (cross_points s c)) (cross_bin_head s [] 0) (byte s (c + 12)) b bs end e₁ in
      let n = byte s (b + j * 3 + 2) in
      leb-true n 32 (and_right (leb 1 n) (leb n 32) (r.2.record_at j (omega (arith, r.0))).passed.1.1.0)

record HeadRead (s : List ℕ) (c : ℕ) : Type 0 where
  near : c ≤ length s
  some : 2 ≤ byte s c
  four : byte s c ≤ 4
  bins : byte s (c + 12) ≤ 16

head_read : (s : List ℕ) (points at : ℕ) → at + 13 ≤ length s → AllPass (cross_tests s points at) → HeadRead s at
head_read s points at whole h =
    let n = byte s at in
    record {
      near = omega arith;
      some = leb-true 2 n (and_left (leb 2 n) (leb n 4) h.0);
      four = leb-true n 4 (and_right (leb 2 n) (leb n 4) h.0);
      bins = leb-true (byte s (at + 12)) 16 (pass-right (map (cross_point_test s points at) (up_from 0 4)) _ h.1).1.1.0;
    }

-- ---- the cross

pub record CrossGood (s : List ℕ) (c : ℕ) (a : CrossPlace) : Type 0 where
  pub said : cross_at (table_of s) c ≡ raw.cross_at s a.cross a.bins a.tokens
  pub near : (a.cross ≤ 65536) × (a.bins ≤ 65536) × (a.tokens ≤ 65536)
  pub some : 2 ≤ byte s a.cross
  pub four : byte s a.cross ≤ 4
  pub few : byte s (a.cross + 12) ≤ 16
  pub points : (i : ℕ) → i < byte s a.cross → byte s (a.cross + 1 + i) < point_total (table_of s)
  pub single : BinsSingle s a.bins a.tokens (byte s (a.cross + 12))
  pub legal : BinsLegal s a.cross a.bins a.tokens (byte s (a.cross + 12))

-- what sections 8 to 10 give
record Found (s : List ℕ) (ps : List Point) (bins : List BinHead) (a : CrossPlace) : Type 0 where
  head : HeadRead s a.cross
  owned : BinsRead s a
  tokens : TokensRead s ps bins a

module _ (s : List ℕ) (ps : List Point) (bins : List BinHead) where
  found : (at : ℕ) (cs : List Cross) (end : ℕ) → read_crosses s ps bins at ≡ got cs end → (i : ℕ) → i < u16 s at
      → Found s ps bins (place_from s (record { cross = at + 2; bins = cross_bins_from s at + 2; tokens = tokens_from s at + 2 }) i)
  unfolding read_crosses read_cross_section read_cross_bin_section read_token_section read_cross
  found at cs end e i h =
      bind_elim _ _ _ e λ hs n₉ e₁ r₁.
      bind_elim _ _ _ r₁ λ xs n₁₀ e₂ r₂.
      bind_elim _ _ _ r₂ λ m k e₃ r₃.
      bind_elim _ _ _ e₁ λ m₁ c₁ f₁ g₁.
      bind_elim _ _ _ e₂ λ m₂ c₂ f₂ g₂.
      let a = crosses_raw s (length ps) at hs n₉ e₁ in
      let b = cross-bins_raw s (at + 2) (u16 s at) (cross_bins_from s at) xs n₁₀ (ap₂ (read_cross_bin_section s) (sym a.0) (sym a.1) ∙ e₂) in
      let t₁ = got_record s 2 _ (u16 s) at f₁ in
      let t₂ = got_record s 2 _ (u16 s) n₉ f₂ in
      let t₃ = got_record s 2 _ (u16 s) n₁₀ e₃ in
      let place₂ : c₂ ≡ cross_bins_from s at + 2 = t₂.ends ∙ ap (λ (x : ℕ). x + 2) a.1 in
      let place₃ : k ≡ tokens_from s at + 2 = t₃.ends ∙ ap (λ (x : ℕ). x + 2) b.1 in
      let room₂ : cross_bins_from s at + 2 ≤ length s = omega (arith, t₂.whole, a.1) in
      let room₃ : tokens_from s at + 2 ≤ length s = omega (arith, t₃.whole, b.1) in
      let from : CrossPlace = record { cross = at + 2; bins = cross_bins_from s at + 2; tokens = tokens_from s at + 2 } in
      let heads-in = records s 13 (cross_tests s (length ps)) (cross_head s) (cross_head s 0) m₁ c₁ hs n₉ g₁ in
      let here : c₁ + i * 13 ≡ (place_from s from i).cross = ap (λ (x : ℕ). x + i * 13) t₁.ends ∙ sym (place-cross s from i) in
      let one = heads-in.2.record_at i (omega (arith, heads-in.0, t₁.said)) in
      record {
        head = subst (HeadRead s) here (head_read s (length ps) (c₁ + i * 13) one.whole one.passed);
        owned = bins_read s (u16 s at) from i h room₂ xs n₁₀ (ap₂ (each (read_cross_bins s)) (sym a.0) (sym place₂) ∙ g₂);
        tokens = tokens_read s ps bins (u16 s at) from i h room₃ cs end (ap₂ (each (read_selects s ps bins)) (sym b.0) (sym place₃) ∙ r₃);
      }

all_in : (n : ℕ) (xs : List ℕ) → InPoints n xs → (i : ℕ) → i < length xs → get_or xs i 0 < n
all_in n [] h i k = absurd (let z : i < 0 = k in omega arith)
all_in n (x ∷ xs) h zero k = h.0
all_in n (x ∷ xs) h (suc i) k = all_in n xs h.1 i (omega arith)

placed : ℕ → ℕ → ℕ → CrossPlace
placed c b k = record { cross = c; bins = b; tokens = k }

start_is : (s : List ℕ) → placed (count_place s 7 + 2) (cross_bins_from s (count_place s 7) + 2) (tokens_from s (count_place s 7) + 2) ≡ cross_place s 0
unfolding records_place placed cross_place
start_is s =
    let b : cross_bins_from s (count_place s 7) ≡ count_place s 8 = next_place_lem s 7 13 refl in
    let k : tokens_from s (count_place s 7) ≡ count_place s 9 = ap (λ (x : ℕ). x + 2 + 3 * u16 s x) b ∙ next_place_lem s 8 3 refl in
    ap₂ (λ (x y : ℕ). placed (count_place s 7 + 2) (x + 2) (y + 2)) b k

-- a cross of the table t, which was decoded
module _ (s : List ℕ) (t : Table) (e : decode s ≡ decoded t) (c : ℕ) (h : c < length t.crosses) where
  points_in : (i : ℕ) → i < byte s (cross_place s c).cross → byte s ((cross_place s c).cross + 1 + i) < length t.points
  points_in i k =
      let at = (cross_place s c).cross in
      let g : ℕ → ℕ = λ i. byte s (at + 1 + i) in
      let mine = subst (λ (x : Cross). InPoints (length t.points) x.points) (cross-raw s t e c h) (all-at (λ x. InPoints (length t.points) x.points) no_cross tt t.crosses (well-formed s t e).crosses c) in
      subst (λ (x : ℕ). byte s (at + 1 + x) < length t.points) (let z : 0 + i ≡ i = omega arith in z)
      (subst (λ (x : ℕ). x < length t.points) (get_d-row g 0 (byte s at) i 0 k) (all_in (length t.points) (cross_points s at) mine i (omega (arith, length-row g 0 (byte s at)))))

  record Known : Type 0 where
    head : HeadRead s (cross_place s c).cross
    room : ((cross_place s c).bins ≤ length s) × ((cross_place s c).tokens ≤ length s)
    legal : BinsLegal s (cross_place s c).cross (cross_place s c).bins (cross_place s c).tokens (byte s ((cross_place s c).cross + 12))

  known : t ≡ table_of s → Known
  unfolding read_table read_bin_section record_count placed
  known own =
      bind_elim _ _ _ (acceptance s t e).read λ ps n₁ e₁ r₁.
      bind_elim _ _ _ r₁ λ hs n₂ e₂ r₂.
      bind_elim _ _ _ r₂ λ bs n₃ e₃ r₃.
      bind_elim _ _ _ r₃ λ ts n₄ e₄ r₄.
      bind_elim _ _ _ r₄ λ cs n₅ e₅ r₅.
      bind_elim _ _ _ e₂ λ m k f g.
      let a₁ = points_placed s ps n₁ e₁ in
      let a₂ = bins_placed s (length ps) hs n₂ (ap (read_bin_section s (length ps)) (sym a₁.1) ∙ e₂) in
      let a₃ = ranges_placed s ps bs n₃ (ap₂ (read_range_section s ps) (sym a₂.0) (sym a₂.1) ∙ e₃) in
      let a₄ = transitions_placed s ps ts n₄ (ap (read_transition_bins s ps) (sym a₃.1) ∙ e₄) in
      let counted = section-count s 0 512 n₁ m k f in
      let few : length hs ≤ 512 = omega (arith, ap length a₂.0, length-rows (bin_head s) 8 (records_place s 1) (record_count s 1), ap (u16 s) a₁.1, counted.said, counted.high) in
      let same : t.points ≡ ps = ap (λ (u : Table). u.points) (raw-exact s t e) ∙ sym a₁.0 in
      let good : (p : ℕ) → GoodPoint (get_or ps p no_point) = λ p. subst (λ (x : List Point). GoodPoint (get_or x p no_point)) same (point_at_lem t (well-formed s t e) p) in
      let points-same : (p : ℕ) → get_or ps p no_point ≡ point_at (table_of s) p = λ p. ap (λ (x : List Point). get_or x p no_point) (sym same ∙ ap (λ (u : Table). u.points) own) in
      let there = found s ps hs (count_place s 7) cs n₅ (ap (read_crosses s ps hs) (sym a₄.1) ∙ e₅) c (cross-inside s t e c h) in
      let here : Found s ps hs (cross_place s c) = subst (Found s ps hs) (ap (λ (x : CrossPlace). place_from s x c) (start_is s) ∙ sym (place_is s c)) there in
      let a = cross_place s c in
      record {
        head = here.head;
        room = (here.owned.room, here.tokens.room);
        legal = cross_legal s ps hs good few points-same a.cross a.bins a.tokens (omega (arith, here.head.some)) here.tokens.room
            (few_tokens s a.cross a.bins here.owned.parts here.owned.next here.owned.read) here.tokens.cross here.tokens.next here.tokens.read;
      }

pub cross-good : (s : List ℕ) → accepted s ≡ true → (c : ℕ) → c < length (table_of s).crosses → CrossGood s c (cross_place s c)
unfolding cross_place
cross-good s ok c h =
    let t = table_of s in
    let e = accepted_decodes s ok in
    let k = known s t e c h refl in
    let short = (acceptance s t e).short in
    let one = single-at s (record_count s 7) (cross_place s 0) c (cross-inside s t e c h) (accepted-single s t e) in
    record {
      said = cross-raw s t e c h;
      near = (omega (arith, k.head.near), omega (arith, k.room.0), omega (arith, k.room.1));
      some = k.head.some;
      four = k.head.four;
      few = k.head.bins;
      points = points_in s t e c h;
      single = subst (λ (x : CrossPlace). BinsSingle s x.bins x.tokens (byte s (x.cross + 12))) (sym (place_is s c)) one;
      legal = k.legal;
    }
