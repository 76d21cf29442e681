-- The words of a point's plan: written, read back, and kept by later writes.
-- Assumes nothing.
use mathlib.Core.Path.{◌≡◌, refl, sym, ap, ap₂, ◌∙◌, subst}
use mathlib.Core.Bool.{true}
use mathlib.Core.List.{List, [], ◌∷◌, ◌++◌}
use Prim.Native.Nat.{ℕ, suc, ◌+◌, ◌-◌, ◌*◌, ◌/◌, ◌^◌, ◌≤◌, ◌<◌}
use native.Mathlib.Omega.{arith}
use lib.ListN.{length, get_or, set, take, drop, length-take, length-drop, drop_of_length-le}
use lib.Seq.{get_or-drop, get_or-take, ext_get_or, take-take}
use Rattle.model.specs.Lists.{all}
use Rattle.model.specs.Table.{Range, span, pattern, Table}
use Rattle.model.specs.Values.{lowest, highest}
use Rattle.model.specs.Counters.{point_at}
use Rattle.model.specs.Format.{accepted, table_of}
use Rattle.model.specs.Raw.{rows, records_place, record_count}
use Rattle.model.proofs.Readers.{All, all_both}
use Rattle.model.proofs.RawLaws.{length-rows}
use Rattle.arrays.specs.Put.{put}
use Rattle.arrays.specs.Flat.{covers}
use Rattle.model.proofs.Lists.{head_tail}
use Rattle.arrays.proofs.PutLaws.{put-nil, put-cons, put_in, put-before, length-put}
use Rattle.ranges.specs.Taken.{excluded_at}
use Rattle.layout.specs.Places.{layout_of, bin_sections_of}
use Rattle.layout.specs.declared.BinSections.{BinSections}
use Rattle.spans.specs.Spans.{Settled}
use Rattle.spans.specs.Collected.{fits_from, words_from, Collectable}
use Rattle.spans.specs.Part.{OwnPart}
use Rattle.spans.proofs.PartLaws.{excluded_part}
use Rattle.spans.proofs.Exact.{accepted_collectable}
use Rattle.spans.proofs.Point.{spans_of, listed-apart, excluded-listed}
use Rattle.spans.specs.Point.{SpansOf, free_value, ranges_listed, cover_listed, excluded_listed}
use Rattle.parts.specs.Rows.{Row}
use Rattle.parts.specs.Words.{plan_row_at, plan_rows_at}
use Rattle.parts.specs.Point.{RowsOf}
use Rattle.parts.proofs.Back.{plan-same}
use Rattle.parts.proofs.Plans.{take_put}
use Rattle.meets.specs.Pieces.{Piece, piece, packed, piece_at, pieces_at, Begins, PiecesOf}
use Rattle.meets.specs.Plan.{segment, PointPlan, point_need}
use Rattle.meets.proofs.PlanLaws.{pieces-same}
use Rattle.pieces.specs.Cuts.{all_pieces, range_words, piece_words, Cuttable}
use Rattle.pieces.proofs.WordLaws.{span_back, pattern_back, words_length}
use Rattle.pieces.proofs.PointPieces.{rows_cuttable, pieces_of, pieces_few}

-- ---- read back

-- high end or mask, and part fit the word
abbrev Narrow : Range → Type 0
Narrow (span lo hi) = hi < 2 ^ 33
Narrow (pattern bits mask) = mask < 2 ^ 33

abbrev Small : Piece → Type 0
Small q = Narrow q.range × (q.part < 65536)

one-back : (R : Range) (k : ℕ) (ws : List ℕ) → Narrow R → k < 65536 → piece_at (range_words R k ++ ws) 0 ≡ piece R k
one-back (span a b) k ws n h = span_back a b k n h
one-back (pattern a b) k ws n h = pattern_back a b k n h

words_back : (qs : List Piece) → All Small qs → pieces_at (piece_words qs) 0 (length qs) ≡ qs
unfolding piece_words rows
words_back [] h = refl
words_back (q ∷ qs) h =
    ap₂ ◌∷◌ (one-back q.range q.part (piece_words qs) h.0.0 h.0.1) (pieces-same (length qs) (range_words q.range q.part ++ piece_words qs) (piece_words qs) (0 + 2) 0 (λ i k. skip q.range i) ∙ words_back qs h.1)
  where
    skip : (R : Range) (i : ℕ) → get_or (range_words R q.part ++ piece_words qs) (0 + 2 + i) 0 ≡ get_or (piece_words qs) (0 + i) 0
    skip (span a b) i = ap (λ (x : ℕ). get_or (a ∷ packed b q.part ∷ piece_words qs) x 0) (let z : 0 + 2 + i ≡ suc (suc i) = omega arith in z) ∙ ap (λ (x : ℕ). get_or (piece_words qs) x 0) (let z : i ≡ 0 + i = omega arith in z)
    skip (pattern a b) i = ap (λ (x : ℕ). get_or (a ∷ packed b (q.part + 65536) ∷ piece_words qs) x 0) (let z : 0 + 2 + i ≡ suc (suc i) = omega arith in z) ∙ ap (λ (x : ℕ). get_or (piece_words qs) x 0) (let z : i ≡ 0 + i = omega arith in z)

pub pieces-back : (qs : List Piece) → All Small qs → (at : ℕ) (l : List ℕ) → at + 2 * length qs ≤ length l → pieces_at (put at (piece_words qs) l) at (length qs) ≡ qs
pieces-back qs h at l fit =
    pieces-same (length qs) (put at (piece_words qs) l) (piece_words qs) at 0
    (λ i k. put_in at (piece_words qs) l i 0 (omega arith) (omega (arith, words_length qs)) ∙ ap (λ (x : ℕ). get_or (piece_words qs) x 0) (let z : i ≡ 0 + i = omega arith in z))
    ∙ words_back qs h

-- ---- kept

same-below : (c : ℕ) (l l' : List ℕ) → take c l' ≡ take c l → (i : ℕ) → i < c → get_or l' i 0 ≡ get_or l i 0
same-below c l l' e i h = sym (get_or-take c l' i 0 h) ∙ ap (λ (x : List ℕ). get_or x i 0) e ∙ get_or-take c l i 0 h

segment-same : (u w : List ℕ) (from to : ℕ) → from ≤ to → to ≤ length u → to ≤ length w → ((i : ℕ) → i < to → get_or u i 0 ≡ get_or w i 0) → segment u from to ≡ segment w from to
segment-same u w from to h k m e =
    let long : length (take (to - from) (drop from u)) ≡ to - from = simp (length-take, length-drop) (omega arith) in
    let long₁ : length (take (to - from) (drop from w)) ≡ to - from = simp (length-take, length-drop) (omega arith) in
    ext_get_or 0 (segment u from to) (segment w from to) (long ∙ sym long₁) λ i j.
    let b : i < to - from = omega arith in
    get_or-take (to - from) (drop from u) i 0 b ∙ get_or-drop from u i 0 ∙ e (from + i) (omega arith) ∙ sym (get_or-take (to - from) (drop from w) i 0 b ∙ get_or-drop from w i 0)

-- a write above the point's words
pub plan-kept : (t : Table) (p : ℕ) (w w' : List ℕ) (from mid cuts to c : ℕ) → PointPlan t p w from mid cuts to → to ≤ c → length w' ≡ length w → take c w' ≡ take c w → PointPlan t p w' from mid cuts to
plan-kept t p w w' from mid cuts to c o h el e =
    record {
      order = o.order;
      order₁ = o.order₁;
      order₂ = o.order₂;
      order₃ = omega (arith, o.order₃);
      rows_of = subst (λ (x : List ℕ). RowsOf t p (plan_rows_at x 0 ((mid - from) / 7)) (length (covers t p))) (same from mid o.order (omega (arith, o.order₁, o.order₂))) o.rows_of;
      whole = o.whole;
      spans = subst (SpansOf t p) (same mid cuts o.order₁ o.order₂) o.spans;
      pieces = subst (PiecesOf t p) (pieces-same ((to - cuts) / 2) w w' cuts cuts (λ i k. sym (below (cuts + i) (omega (arith, o.order₂))))) o.pieces;
    }
  where
    below : (i : ℕ) → i < to → get_or w' i 0 ≡ get_or w i 0
    below i k = same-below c w w' e i (omega arith)

    same : (x y : ℕ) → x ≤ y → y ≤ to → segment w x y ≡ segment w' x y
    same x y j k = segment-same w w' x y j (omega (arith, o.order₃)) (omega (arith, o.order₃)) (λ i m. sym (below i (omega arith)))

-- ---- written: the n rows stand from `at` on; then the spans, then the pieces

module _ (t : Table) (p m at n : ℕ) (l : List ℕ) (rows_of : RowsOf t p (plan_rows_at l at n) m) (few : m ≤ 256) (ws : List ℕ) (o : SpansOf t p ws) (short : length ws ≤ excluded_listed t p) (low : ℕ) (el : low ≡ lowest (point_at t p))
    (room : at + point_need t p ≤ length l) where
  abbrev qs : List Piece
  qs = all_pieces (free_value ws low) (plan_rows_at l at n)

  number : n ≤ cover_listed t p + 1
  number = omega (arith, length-rows (plan_row_at l) 7 at n, rows_of.few)

  pieces_number : length qs ≤ cover_listed t p + 1 + length (covers t p)
  pieces_number = omega (arith, pieces_few t p m (free_value ws low) (plan_rows_at l at n) rows_of, rows_of.few, rows_of.parts)

  -- there is room for the spans
  pub spans_room : at + 7 * n + length ws ≤ length l
  spans_room = omega (arith, number, listed-apart t p)

  module _ (mid cuts : ℕ) (l₁ : List ℕ) (em : mid ≡ at + 7 * n) (ec : cuts ≡ mid + length ws) (e₁ : l₁ ≡ put mid ws l) where
    long₁ : length l₁ ≡ length l
    long₁ = ap length e₁ ∙ length-put mid ws l (omega (arith, spans_room))

    below₁ : (i : ℕ) → i < mid → get_or l₁ i 0 ≡ get_or l i 0
    below₁ i h = ap (λ (x : List ℕ). get_or x i 0) e₁ ∙ put-before mid ws l i 0 (omega (arith, spans_room)) h

    same_rows : plan_rows_at l₁ at n ≡ plan_rows_at l at n
    same_rows = plan-same n l₁ l at at (λ i h. below₁ (at + i) (omega arith))

    pub rows-ready : highest (point_at t p) < 2 ^ 33 → All (Cuttable low) (plan_rows_at l₁ at n)
    rows-ready h = subst (λ (x : ℕ). All (Cuttable x) (plan_rows_at l₁ at n)) (sym el) (subst (All (Cuttable (lowest (point_at t p)))) (sym same_rows) (rows_cuttable t p m (plan_rows_at l at n) rows_of (omega arith) h))

    same-pieces : all_pieces (free_value ws low) (plan_rows_at l₁ at n) ≡ qs
    same-pieces = ap (all_pieces (free_value ws low)) same_rows

    -- there is room for the pieces
    pub pieces_room : cuts + 2 * length (all_pieces (free_value ws low) (plan_rows_at l₁ at n)) ≤ length l₁
    pieces_room = omega (arith, ap length same-pieces, long₁, pieces_number, number, listed-apart t p)

    module _ (to : ℕ) (l₂ : List ℕ) (et : to ≡ cuts + 2 * length (all_pieces (free_value ws low) (plan_rows_at l₁ at n))) (e₂ : l₂ ≡ put cuts (piece_words (all_pieces (free_value ws low) (plan_rows_at l₁ at n))) l₁) where
      end : to ≡ cuts + 2 * length qs
      end = et ∙ ap (λ (x : List Piece). cuts + 2 * length x) same-pieces

      written : l₂ ≡ put cuts (piece_words qs) l₁
      written = e₂ ∙ ap (λ (x : List Piece). put cuts (piece_words x) l₁) same-pieces

      fit : cuts + 2 * length qs ≤ length l₁
      fit = omega (arith, pieces_room, ap length same-pieces)

      long₂ : length l₂ ≡ length l₁
      long₂ = ap length written ∙ length-put cuts (piece_words qs) l₁ (omega (arith, fit, words_length qs))

      below₂ : (i : ℕ) → i < cuts → get_or l₂ i 0 ≡ get_or l₁ i 0
      below₂ i h = ap (λ (x : List ℕ). get_or x i 0) written ∙ put-before cuts (piece_words qs) l₁ i 0 (omega (arith, fit)) h

      first : plan_rows_at (segment l₂ at mid) 0 ((mid - at) / 7) ≡ plan_rows_at l at n
      first =
          let z : (mid - at) / 7 ≡ n = omega arith in
          ap (plan_rows_at (segment l₂ at mid) 0) z
          ∙ plan-same n (segment l₂ at mid) l 0 at λ i h.
          let b : i < mid - at = omega arith in
          ap (λ (x : ℕ). get_or (segment l₂ at mid) x 0) (let y : 0 + i ≡ i = omega arith in y)
          ∙ get_or-take (mid - at) (drop at l₂) i 0 b ∙ get_or-drop at l₂ i 0 ∙ below₂ (at + i) (omega arith) ∙ below₁ (at + i) (omega arith)

      second : segment l₂ mid cuts ≡ ws
      second =
          let long : length (take (cuts - mid) (drop mid l₂)) ≡ length ws = simp (length-take, length-drop) (omega (arith, long₂, fit)) in
          ext_get_or 0 (segment l₂ mid cuts) ws long λ i h.
          let b : i < cuts - mid = omega arith in
          let c : i < length ws = omega arith in
          get_or-take (cuts - mid) (drop mid l₂) i 0 b ∙ get_or-drop mid l₂ i 0 ∙ below₂ (mid + i) (omega arith)
          ∙ ap (λ (x : List ℕ). get_or x (mid + i) 0) e₁ ∙ put_in mid ws l i 0 (omega (arith, spans_room)) c

      whole : PiecesOf t p qs
      whole = subst (λ (x : ℕ). PiecesOf t p (all_pieces (free_value ws x) (plan_rows_at l at n))) (sym el) (pieces_of t p m (plan_rows_at l at n) ws rows_of o)

      small : highest (point_at t p) < 2 ^ 33 → All Small qs
      small h = all_both (λ q. Begins t p q.range) (λ q. q.part < length (covers t p)) Small (λ q b k. (narrow q.range b, omega (arith, k, rows_of.parts))) qs whole.begins whole.parts
        where
          narrow : (R : Range) → Begins t p R → Narrow R
          narrow (span a b) s = omega (arith, s.3, h)
          narrow (pattern a b) s = s

      third : highest (point_at t p) < 2 ^ 33 → pieces_at l₂ cuts ((to - cuts) / 2) ≡ qs
      third h =
          let z : (to - cuts) / 2 ≡ length qs = omega (arith, end) in
          ap₂ (λ (x : List ℕ) (k : ℕ). pieces_at x cuts k) written z
          ∙ pieces-back qs (small h) cuts l₁ fit

      pub planned : highest (point_at t p) < 2 ^ 33 → PointPlan t p l₂ at mid cuts to
      planned h =
          record {
            order = omega arith;
            order₁ = omega arith;
            order₂ = omega arith;
            order₃ = omega (arith, long₂, fit, end);
            rows_of = subst (λ (xs : List Row). RowsOf t p xs (length (covers t p))) (sym first) (subst (RowsOf t p (plan_rows_at l at n)) rows_of.parts rows_of);
            whole = omega arith;
            spans = subst (SpansOf t p) (sym second) o;
            pieces = subst (PiecesOf t p) (sym (third h)) whole;
          }

      pub kept-below : take at l₂ ≡ take at l
      kept-below =
          sym (take-take at cuts l₂ (omega arith)) ∙ ap (take at) (ap (take cuts) written ∙ take_put cuts (piece_words qs) l₁ (omega (arith, fit))) ∙ take-take at cuts l₁ (omega arith)
          ∙ sym (take-take at mid l₁ (omega arith)) ∙ ap (take at) (ap (take mid) e₁ ∙ take_put mid ws l (omega (arith, spans_room))) ∙ take-take at mid l (omega arith)

      pub ends-few : to ≤ at + point_need t p
      ends-few = omega (arith, end, pieces_number, number, listed-apart t p)

-- ---- words copied

pub copy_turn : (at i : ℕ) (words l whole : List ℕ) → i < length words → at + i < length l → put (at + i) (drop i words) l ≡ whole → put (at + (i + 1)) (drop (i + 1) words) (set l (at + i) (get_or words i 0)) ≡ whole
copy_turn at i words l whole h k e =
    ap (λ (a : ℕ). put a (drop (i + 1) words) (set l (at + i) (get_or words i 0))) (let z : at + (i + 1) ≡ at + i + 1 = omega arith in z)
    ∙ put-cons (at + i) (get_or words i 0) (drop (i + 1) words) l k
    ∙ ap (λ (xs : List ℕ). put (at + i) xs l) (sym (head_tail words i 0 h))
    ∙ e

pub copy_end : (at i : ℕ) (words l whole : List ℕ) → length words ≤ i → put (at + i) (drop i words) l ≡ whole → l ≡ whole
copy_end at i words l whole h e = sym (ap (λ (xs : List ℕ). put (at + i) xs l) (drop_of_length-le words h) ∙ put-nil (at + i) l) ∙ e

-- ---- by the layout

pub range-count-at : (s : List ℕ) (l : BinSections) → l ≡ bin_sections_of s → l.range_count ≡ record_count s 2
unfolding layout_of
range-count-at s l el = ap (λ (x : BinSections). x.range_count) el

-- a point's spans, from a part of the value bins that has all of the point's

module _ (s : List ℕ) (ok : accepted s ≡ true) (p b q m : ℕ) (own : OwnPart s p b q m) (low : ℕ) (e : low ≡ lowest (point_at (table_of s) p)) where
  same : excluded_at s b q m p ≡ excluded_at s (records_place s 1) (records_place s 2) (record_count s 1) p
  same = excluded_part s p (records_place s 1) (records_place s 2) (record_count s 1) b q m own

  pub collectable : (room : ℕ) → ranges_listed (table_of s) p ≤ room → b < 1000000000 → q < 1000000000 → m ≤ 512 → Collectable s b q m p low room
  collectable room h hb hq hm =
      let whole = accepted_collectable s ok p room (omega (arith, excluded-listed s ok p, listed-apart (table_of s) p)) in
      record {
        near = omega arith;
        near_ranges = omega arith;
        few = hm;
        fits = omega (arith, ap length same, whole.fits);
        spans = ap₂ (λ (x : ℕ) (rs : List Range). all (fits_from x) rs) e same ∙ whole.spans;
      }

  pub settled_spans : (ws : List ℕ) → Settled (words_from low (excluded_at s b q m p)) ws → SpansOf (table_of s) p ws
  settled_spans ws o = spans_of s ok p ws (subst (λ (xs : List ℕ). Settled xs ws) (ap₂ (λ (x : ℕ) (rs : List Range). words_from x rs) e same) o)

  pub spans_listed : length (excluded_at s b q m p) ≤ excluded_listed (table_of s) p
  spans_listed = omega (arith, ap length same, excluded-listed s ok p)
