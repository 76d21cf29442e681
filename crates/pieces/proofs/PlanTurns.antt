-- The plan of all points, point after point.
-- Assumes nothing.
use mathlib.Core.Path.{◌≡◌, refl, ap, ◌∙◌}
use mathlib.Core.Bool.{Bool, true, false}
use mathlib.Core.List.{List}
use Prim.Native.Nat.{ℕ, ◌+◌, ◌-◌, ◌*◌, ◌≤◌, ◌<◌}
use native.Mathlib.Omega.{arith}
use lib.Dec.{ltb}
use lib.ListN.{length, get_or, set, take, length-set}
use lib.Seq.{get_or-set_same, get_or-set_other}
use borrow.Author.Tests.{ltb-true, ltb-false}
use Rattle.model.specs.Lists.{sum_of, up_from}
use Rattle.model.specs.Table.{Table}
use Rattle.model.specs.Format.{accepted, table_of}
use Rattle.model.specs.Register.{point_total}
use Rattle.model.proofs.Lists.{from_step}
use Rattle.model.proofs.RawExact.{few_points}
use Rattle.meets.specs.Plan.{PointPlan, ValuesPlan, point_need, plan_need}
use Rattle.meets.proofs.PlanRoom.{plan_need_lem}
use Rattle.pieces.proofs.BuildLaws.{plan-kept}

-- ---- room

-- what n points from p on need
unfoldable pub need_from : Table → ℕ → ℕ → ℕ
need_from t p n = sum_of (point_need t) (up_from p n)

pub need-start : (t : Table) (n : ℕ) → n ≡ point_total t → 0 + need_from t 0 (n - 0) ≤ plan_need t
unfolding need_from plan_need
need-start t n e = omega (arith, ap (λ (m : ℕ). sum_of (point_need t) (up_from 0 m)) (let z : n - 0 ≡ point_total t = omega arith in z))

module _ (t : Table) (n p at : ℕ) (h : p < n) (room : at + need_from t p (n - p) ≤ plan_need t) where
  one_more : need_from t p (n - p) ≡ point_need t p + need_from t (p + 1) (n - (p + 1))
  unfolding need_from
  one_more = ap (sum_of (point_need t)) (from_step p n h) ∙ (unfold sum_of in refl)

  pub need_here : at + point_need t p ≤ plan_need t
  need_here = omega (arith, one_more)

  pub need_next : (end : ℕ) → end ≤ at + point_need t p → end + need_from t (p + 1) (n - (p + 1)) ≤ plan_need t
  need_next end e = omega (arith, one_more)

-- at point p
pub turn_room : (s : List ℕ) → accepted s ≡ true → (n p at : ℕ) → n ≡ point_total (table_of s) → p < n → at + need_from (table_of s) p (n - p) ≤ plan_need (table_of s)
    → (p < point_total (table_of s)) × (p < 16) × (at + point_need (table_of s) p ≤ plan_need (table_of s)) × (plan_need (table_of s) ≤ 17552)
turn_room s ok n p at e h room = (omega arith, omega (arith, few_points s ok), need_here (table_of s) n p at h room, plan_need_lem s ok)

-- ---- the first n points are planned, below c

abbrev pub PlannedTo : Table → ℕ → List ℕ → List ℕ → ℕ → Type 0
PlannedTo t n w bounds c =
    (q : ℕ) → q < n → PointPlan t q w (get_or bounds (3 * q) 0) (get_or bounds (3 * q + 1) 0) (get_or bounds (3 * q + 2) 0) (get_or bounds (3 * q + 3) 0) × (get_or bounds (3 * q + 3) 0 ≤ c)

-- the bounds with those of point p
abbrev pub bounded : List ℕ → ℕ → ℕ → ℕ → ℕ → List ℕ
bounded bounds p mid cuts end = set (set (set bounds (3 * p + 1) mid) (3 * p + 2) cuts) (3 * p + 3) end

module _ (p : ℕ) (bounds : List ℕ) (mid cuts end : ℕ) (fit : 3 * p + 3 < length bounds) where
  b₁ : List ℕ
  b₁ = set bounds (3 * p + 1) mid

  b₂ : List ℕ
  b₂ = set b₁ (3 * p + 2) cuts

  bound_before : (i : ℕ) → i ≤ 3 * p → get_or (bounded bounds p mid cuts end) i 0 ≡ get_or bounds i 0
  unfolding b₁ b₂
  bound_before i k = get_or-set_other b₂ (3 * p + 3) i end 0 (λ z. omega arith) ∙ get_or-set_other b₁ (3 * p + 2) i cuts 0 (λ z. omega arith) ∙ get_or-set_other bounds (3 * p + 1) i mid 0 (λ z. omega arith)

  bound_mid : get_or (bounded bounds p mid cuts end) (3 * p + 1) 0 ≡ mid
  unfolding b₁ b₂
  bound_mid = get_or-set_other b₂ (3 * p + 3) (3 * p + 1) end 0 (λ z. omega arith) ∙ get_or-set_other b₁ (3 * p + 2) (3 * p + 1) cuts 0 (λ z. omega arith) ∙ get_or-set_same bounds (3 * p + 1) mid 0 (omega arith)

  bound_cuts : get_or (bounded bounds p mid cuts end) (3 * p + 2) 0 ≡ cuts
  unfolding b₁ b₂
  bound_cuts = get_or-set_other b₂ (3 * p + 3) (3 * p + 2) end 0 (λ z. omega arith) ∙ get_or-set_same b₁ (3 * p + 2) cuts 0 (simp length-set (omega arith))

  bound_end : get_or (bounded bounds p mid cuts end) (3 * p + 3) 0 ≡ end
  unfolding b₁ b₂
  bound_end = get_or-set_same b₂ (3 * p + 3) end 0 (simp length-set (omega arith))

  -- where the next point's words begin
  pub next_start : get_or (bounded bounds p mid cuts end) (3 * (p + 1)) 0 ≡ end
  next_start = ap (λ (x : ℕ). get_or (bounded bounds p mid cuts end) x 0) (let z : 3 * (p + 1) ≡ 3 * p + 3 = omega arith in z) ∙ bound_end

  pub planned_turn : (t : Table) (w w' : List ℕ) (at : ℕ) → PlannedTo t p w bounds at → get_or bounds (3 * p) 0 ≡ at → PointPlan t p w' at mid cuts end → take at w' ≡ take at w → length w' ≡ length w
      → PlannedTo t (p + 1) w' (bounded bounds p mid cuts end) end
  planned_turn t w w' at done start o e el q h = go (ltb q p) refl
    where
      b : List ℕ
      b = bounded bounds p mid cuts end

      go : (c : Bool) → ltb q p ≡ c → PointPlan t q w' (get_or b (3 * q) 0) (get_or b (3 * q + 1) 0) (get_or b (3 * q + 2) 0) (get_or b (3 * q + 3) 0) × (get_or b (3 * q + 3) 0 ≤ end)
      go true y =
          let k = ltb-true q p y in
          let was = done q k in
          let low : (i : ℕ) → i ≤ 3 → get_or b (3 * q + i) 0 ≡ get_or bounds (3 * q + i) 0 = λ i j. bound_before (3 * q + i) (omega arith) in (
            rw (bound_before (3 * q) (omega arith), low 1 (omega arith), low 2 (omega arith), low 3 (omega arith)) (plan-kept t q w w' (get_or bounds (3 * q) 0) (get_or bounds (3 * q + 1) 0) (get_or bounds (3 * q + 2) 0) (get_or bounds (3 * q + 3) 0) at was.0 was.1 el e),
            omega (arith, low 3 (omega arith), was.1, o.order, o.order₁, o.order₂),
          )
      go false y =
          let same : q ≡ p = omega (arith, ltb-false q p y) in
          let c₀ : get_or b (3 * q) 0 ≡ at = ap (λ (x : ℕ). get_or b (3 * x) 0) same ∙ bound_before (3 * p) (omega arith) ∙ start in
          let c₁ : get_or b (3 * q + 1) 0 ≡ mid = ap (λ (x : ℕ). get_or b (3 * x + 1) 0) same ∙ bound_mid in
          let c₂ : get_or b (3 * q + 2) 0 ≡ cuts = ap (λ (x : ℕ). get_or b (3 * x + 2) 0) same ∙ bound_cuts in
          let c₃ : get_or b (3 * q + 3) 0 ≡ end = ap (λ (x : ℕ). get_or b (3 * x + 3) 0) same ∙ bound_end in
          (rw (c₀, c₁, c₂, c₃, same) o, omega (arith, c₃))

pub first-start : (bounds : List ℕ) → 49 ≤ length bounds → get_or (set bounds 0 0) (3 * 0) 0 ≡ 0
first-start bounds h = ap (λ (x : ℕ). get_or (set bounds 0 0) x 0) (let z : 3 * 0 ≡ 0 = omega arith in z) ∙ get_or-set_same bounds 0 0 0 (omega arith)

pub all-planned : (t : Table) (n : ℕ) (w bounds : List ℕ) (c : ℕ) → PlannedTo t n w bounds c → n ≡ point_total t → ValuesPlan t w bounds
unfolding ValuesPlan
all-planned t n w bounds c o e p h = (o p (omega arith)).0
