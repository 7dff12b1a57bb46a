-- The whole way down, from any height.
use Rattle.std.proofs.Common.{◌≡◌, ℕ, zero, suc, ◌+◌, ◌-◌, ◌*◌, ◌/◌, ◌%◌, ◌^◌, ◌<◌, ◌≤◌, List, [], ◌∷◌, length, get_or, ℤ, ◌<ℤ◌, ◌≤ℤ◌, sym, subst, ◌∙◌, ap, arith, add-one}
use Rattle.std.specs.Global.{Vec}
use Rattle.std.proofs.lemmas.List.{length-map, get_or-map}
use Rattle.std.proofs.lemmas.Nat.{shr-shr}
use Rattle.near_smaller.specs.Nearest.{value_at, AreAbove, IsPrevious, IsNext}
use Rattle.near_smaller.specs.Levels.{AreLevels, lists_of, level_at}
use Rattle.near_smaller.specs.Climbs.{PassesBefore, PassesBehind}
use Rattle.near_smaller.proofs.Passing.{rest_before, step_before, none_behind, step_behind}

-- the block of a place at the next height
pub block_halved : (i h : ℕ) → i / 2 ^ (h + 1) ≡ i / 2 ^ h / 2
block_halved i h = sym (shr-shr i h 1)

module _ (levels : List (List ℤ)) (all : AreLevels levels) (i : ℕ) (within : i ≤ length (level_at levels 0)) where
  -- a block of the list is one of its level, or the next one
  pub block_within : (h : ℕ) → h < length levels → i / 2 ^ h ≤ length (level_at levels h)
  block_within zero lt = omega arith
  block_within (suc h) lt =
      let more : h + 1 < length levels = omega arith in
      let before = block_within h (omega arith) in
      let halved = all.rising.halved h more in
      let size = halved.size in
      let is = block_halved i h in
      subst (λ (k : ℕ). i / 2 ^ k ≤ length (level_at levels k)) (add-one h) (omega arith)

  module _ (x : ℤ) where
    pub none_down_before : (h : ℕ) → h < length levels → ((k : ℕ) → k < h → PassesBefore (level_at levels k) (i / 2 ^ k) x) → AreAbove (level_at levels h) x 0 (i / 2 ^ h) → AreAbove (level_at levels 0) x 0 i
    none_down_before zero lt passes above = λ k low high. above k low (omega arith)
    none_down_before (suc h) lt passes above =
        let more : h + 1 < length levels = omega arith in
        let here = subst (λ (k : ℕ). AreAbove (level_at levels k) x 0 (i / 2 ^ k)) (sym (add-one h)) above in
        let up = subst (AreAbove (level_at levels (h + 1)) x 0) (block_halved i h) here in
        none_down_before h (omega arith) (λ k less. passes k (omega arith))
        (rest_before (level_at levels h) (level_at levels (h + 1)) (i / 2 ^ h) 0 x (all.rising.halved h more) (block_within h (omega arith)) (passes h (omega arith)) up)

    none_top_before : (h : ℕ) → h < length levels → length (level_at levels h) ≤ 1 → PassesBefore (level_at levels h) (i / 2 ^ h) x → AreAbove (level_at levels h) x 0 (i / 2 ^ h)
    none_top_before h lt top passes = λ k low high.
        let b = block_within h lt in
        let odd : i / 2 ^ h % 2 ≡ 1 = omega arith in
        let is : i / 2 ^ h - 1 ≡ k = omega arith in
        subst (λ (j : ℕ). x <ℤ value_at (level_at levels h) j) is (passes odd)

    -- no height has one before, so there is none
    pub none_before : ((k : ℕ) → k < length levels → PassesBefore (level_at levels k) (i / 2 ^ k) x) → AreAbove (level_at levels 0) x 0 i
    none_before passes =
        let some = all.some in
        let top : length levels - 1 < length levels = omega arith in
        none_down_before (length levels - 1) top (λ k less. passes k (omega arith)) (none_top_before (length levels - 1) top all.top (passes (length levels - 1) top))

    pub none_down_behind : (h : ℕ) → h < length levels → ((k : ℕ) → k < h → PassesBehind (level_at levels k) (i / 2 ^ k) x) → AreAbove (level_at levels h) x (i / 2 ^ h + 1) (length (level_at levels h)) → AreAbove (level_at levels 0) x (i + 1) (length (level_at levels 0))
    none_down_behind zero lt passes above = λ k low high. above k (omega arith) high
    none_down_behind (suc h) lt passes above =
        let more : h + 1 < length levels = omega arith in
        let here = subst (λ (k : ℕ). AreAbove (level_at levels k) x (i / 2 ^ k + 1) (length (level_at levels k))) (sym (add-one h)) above in
        let up = subst (λ (b : ℕ). AreAbove (level_at levels (h + 1)) x (b + 1) (length (level_at levels (h + 1)))) (block_halved i h) here in
        none_down_behind h (omega arith) (λ k less. passes k (omega arith))
        (none_behind (level_at levels h) (level_at levels (h + 1)) (i / 2 ^ h) x (all.rising.halved h more) (passes h (omega arith)) up)

    pub none_after : AreAbove (level_at levels (length levels - 1)) x (i / 2 ^ (length levels - 1) + 1) (length (level_at levels (length levels - 1)))
    none_after = λ k low high. let top = all.top in absurd (omega arith)

    -- no height has one behind, so there is none
    pub none_behind_all : ((k : ℕ) → k < length levels → PassesBehind (level_at levels k) (i / 2 ^ k) x) → AreAbove (level_at levels 0) x (i + 1) (length (level_at levels 0))
    none_behind_all passes =
        let some = all.some in
        let top : length levels - 1 < length levels = omega arith in
        none_down_behind (length levels - 1) top (λ k less. passes k (omega arith)) none_after

    -- ---- one height down

    pub half_before : (above h place : ℕ) → above ≡ h + 1 → above < length levels → IsPrevious (level_at levels above) (i / 2 ^ above) x place → 2 * place + 1 < length (level_at levels h)
    half_before above h place is lt near =
        let b = near.before in
        let e : i / 2 ^ above ≡ i / 2 ^ h / 2 = ap (λ (k : ℕ). i / 2 ^ k) is ∙ block_halved i h in
        let w = block_within h (omega arith) in
        omega arith

    pub down_before : (above h place p : ℕ) → above ≡ h + 1 → above < length levels → PassesBefore (level_at levels h) (i / 2 ^ h) x → IsPrevious (level_at levels above) (i / 2 ^ above) x place
        → (value_at (level_at levels h) (2 * place + 1) ≤ℤ x → p ≡ 2 * place + 1) → (x <ℤ value_at (level_at levels h) (2 * place + 1) → p ≡ 2 * place) → IsPrevious (level_at levels h) (i / 2 ^ h) x p
    down_before above h place p is lt passes near second first =
        let here = subst (λ (k : ℕ). IsPrevious (level_at levels k) (i / 2 ^ k) x place) is near in
        let up = subst (λ (b : ℕ). IsPrevious (level_at levels (h + 1)) b x place) (block_halved i h) here in
        step_before (level_at levels h) (level_at levels (h + 1)) (i / 2 ^ h) x place p (all.rising.halved h (omega arith)) (block_within h (omega arith)) passes up second first

    pub half_behind : (above h place : ℕ) → above ≡ h + 1 → above < length levels → IsNext (level_at levels above) (i / 2 ^ above) x place → 2 * place < length (level_at levels h)
    half_behind above h place is lt near =
        let w = subst (λ (k : ℕ). place < length (level_at levels k)) is near.within in
        let halved = all.rising.halved h (omega arith) in
        let s = halved.size in
        omega arith

    pub down_behind : (above h place p : ℕ) → above ≡ h + 1 → above < length levels → PassesBehind (level_at levels h) (i / 2 ^ h) x → IsNext (level_at levels above) (i / 2 ^ above) x place
        → (value_at (level_at levels h) (2 * place) ≤ℤ x → p ≡ 2 * place) → (x <ℤ value_at (level_at levels h) (2 * place) → p ≡ 2 * place + 1) → IsNext (level_at levels h) (i / 2 ^ h) x p
    down_behind above h place p is lt passes near first second =
        let here = subst (λ (k : ℕ). IsNext (level_at levels k) (i / 2 ^ k) x place) is near in
        let up = subst (λ (b : ℕ). IsNext (level_at levels (h + 1)) b x place) (block_halved i h) here in
        step_behind (level_at levels h) (level_at levels (h + 1)) (i / 2 ^ h) x place p (all.rising.halved h (omega arith)) passes up first second

-- at the lowest level a block is a place
pub ground : (i h : ℕ) → h ≤ 0 → i / 2 ^ h ≡ i
ground i zero le = omega arith
ground i (suc h) le = absurd (omega arith)

-- a level in memory
pub read_level : (vs : List (Vec ℤ)) (h : ℕ) (v : Vec ℤ) → h < length vs → v ≡ get_or vs h v → v.items ≡ level_at (lists_of vs) h
read_level vs h v lt is = ap (λ (w : Vec ℤ). w.items) is ∙ sym (get_or-map (λ (w : Vec ℤ). w.items) vs h v [] lt)

pub length-lists_of : (vs : List (Vec ℤ)) → length (lists_of vs) ≡ length vs
length-lists_of vs = length-map vs (λ (v : Vec ℤ). v.items)

-- a level is no longer than a vector may be
pub level_fits : (vs : List (Vec ℤ)) (h : ℕ) → length (level_at (lists_of vs) h) < 2 ^ 63
level_fits [] h = omega arith
level_fits (v ∷ vs) zero = let ok = v.ok in let small = v.small in omega arith
level_fits (v ∷ vs) (suc h) = level_fits vs h
