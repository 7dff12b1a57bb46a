-- The two lists of nearest levels at a place.
use Rattle.std.proofs.Common.{◌≡◌, ℕ, suc, ◌+◌, ◌<◌, Bool, true, false, List, [], ◌∷◌, length, drop, Some, refl, sym, ap, ◌∙◌, arith, length-drop}
use Rattle.std.specs.Prelude.{nat_le, nat_lt, if◌then◌else◌}
use Rattle.std.specs.List.{position_from}
use Rattle.std.proofs.lemmas.List.FromFn.{get_or-map-range_with_len}
use Rattle.row_laws.specs.Levels.{fall}
use Rattle.row_laws.specs.Places.{next_low}
use Rattle.row_laws.specs.Climbed.{parent_at}
use Rattle.list_cuts.specs.Cuts.{number_at}
use Rattle.row_kin.specs.Nearest.{next_le, place_or, nexts}

-- ---- the words of both
place_from : (x : ℕ) (ns : List ℕ) (a : ℕ) → place_or (a + length ns) (position_from (λ v. nat_le v x) a ns) ≡ a + fall x ns
place_from x [] a = refl
place_from x (n ∷ ns) a = by (nat_le n x) (place_from x ns (a + 1))
  where
    by : (b : Bool) → place_or (a + 1 + length ns) (position_from (λ v. nat_le v x) (a + 1) ns) ≡ a + 1 + fall x ns → place_or (a + suc (length ns)) (if b then Some a else position_from (λ v. nat_le v x) (a + 1) ns) ≡ a + (if b then 0 else suc (fall x ns))
    by true rest = omega arith
    by false rest =
        ap (λ (m : ℕ). place_or m (position_from (λ v. nat_le v x) (a + 1) ns)) (let e : a + suc (length ns) ≡ a + 1 + length ns = omega arith in e)
        ∙ rest
        ∙ (let e : a + 1 + fall x ns ≡ a + suc (fall x ns) = omega arith in e)

pub next_is_low : (vs : List ℕ) (i x : ℕ) → i < length vs → place_or (length vs) (next_le vs i x) ≡ next_low vs i x
next_is_low vs i x lt =
    let d = length-drop (i + 1) vs in
    ap (λ (m : ℕ). place_or m (next_le vs i x)) (let e : length vs ≡ i + 1 + length (drop (i + 1) vs) = omega arith in e)
    ∙ place_from x (drop (i + 1) vs) (i + 1)
    ∙ ap (λ (k : ℕ). i + 1 + fall x (drop k vs)) (let e : i + 1 ≡ suc i = omega arith in e)
    ∙ (let e : i + 1 + fall x (drop (suc i) vs) ≡ suc (i + fall x (drop (suc i) vs)) = omega arith in e)

nexts_at : (vs bs : List ℕ) (i : ℕ) → i < length vs → number_at (nexts vs bs) i ≡ next_low vs i (number_at bs i)
nexts_at vs bs i lt =
    get_or-map-range_with_len (λ k. place_or (length vs) (next_le vs k (number_at bs k))) 0 (length vs) i i 0 lt (omega arith)
    ∙ next_is_low vs i (number_at bs i) lt

pub parents_answered : (lows : List ℕ) (k : ℕ) → k < length lows → parent_at lows k ≡ (if nat_lt (number_at (nexts lows lows) k) (length lows) then number_at (nexts lows lows) k else k)
parents_answered lows k lt = ap (λ (j : ℕ). if nat_lt j (length lows) then j else k) (sym (nexts_at lows lows k lt))
