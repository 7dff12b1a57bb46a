-- What pages tell, place by place.
use Rattle.std.proofs.Common.{◌≡◌, ℕ, zero, suc, ◌+◌, ◌-◌, ◌<◌, ◌≤◌, List, [], ◌∷◌, ◌++◌, length, map, take, drop, get_or, Result, Ok, Err, refl, sym, ap, ◌∙◌, arith, append_assoc}
use Rattle.std.proofs.lemmas.List.{get_or-drop, length-drop}
use Rattle.std.specs.Prelude.{codes, if◌then◌else◌}
use Rattle.std.specs.Result.{OnOk, is_ok}
use Rattle.std.specs.List.{flat_map, range_with_len}
use Rattle.source_meaning.specs.Rows.{Row}
use Rattle.ast_rows.specs.TokenRows.{TokenRow}
use Rattle.ast_rows.specs.NodeRows.{parent_numbers}
use Rattle.pass_page.specs.Page.{escaped, level, levels, spans}

-- what f gives of numbers, one after the other
pub one_more : (f : ℕ → List ℕ) (out : List ℕ) (k n : ℕ) → k < n
    → (out ++ f k) ++ flat_map f (range_with_len (k + 1) (n - (k + 1))) ≡ out ++ flat_map f (range_with_len k (n - k))
one_more f out k n h =
    let count : suc (n - (k + 1)) ≡ n - k = omega arith in
    append_assoc out (f k) (flat_map f (range_with_len (k + 1) (n - (k + 1)))) ∙ ap (λ (m : ℕ). out ++ flat_map f (range_with_len k m)) count

-- ---- tokens

abbrev pub starts : List TokenRow → List ℕ
starts ts = map (λ (t : TokenRow). t.start) ts

abbrev pub lengths : List TokenRow → List ℕ
lengths ts = map (λ (t : TokenRow). t.length) ts

spans_at : (text : List ℕ) (place : ℕ) (ts : List TokenRow) (k : ℕ) → k < length ts
    → spans text place (drop k ts) ≡ escaped (take (get_or (starts ts) k 0 - place) (drop place text)) ++ codes "<span>"
    ++ escaped (take (get_or (lengths ts) k 0) (drop (get_or (starts ts) k 0) text)) ++ codes "</span>" ++ spans text (get_or (starts ts) k 0 + get_or (lengths ts) k 0) (drop (suc k) ts)
spans_at text place [] k h = absurd (omega arith)
spans_at text place (t ∷ ts) zero h = refl
spans_at text place (t ∷ ts) (suc k) h = spans_at text place ts k (omega arith)

one_span : (out gap token rest : List ℕ) → out ++ gap ++ codes "<span>" ++ token ++ codes "</span>" ++ rest ≡ out ++ (gap ++ codes "<span>" ++ token ++ codes "</span>" ++ rest)
one_span out gap token rest =
    ap (λ (x : List ℕ). x ++ token ++ codes "</span>" ++ rest) (append_assoc out gap (codes "<span>"))
    ∙ ap (λ (x : List ℕ). x ++ codes "</span>" ++ rest) (append_assoc out (gap ++ codes "<span>") token)
    ∙ ap (λ (x : List ℕ). x ++ rest) (append_assoc out (gap ++ codes "<span>" ++ token) (codes "</span>"))
    ∙ append_assoc out (gap ++ codes "<span>" ++ token ++ codes "</span>") rest

-- one token more
pub next_span : (text : List ℕ) (ts : List TokenRow) (k place start long : ℕ) (out : List ℕ) → k < length ts → start ≡ get_or (starts ts) k 0 → long ≡ get_or (lengths ts) k 0
    → out ++ escaped (take (start - place) (drop place text)) ++ codes "<span>" ++ escaped (take long (drop start text)) ++ codes "</span>" ++ spans text (start + long) (drop (k + 1) ts)
    ≡ out ++ spans text place (drop k ts)
next_span text ts k place start long out h s l =
    let next : k + 1 ≡ suc k = omega arith in
    one_span out (escaped (take (start - place) (drop place text))) (escaped (take long (drop start text))) (spans text (start + long) (drop (k + 1) ts))
    ∙ (λ i. out ++ (escaped (take (s i - place) (drop place text)) ++ codes "<span>" ++ escaped (take (l i) (drop (s i) text)) ++ codes "</span>" ++ spans text (s i + l i) (drop (next i) ts)))
    ∙ ap (λ (x : List ℕ). out ++ x) (sym (spans_at text place ts k h))

-- ---- rows

abbrev pub ups : List Row → List ℕ
ups rs = map (λ (r : Row). r.up) rs

parent_from : (i : ℕ) (rs : List Row) (k : ℕ) → k < length rs → get_or (parent_numbers i rs) k 0 ≡ i + k + get_or (ups rs) k 0
parent_from i [] k h = absurd (omega arith)
parent_from i (r ∷ rs) zero h = omega arith
parent_from i (r ∷ rs) (suc k) h = let e = parent_from (i + 1) rs k (omega arith) in omega (arith, e)

-- where the parent of a row stands
pub parent_is : (rs : List Row) (k : ℕ) → k < length rs → get_or (parent_numbers 0 rs) k 0 ≡ k + get_or (ups rs) k 0
parent_is rs k h = let e = parent_from 0 rs k h in omega (arith, e)

pub levels_at : (rs : List Row) (k : ℕ) → k < length rs → levels (drop k rs) ≡ level (get_or (ups rs) k 0) (levels (drop (suc k) rs)) ∷ levels (drop (suc k) rs)
levels_at [] k h = absurd (omega arith)
levels_at (r ∷ rs) zero h = refl
levels_at (r ∷ rs) (suc k) h = levels_at rs k (omega arith)

pub length-levels : (rs : List Row) → length (levels rs) ≡ length rs
length-levels [] = refl
length-levels (r ∷ rs) = ap suc (length-levels rs)

-- no level is above the number of rows
level_within : (up many : ℕ) (behind : List ℕ) → ((d : ℕ) → get_or behind d 0 ≤ many) → level up behind ≤ suc many
level_within zero many behind h = omega arith
level_within (suc d) many behind h = let e = h d in omega (arith, e)

pub levels_within : (rs : List Row) (d : ℕ) → get_or (levels rs) d 0 ≤ length rs
levels_within [] d = omega arith
levels_within (r ∷ rs) zero = level_within r.up (length rs) (levels rs) (levels_within rs)
levels_within (r ∷ rs) (suc d) = let e = levels_within rs d in omega (arith, e)

-- the levels behind a row are below the greatest number
pub room : (rs : List Row) (found : List ℕ) (k next parent : ℕ) → length rs ≤ 4294967295 → k + 1 ≡ next → k < length rs → k < parent → drop next found ≡ levels (drop next rs)
    → get_or found parent 0 < 4294967295
room rs found k next parent few n h further is =
    let d = parent - next in
    let e : next + d ≡ parent = omega (arith, n, further) in
    let read : get_or found parent 0 ≡ get_or (levels (drop next rs)) d 0 = ap (λ (m : ℕ). get_or found m 0) (sym e) ∙ sym (get_or-drop next found d 0) ∙ ap (λ (xs : List ℕ). get_or xs d 0) is in
    let low = levels_within (drop next rs) d in
    let left = length-drop next rs in
    omega (arith, few, n, h, read, low, left)

-- the level that was found, and those behind it
pub level_told : (rs : List Row) (found : List ℕ) (k next parent this : ℕ) → k < length rs → k + 1 ≡ next → parent ≡ get_or (parent_numbers 0 rs) k 0
    → drop next found ≡ levels (drop next rs) → this ≡ level (parent - k) (drop (k + 1) found) → this ∷ drop (k + 1) found ≡ levels (drop k rs)
level_told rs found k next parent this h n p is t =
    let same : k + 1 ≡ suc k = omega arith in
    let up : parent - k ≡ get_or (ups rs) k 0 = let e = parent_is rs k h in omega (arith, p, e) in
    let rest : drop (k + 1) found ≡ levels (drop (suc k) rs) =
    ap (λ (m : ℕ). drop m found) n ∙ is ∙ ap (λ (m : ℕ). levels (drop m rs)) (sym n ∙ same) in
    (λ i. t i ∷ drop (k + 1) found) ∙ (λ i. level (up i) (rest i) ∷ rest i) ∙ sym (levels_at rs k h)

-- ---- texts that are put behind each other

-- what stands behind a text, with one more part
pub behind : (old part more new last : List ℕ) → new ≡ old ++ part → last ≡ new ++ more → last ≡ old ++ (part ++ more)
behind old part more new last p q = q ∙ ap (λ (x : List ℕ). x ++ more) p ∙ append_assoc old part more

-- the last part, which is there where it was written
pub last_part : {T E : Type 0} (r : Result T E) (old part new : List ℕ) → new ≡ (if is_ok r then old ++ part else old) → OnOk r (new ≡ old ++ part)
last_part (Ok x) old part new h = h
last_part (Err e) old part new h = tt
