-- The rows of functions as those that are kept of all, and how many functions stand before a row.
use Rattle.std.proofs.Common.{◌≡◌, ℕ, zero, suc, ◌+◌, ◌<◌, ◌≤◌, Bool, true, false, cond, List, [], ◌∷◌, ◌++◌, length, map, filter, get_or, refl, sym, ap, ◌∙◌, arith}
use Rattle.std.specs.List.{range_with_len, zip}
use Rattle.std.proofs.lemmas.List.Elements.{filter-append}
use Rattle.std.proofs.lemmas.List.FromFn.{get_or-map-range_with_len}
use Rattle.source_meaning.specs.declared.kinds.Kind.{Kind}
use Rattle.source_meaning.specs.declared.kinds.Kind.TheVariants.{Program as ProgramKind}
use Rattle.source_meaning.specs.Rows.{is_function}
use Rattle.ast_rows.specs.FunctionRows.{function_mark, functions_before, functions_by, owner_at}

-- whether row k is a function
abbrev pub is_function_at : List Kind → ℕ → Bool
is_function_at kinds k = is_function (get_or kinds k ProgramKind)

-- ---- the rows that are kept of all

abbrev marked_from : ℕ → List Bool → List ℕ
marked_from at marks = map (λ p. p.0) (filter (λ p. p.1) (zip (range_with_len at (length marks)) marks))

marked_next : (at : ℕ) (b : Bool) (bs : List Bool) → marked_from at (b ∷ bs) ≡ cond b (at ∷ marked_from (at + 1) bs) (marked_from (at + 1) bs)
marked_next at true bs = refl
marked_next at false bs = refl

kept_from : (test : ℕ → Bool) (at : ℕ) (kinds : List Kind) → ((i : ℕ) → i < length kinds → test (at + i) ≡ is_function_at kinds i) → marked_from at (map is_function kinds) ≡ filter test (range_with_len at (length kinds))
kept_from test at [] told = refl
kept_from test at (kind ∷ kinds) told =
    let z : at ≡ at + 0 = omega arith in
    let first : is_function kind ≡ test at = sym (ap test z ∙ told 0 (omega arith)) in
    let rest : marked_from (at + 1) (map is_function kinds) ≡ filter test (range_with_len (at + 1) (length kinds)) = kept_from test (at + 1) kinds (λ i l. ap test (let e : at + 1 + i ≡ at + suc i = omega arith in e) ∙ told (suc i) (omega arith)) in
    marked_next at (is_function kind) (map is_function kinds) ∙ (λ i. cond (first i) (at ∷ rest i) (rest i))

pub functions_kept : (kinds : List Kind) → functions_by kinds ≡ filter (is_function_at kinds) (range_with_len 0 (length kinds))
functions_kept kinds = kept_from (is_function_at kinds) 0 kinds (λ i l. ap (is_function_at kinds) (let e : 0 + i ≡ i = omega arith in e))

-- one number more
range_last : (a n j : ℕ) → a + n ≡ j → range_with_len a (suc n) ≡ range_with_len a n ++ j ∷ []
range_last a zero j e = let same : a ≡ j = omega arith in ap (λ k. k ∷ []) same
range_last a (suc n) j e = ap (λ l. a ∷ l) (range_last (a + 1) n j (omega arith))

pub kept_more : (test : ℕ → Bool) (k : ℕ) → filter test (range_with_len 0 (k + 1)) ≡ filter test (range_with_len 0 k) ++ cond (test k) (k ∷ []) []
kept_more test k =
    let next : k + 1 ≡ suc k = omega arith in
    ap (filter test) (ap (range_with_len 0) next ∙ range_last 0 k k (omega arith)) ∙ filter-append test (range_with_len 0 k) (k ∷ [])

-- ---- how many functions stand before a row

pub owner_read : (kinds : List Kind) (k : ℕ) → k ≤ length kinds → get_or (functions_before kinds) k 0 ≡ owner_at kinds k
owner_read kinds k le = get_or-map-range_with_len (owner_at kinds) 0 (length kinds + 1) k k 0 (omega arith) (omega arith)

-- as the rows are numbered from the first one on
pub owner_front : (kind : Kind) (kinds : List Kind) (k : ℕ) → owner_at (kind ∷ kinds) (suc k) ≡ function_mark kind + owner_at kinds k
owner_front kind kinds zero = omega arith
owner_front kind kinds (suc k) = let before = owner_front kind kinds k in omega arith

-- a row is at most one function
pub mark_most : (kind : Kind) → function_mark kind ≤ 1
mark_most kind = by (is_function kind)
  where
    by : (b : Bool) → cond b 1 0 ≤ 1
    by true = omega arith
    by false = omega arith

pub owner_most : (kinds : List Kind) (k : ℕ) → owner_at kinds k ≤ k
owner_most kinds zero = omega arith
owner_most kinds (suc k) = let most = mark_most (get_or kinds k ProgramKind) in let before = owner_most kinds k in omega arith
