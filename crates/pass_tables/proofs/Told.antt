-- What tables tell, place by place, is what they tell of the whole lists.
use Rattle.std.proofs.Common.{◌≡◌, ℕ, zero, suc, ◌+◌, ◌<◌, ◌≤◌, Bool, true, false, List, [], ◌∷◌, ◌++◌, length, map, take, drop, get_or, Option, Some, None, cond, eq-eqb, zero-add, refl, sym, ap, ◌∙◌, arith}
use Rattle.std.specs.Prelude.{filter, nat_eq, if◌then◌else◌}
use Rattle.std.specs.List.{range_with_len}
use Rattle.std.proofs.lemmas.Bool.{ne_eqb}
use Rattle.std.proofs.lemmas.List.{get_or_past, length-map}
use Rattle.std.proofs.lemmas.List.FromFn.{fill_by_all}
use Rattle.std.proofs.Math.ListN.{get_or-map}
use Rattle.source_meaning.specs.Rows.{Row, parents, parent_of, is_function}
use Rattle.source_meaning.specs.Frames.{Frame as FrameRow}
use Rattle.ast_rows.specs.TokenRows.{TokenRow}
use Rattle.ast_rows.specs.NodeRows.{AreTold, token_word, token_of, parent_numbers}
use Rattle.ast_rows.specs.NameRows.{row_word}
use Rattle.rv_regs.specs.declared.frame.Frame.{Frame}
use Rattle.rv_regs.specs.FrameRows.{frame_of}
use Rattle.pass_tables.specs.Tables.{lexeme_of, token_text, token_text_or_nothing, own_text, token_in, kind_in, token_meant, function_names}
use Rattle.pass_tables.specs.ByRow.{parent_in}

pub map-map : {X Y Z : Type 0} (f : Y → Z) (g : X → Y) (xs : List X) → map f (map g xs) ≡ map (λ x. f (g x)) xs
map-map f g [] = refl
map-map f g (x ∷ xs) = ap (λ ys. f (g x) ∷ ys) (map-map f g xs)

-- ---- tokens

-- the bytes of a token, from the columns of places and lengths
pub by_columns : (text : List ℕ) (ts : List TokenRow) (k : ℕ)
    → token_text text ts k ≡ take (get_or (map (λ (t : TokenRow). t.length) ts) k 0) (drop (get_or (map (λ (t : TokenRow). t.start) ts) k 0) text)
by_columns text [] k = refl
by_columns text (t ∷ ts) zero = refl
by_columns text (t ∷ ts) (suc k) = by_columns text ts k

lexeme_at : (text : List ℕ) (ts : List TokenRow) (k : ℕ) → get_or (map (lexeme_of text) ts) k [] ≡ token_text text ts k
lexeme_at text [] k = refl
lexeme_at text (t ∷ ts) zero = refl
lexeme_at text (t ∷ ts) (suc k) = lexeme_at text ts k

pub lexemes_by_places : (text : List ℕ) (ts : List TokenRow) → map (token_text text ts) (range_with_len 0 (length ts)) ≡ map (lexeme_of text) ts
lexemes_by_places text ts = sym (fill_by_all (token_text text ts) (map (lexeme_of text) ts) (length ts) [] (length-map ts (lexeme_of text)) (λ k h. lexeme_at text ts k))

-- ---- rows

-- own tokens are told by the words that stand for them
pub told_at : (rs : List Row) (k : ℕ) → AreTold rs → token_of (get_or (map (λ (r : Row). token_word r.token) rs) k 4294967295) ≡ token_in rs k
told_at [] k told = refl
told_at (r ∷ rs) zero told = told r zero (omega arith)
told_at (r ∷ rs) (suc k) told = told_at rs k (λ d j h. told d (suc j) (omega arith))

pub tokens_by_places : (rs : List Row) → map (token_in rs) (range_with_len 0 (length rs)) ≡ map (λ (r : Row). r.token) rs
tokens_by_places rs = sym (fill_by_all (token_in rs) (map (λ (r : Row). r.token) rs) (length rs) None (length-map rs (λ (r : Row). r.token)) (λ k h. refl))

own_at : (text : List ℕ) (ts : List TokenRow) (rs : List Row) (k : ℕ) → get_or (map (own_text text ts) rs) k [] ≡ token_text_or_nothing text ts (token_in rs k)
own_at text ts [] k = refl
own_at text ts (r ∷ rs) zero = refl
own_at text ts (r ∷ rs) (suc k) = own_at text ts rs k

pub own_by_places : (text : List ℕ) (ts : List TokenRow) (rs : List Row) → map (λ k. token_text_or_nothing text ts (token_in rs k)) (range_with_len 0 (length rs)) ≡ map (own_text text ts) rs
own_by_places text ts rs =
    sym (fill_by_all (λ k. token_text_or_nothing text ts (token_in rs k)) (map (own_text text ts) rs) (length rs) [] (length-map rs (own_text text ts)) (λ k h. own_at text ts rs k))

-- what is told of a row's parent by the parent's number
abbrev told : ℕ → ℕ → Option ℕ
told k w = if nat_eq w k then None else Some w

itself : (k : ℕ) → None ≡ told (k + 0) (k + 0)
itself k = rw (eq-eqb (k + 0) (k + 0) refl) refl

another : (k up : ℕ) → Some (k + suc up) ≡ told (k + 0) (k + suc up)
another k up = rw (ne_eqb (k + suc up) (k + 0) (λ e. omega arith)) refl

parent_told : (k up : ℕ) → parent_of k up ≡ told (k + 0) (k + up)
parent_told k zero = itself k
parent_told k (suc up) = another k up

parent_at : (i : ℕ) (rs : List Row) (k : ℕ) → k < length rs → get_or (parents i rs) k None ≡ told (i + k) (get_or (parent_numbers i rs) k 0)
parent_at i [] k h = absurd (omega arith)
parent_at i (r ∷ rs) zero h = parent_told i r.up
parent_at i (r ∷ rs) (suc k) h =
    let e : i + 1 + k ≡ i + suc k = omega arith in
    parent_at (i + 1) rs k (omega arith) ∙ ap (λ n. told n (get_or (parent_numbers (i + 1) rs) k 0)) e

length-parents : (i : ℕ) (rs : List Row) → length (parents i rs) ≡ length rs
length-parents i [] = refl
length-parents i (r ∷ rs) = ap suc (length-parents (i + 1) rs)

pub parents_by_places : (rs : List Row) → map (parent_in rs) (range_with_len 0 (length rs)) ≡ parents 0 rs
parents_by_places rs =
    sym (fill_by_all (parent_in rs) (parents 0 rs) (length rs) None (length-parents 0 rs) (λ k h. parent_at 0 rs k h ∙ ap (λ n. told n (get_or (parent_numbers 0 rs) k 0)) (zero-add k)))

-- ---- what names mean

meant_by : (rs : List Row) (m : Option ℕ) → length rs ≤ 4294967295 → token_in rs (row_word m) ≡ token_meant rs m
meant_by rs None few = let e : length (map (λ (r : Row). r.token) rs) ≡ length rs = length-map rs (λ (r : Row). r.token) in get_or_past (map (λ (r : Row). r.token) rs) 4294967295 None (omega arith)
meant_by rs (Some j) few = refl

-- the greatest number of 32 bits is no row's
pub meant_told : (rs : List Row) (meant : List (Option ℕ)) (k : ℕ) → length rs ≤ 4294967295 → token_in rs (get_or (map row_word meant) k 4294967295) ≡ token_meant rs (get_or meant k None)
meant_told rs meant k few = ap (token_in rs) (get_or-map row_word meant k None) ∙ meant_by rs (get_or meant k None) few

-- ---- functions

kept_first : (f : Row → List ℕ) (b : Bool) (r : Row) → map f (cond b (r ∷ []) []) ≡ cond b (f r ∷ []) []
kept_first f true r = refl
kept_first f false r = refl

kept_next : (f : Row → List ℕ) (b : Bool) (r : Row) (xs ys : List Row) (more : List (List ℕ)) → map f xs ≡ map f ys ++ more → map f (cond b (r ∷ xs) xs) ≡ map f (cond b (r ∷ ys) ys) ++ more
kept_next f true r xs ys more h = ap (λ l. f r ∷ l) h
kept_next f false r xs ys more h = h

pub names_more : (text : List ℕ) (ts : List TokenRow) (rs : List Row) (k : ℕ) → k < length rs
    → function_names text ts (take (suc k) rs) ≡ function_names text ts (take k rs) ++ cond (is_function (kind_in rs k)) (token_text_or_nothing text ts (token_in rs k) ∷ []) []
names_more text ts [] k h = absurd (omega arith)
names_more text ts (r ∷ rs) zero h = kept_first (own_text text ts) (is_function r.kind) r
names_more text ts (r ∷ rs) (suc k) h =
    kept_next (own_text text ts) (is_function r.kind) r (filter (λ r. is_function r.kind) (take (suc k) rs)) (filter (λ r. is_function r.kind) (take k rs))
    (cond (is_function (kind_in rs k)) (token_text_or_nothing text ts (token_in rs k) ∷ []) []) (names_more text ts rs k (omega arith))

-- ---- frames

-- a number of frames that are kept is that of the frames
pub kept_numbers : (f : Frame → ℕ) (g : FrameRow → ℕ) → ((x : Frame) → f x ≡ g (frame_of x)) → (xs : List Frame) → map f xs ≡ map g (map frame_of xs)
kept_numbers f g same [] = refl
kept_numbers f g same (x ∷ xs) = λ i. same x i ∷ kept_numbers f g same xs i
