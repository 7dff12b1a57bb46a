-- A number stands in a list where it is at some place.
use Rattle.std.proofs.Common.{◌≡◌, ℕ, zero, suc, ◌+◌, ◌<◌, List, [], ◌∷◌, ◌++◌, length, get_or, set, true, false, refl, sym, ap, ◌∙◌, arith, ltb}
use Rattle.std.proofs.lemmas.Bool.{lt-ltb}
use Rattle.std.proofs.lemmas.List.{get_or_append_left, get_or_default, set-append_left}
use Rattle.chunk_seats.specs.Tallies.{one, times}
use Rattle.board_core.specs.declared.steps.Status.{Status}
use Rattle.board_core.specs.State.{Seat, fresh, gone, has}
use Rattle.board_core.specs.Steps.{shares, giving, joining}
use Rattle.board_core.specs.Laws.Lists.{one-same, one-other}

some_times : (xs : List ℕ) (i n : ℕ) → i < length xs → get_or xs i 0 ≡ n → 0 < times n xs
some_times [] i n h e = absurd (omega arith)
some_times (x ∷ xs) zero n h e = omega (arith, ap (one n) e ∙ one-same n)
some_times (x ∷ xs) (suc i) n h e = let r = some_times xs i n (omega arith) e in omega arith

no_times : (xs : List ℕ) (n : ℕ) → ((k : ℕ) → k < length xs → get_or xs k 0 ≡ n → ⊥) → times n xs ≡ 0
no_times [] n h = refl
no_times (x ∷ xs) n h = omega (arith, one-other n x (λ e. h 0 (omega arith) e), no_times xs n (λ k b e. h (suc k) (omega arith) e))

pub found : (xs : List ℕ) (i n : ℕ) → i < length xs → get_or xs i 0 ≡ n → true ≡ has n xs
found xs i n h e = sym (lt-ltb 0 (times n xs) (some_times xs i n h e))

pub not_found : (xs : List ℕ) (n : ℕ) → ((k : ℕ) → k < length xs → get_or xs k 0 ≡ n → ⊥) → false ≡ has n xs
not_found xs n h = sym (ap (ltb 0) (no_times xs n h))

-- the fields of a joined seat
pub joined_is : {I : Type 0} (seat other : Seat I) (share weight : ℕ) (claimed done shown sealed : List ℕ) (looked : List (ℕ × Status I)) → share ≡ shares seat.share other.share → weight ≡ seat.weight + other.weight
    → claimed ≡ seat.claimed ++ other.claimed → done ≡ seat.done ++ other.done → shown ≡ seat.shown ++ other.shown → sealed ≡ seat.sealed ++ other.sealed → looked ≡ seat.looked ++ other.looked
    → record { share = share; weight = weight; claimed = claimed; done = done; shown = shown; sealed = sealed; looked = looked } ≡ joining seat other
joined_is seat other share weight claimed done shown sealed looked a b c d e f g = λ i. record { share = a i; weight = b i; claimed = c i; done = d i; shown = e i; sealed = f i; looked = g i }

-- a seat comes to the end, and one before gives its share
pub split_seats : {I : Type 0} (old items : List (Seat I)) (a n : ℕ) (new found left : Seat I) → a < length old → items ≡ old ++ new ∷ [] → new ≡ fresh n → found ≡ get_or items a found → left ≡ giving n found
    → set items a left ≡ set old a (giving n (get_or old a gone)) ++ fresh n ∷ []
split_seats old items a n new found left near longer is at gave =
    let was : found ≡ get_or old a gone = at ∙ (ap (λ l. get_or l a found) longer ∙ (get_or_append_left old (new ∷ []) found a near ∙ get_or_default old a found gone near)) in
    ap (λ l. set l a left) longer ∙ (set-append_left old (new ∷ []) a left near ∙ (λ i. set old a ((gave ∙ ap (giving n) was) i) ++ is i ∷ []))
