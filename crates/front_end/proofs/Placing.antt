-- The places of tokens are their own, in the order of their numbers.
use Rattle.std.proofs.Common.{◌≡◌, ℕ, zero, suc, ◌+◌, true, false, ◌==◌, List, [], ◌∷◌, length, map, if◌then◌else◌, slice_index_or, refl, sym, ap, ◌∙◌, arith}
use Rattle.std.proofs.lemmas.Bool.Decides.{nat_tests}
use Rattle.source_meaning.specs.Lexemes.{Token, place_of}
use Rattle.source_meaning.specs.Grammar.{terminal_number}
use Rattle.ast_rows.specs.TokenRows.{TokenRow, row_of}
use Rattle.row_laws.specs.Sliced.{AreSliced}

pub places_are : (text : List ℕ) (k : ℕ) (ts : List Token) → AreSliced text k ts → (n : ℕ) → slice_index_or (map (λ t. t.start) ts) n (length text) ≡ place_of text ts (k + n)
places_are text k [] h n = refl
places_are text k (t ∷ ts) h zero =
    let b : (t.number == k + 0) ≡ true = (let e = h.0 in grind (arith, nat_tests)) in
    sym (ap (λ c. if c then t.start else place_of text ts (k + 0)) b)
places_are text k (t ∷ ts) h (suc n) =
    let b : (t.number == k + suc n) ≡ false = (let e = h.0 in grind (arith, nat_tests)) in
    let e : suc k + n ≡ k + suc n = omega arith in
    (places_are text (suc k) ts h.2 n ∙ ap (place_of text ts) e) ∙ sym (ap (λ c. if c then t.start else place_of text ts (k + suc n)) b)

pub starts_of : (ts : List Token) → map (λ r. r.start) (map row_of ts) ≡ map (λ t. t.start) ts
starts_of [] = refl
starts_of (t ∷ ts) = ap (λ ns. t.start ∷ ns) (starts_of ts)

pub terminals_of : (ts : List Token) → map (λ r. terminal_number r.terminal) (map row_of ts) ≡ map (λ t. terminal_number t.terminal) ts
terminals_of [] = refl
terminals_of (t ∷ ts) = ap (λ ns. terminal_number t.terminal ∷ ns) (terminals_of ts)

pub numbers_of : (rs : List TokenRow) → map terminal_number (map (λ r. r.terminal) rs) ≡ map (λ r. terminal_number r.terminal) rs
numbers_of [] = refl
numbers_of (r ∷ rs) = ap (λ ns. terminal_number r.terminal ∷ ns) (numbers_of rs)
