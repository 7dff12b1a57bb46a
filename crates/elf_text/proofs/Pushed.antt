-- A list with one piece more behind it.
use Rattle.std.proofs.Common.{◌≡◌, ℕ, ◌+◌, ◌*◌, List, [], ◌∷◌, ◌++◌, sym, ap, ◌∙◌, arith, append_assoc}
use Rattle.std.specs.Prelude.{map, flat_map}
use Rattle.std.specs.List.{range_with_len}
use Rattle.std.proofs.lemmas.List.{flat_map_more}
use Rattle.std.proofs.lemmas.List.Folds.{flat_map-map}
use Rattle.std.proofs.lemmas.List.FromFn.{map-range_with_len_more}
use Rattle.elf_file.specs.Load.{word_at}
use Rattle.rv_text.specs.Written.{line_of, listed}

-- the first words of some bytes
abbrev pub first_words : List ℕ → ℕ → List ℕ
first_words bytes k = map (λ j. word_at bytes (4 * j)) (range_with_len 0 k)

word_more : (text bytes : List ℕ) (k : ℕ) → (text ++ listed (first_words bytes k)) ++ (line_of (word_at bytes (4 * k)) ++ 10 ∷ []) ≡ text ++ listed (first_words bytes (k + 1))
word_more text bytes k =
    flat_map_more (λ w. line_of w ++ 10 ∷ []) text (first_words bytes k) (word_at bytes (4 * k))
    ∙ ap (λ ws. text ++ listed ws) (sym (map-range_with_len_more (λ j. word_at bytes (4 * j)) 0 k k (omega arith)))

-- one line more
pub line_onto : (bytes : List ℕ) (k : ℕ) (text before after : List ℕ) (w : ℕ) → w ≡ word_at bytes (4 * k) → before ≡ text ++ listed (first_words bytes k)
    → after ≡ before ++ line_of w ++ 10 ∷ [] → after ≡ text ++ listed (first_words bytes (k + 1))
line_onto bytes k text before after w is so_far next =
    next ∙ (append_assoc before (line_of w) (10 ∷ []) ∙ (λ i. so_far i ++ (line_of (is i) ++ 10 ∷ [])) ∙ word_more text bytes k)

pub piece_more : (f : ℕ → List ℕ) (k : ℕ) → flat_map f (range_with_len 0 k) ++ f k ≡ flat_map f (range_with_len 0 (k + 1))
piece_more f k =
    let same : (n : ℕ) → flat_map (λ xs. xs) (map f (range_with_len 0 n)) ≡ flat_map f (range_with_len 0 n) = λ n. flat_map-map (λ xs. xs) f (range_with_len 0 n) in
    ap (λ xs. xs ++ f k) (sym (same k))
    ∙ (flat_map_more (λ xs. xs) [] (map f (range_with_len 0 k)) (f k)
    ∙ (ap (flat_map (λ xs. xs)) (sym (map-range_with_len_more f 0 k k (omega arith))) ∙ same (k + 1)))
