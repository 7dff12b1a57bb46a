-- Lines of diagnostics are short, and so are images.
use Rattle.std.proofs.Common.{◌≡◌, ℕ, ◌*◌, ◌^◌, ◌<◌, ◌≤◌, List, [], ◌∷◌, ◌++◌, length, codes, refl, arith, length-append}
use Rattle.std.specs.Prelude.{decimal, flat_map}
use Rattle.std.proofs.lemmas.Fmt.{length-decimal-le}
use Rattle.elf_file.specs.Image.{elf, word}
use Rattle.table_text.specs.Lines.{line}

pub line_is_short : (name : List ℕ) (code row column : ℕ) → length name ≤ 6 → code < 2 ^ 16 → row < 2 ^ 64 → column < 2 ^ 64
    → length (line (name ++ (decimal code ++ codes " at " ++ decimal row ++ codes ":" ++ decimal column))) < 2 ^ 32
line_is_short name code row column few code_small row_small column_small =
    let a : length (decimal code) ≤ 20 = length-decimal-le 20 code (omega arith) (omega arith) (omega arith) in
    let b : length (decimal row) ≤ 20 = length-decimal-le 20 row (omega arith) (omega arith) row_small in
    let c : length (decimal column) ≤ 20 = length-decimal-le 20 column (omega arith) (omega arith) column_small in
    let at : length (codes " at ") ≡ 4 = refl in
    let colon : length (codes ":") ≡ 1 = refl in
    let one : List ℕ = decimal code ++ codes " at " in
    let two : List ℕ = one ++ decimal row in
    let three : List ℕ = two ++ codes ":" in
    let four : List ℕ = three ++ decimal column in
    omega (arith, length-append (name ++ four) (10 ∷ []), length-append name four, length-append three (decimal column), length-append two (codes ":"), length-append one (decimal row), length-append (decimal code) (codes " at "))

words_long : (words : List ℕ) → length (flat_map word words) ≡ 4 * length words
words_long [] = refl
words_long (w ∷ ws) = omega (arith, length-append (word w) (flat_map word ws), words_long ws)

pub image_is_short : (words : List ℕ) → length words ≤ 4194304 → length (elf words) < 2 ^ 32
image_is_short words few = omega (arith, words_long words)
