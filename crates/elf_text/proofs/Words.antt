-- The words of the bytes of words.
use Rattle.std.proofs.Common.{◌≡◌, ℕ, zero, suc, ◌+◌, ◌-◌, ◌*◌, ◌/◌, ◌%◌, ◌^◌, ◌<◌, ◌≤◌, List, [], ◌∷◌, ◌++◌, length, take, drop, get_or, All, refl, ap, ◌∙◌, arith, length-append}
use Rattle.std.specs.Prelude.{flat_map}
use Rattle.std.specs.List.{range_with_len}
use Rattle.std.proofs.lemmas.List.{ext_get_or}
use Rattle.std.proofs.lemmas.List.Elements.{All-tail}
use Rattle.std.proofs.lemmas.List.FromFn.{length-map-range_with_len, get_or-map-range_with_len}
use Rattle.elf_file.specs.Image.{word}
use Rattle.elf_file.specs.Load.{word_at}
use Rattle.elf_text.specs.Listing.{whole_words}

pub four_bytes : (n : ℕ) → n < 2 ^ 32 → word_at (word n) 0 ≡ n
four_bytes n h = omega arith

pub words_long : (words : List ℕ) → length (flat_map word words) ≡ 4 * length words
words_long [] = refl
words_long (w ∷ ws) = omega (arith, length-append (word w) (flat_map word ws), words_long ws)

-- the word number k of the bytes of words
word_again : (ws : List ℕ) (k : ℕ) → All (λ w. w < 2 ^ 32) ws → k < length ws → word_at (flat_map word ws) (4 * k) ≡ get_or ws k 0
word_again [] k all inside = absurd (omega arith)
word_again (w ∷ ws) zero all inside = four_bytes w (all 0 0 (omega arith))
word_again (w ∷ ws) (suc k) all inside =
    let e : 4 * suc k ≡ suc (suc (suc (suc (4 * k)))) = omega arith in
    ap (word_at (flat_map word (w ∷ ws))) e ∙ word_again ws k (All-tail (λ w. w < 2 ^ 32) w ws all) (omega arith)

quarter : (ws : List ℕ) → length (flat_map word ws) / 4 ≡ length ws
quarter ws = let e : length (flat_map word ws) ≡ 4 * length ws = words_long ws in omega arith

pub none_left : (ws : List ℕ) → length (flat_map word ws) % 4 ≡ 0
none_left ws = let e : length (flat_map word ws) ≡ 4 * length ws = words_long ws in omega arith

pub words_again : (ws : List ℕ) → All (λ w. w < 2 ^ 32) ws → whole_words (flat_map word ws) ≡ ws
words_again ws all =
    let bytes = flat_map word ws in
    let many : length (whole_words bytes) ≡ length ws = length-map-range_with_len (λ k. word_at bytes (4 * k)) 0 (length bytes / 4) ∙ quarter ws in
    ext_get_or 0 (whole_words bytes) ws many (λ k inside.
    let low : k < length ws = omega (arith, many) in
    let near : k < length bytes / 4 = omega (arith, quarter ws) in
    get_or-map-range_with_len (λ k. word_at bytes (4 * k)) 0 (length bytes / 4) k k 0 near (omega arith) ∙ word_again ws k all low)
