-- The listing of the file of words is assembled to this file.
use Rattle.std.proofs.Common.{◌≡◌, ℕ, ◌+◌, ◌-◌, ◌*◌, ◌/◌, ◌%◌, ◌^◌, ◌<◌, ◌≤◌, zero, suc, List, [], ◌∷◌, ◌++◌, length, take, drop, get_or, All, Result, Ok, Bool, cond, true, false, not, refl, sym, ap, subst, ◌∙◌, arith, append-nil}
use Rattle.std.specs.Prelude.{codes, eqb, map, flat_map, ◌==◌}
use Rattle.std.proofs.lemmas.Bool.{ne_eqb}
use Rattle.std.proofs.lemmas.Bool.Decides.{nat_tests}
use Rattle.std.proofs.lemmas.List.{length-map, take_all}
use Rattle.std.proofs.lemmas.List.Sums.{AllPass-from_list_all}
use Rattle.elf_file.specs.Image.{elf, elf_header, program_header, word}
use Rattle.elf_file.specs.Load.{load, word_at, is_loaded, code_alone}
use Rattle.rv_text.specs.Assembled.{assembled}
use Rattle.rv_text.specs.Written.{listed}
use Rattle.elf_text.specs.Listing.{whole_words, rest, code_listed, is_code, file_bytes, header_listed, file_listed, listed_if_loaded, dumped, file_of_words, file_of_text}
use Rattle.elf_text.proofs.Words.{four_bytes, words_long, words_again, none_left}

-- the comment before the words of a file that is written, without its first byte
abbrev pub its_address : List ℕ
its_address = codes " 0x00010054"

abbrev pub its_listing : List ℕ → List ℕ
its_listing words = 0x23 ∷ its_address ++ 10 ∷ listed words

-- the one header of a written file
one_header : (words : List ℕ) → 0 < length words → length words ≤ 4194304 → header_listed (elf words) 52 ≡ code_listed 0x10054 (flat_map word words)
one_header words some few =
    let file = elf words in
    let n = 4 * length words in
    let code = flat_map word words in
    let size : word_at file 72 ≡ n = four_bytes n (omega arith) in
    let is : take n (drop 84 file) ≡ code = take_all n code (omega (arith, words_long words)) in
    let t : eqb n 0 ≡ false = ne_eqb n 0 (λ e. omega arith) in
    let runs : is_code file 52 ≡ true = rw (size, t) refl in
    let bytes : file_bytes file 52 ≡ code = ap (λ m. take m (drop 84 file)) size ∙ is in
    ap (λ b. cond b (code_listed 0x10054 (file_bytes file 52)) []) runs ∙ ap (code_listed 0x10054) bytes

file_is_listed : (words : List ℕ) → All (λ w. w < 2 ^ 32) words → 0 < length words → length words ≤ 4194304 → file_listed (elf words) ≡ its_listing words
file_is_listed words all some few =
    let code = flat_map word words in
    append-nil (header_listed (elf words) 52)
    ∙ (one_header words some few
    ∙ ((λ i. codes "# 0x00010054" ++ 10 ∷ (listed (words_again words all i) ++ rest (none_left words i)))
    ∙ ap (λ more. its_address_line more) (append-nil (listed words))))
  where
    its_address_line : List ℕ → List ℕ
    its_address_line more = codes "# 0x00010054" ++ 10 ∷ more

-- a file has the lowest bytes of its words alone

abbrev low : ℕ → ℕ
low w = w % 2 ^ 32

low_small : (ws : List ℕ) → All (λ w. w < 2 ^ 32) (map low ws)
low_small [] k d inside = absurd (omega arith)
low_small (w ∷ ws) zero d inside = let e : w % 2 ^ 32 < 2 ^ 32 = omega arith in e
low_small (w ∷ ws) (suc k) d inside = low_small ws k d (omega arith)

low_word : (w : ℕ) → word (low w) ≡ word w
low_word w =
    let a : low w % 256 ≡ w % 256 = omega arith in
    let b : low w / 256 % 256 ≡ w / 256 % 256 = omega arith in
    let c : low w / 65536 % 256 ≡ w / 65536 % 256 = omega arith in
    let d : low w / 16777216 % 256 ≡ w / 16777216 % 256 = omega arith in
    λ i. a i ∷ b i ∷ c i ∷ d i ∷ []

low_words : (ws : List ℕ) → flat_map word (map low ws) ≡ flat_map word ws
low_words [] = refl
low_words (w ∷ ws) = λ i. low_word w i ++ low_words ws i

low_file : (ws : List ℕ) → elf (map low ws) ≡ elf ws
low_file ws = λ i. elf_header ++ program_header (4 * length-map ws low i) ++ low_words ws i

-- ---- the law, from those of files and of listings

no_feed : (b : ℕ) → not (b == 10) ≡ true → (b == 10) ≡ false
no_feed b h = grind (arith, nat_tests)

its_address_goes_on : All (λ b. (b == 10) ≡ false) its_address
its_address_goes_on k d inside = no_feed (get_or its_address k d) (AllPass-from_list_all (λ b. not (b == 10)) its_address refl k d inside)

abbrev pub AreLoaded : Type 0
AreLoaded = (words : List ℕ) → 0 < length words → length words ≤ 4194304 → load (elf words) ≡ Ok (code_alone words)

abbrev pub AreAssembled : Type 0
AreAssembled = (comment words : List ℕ) → All (λ b. (b == 10) ≡ false) comment → length comment ≤ 1000 → All (λ w. w < 2 ^ 32) words → 0 < length words → length words ≤ 4194304
    → assembled (0x23 ∷ comment ++ 10 ∷ listed words) ≡ Ok words

abbrev pub IsGivenBack : List ℕ → Type 0
IsGivenBack file = (text : List ℕ) × (dumped file ≡ Ok text) × (file_of_text text ≡ Ok file)

small_given_back : AreLoaded → AreAssembled → (words : List ℕ) → All (λ w. w < 2 ^ 32) words → 0 < length words → length words ≤ 4194304 → IsGivenBack (elf words)
small_given_back loaded assembles words all some few = (
  its_listing words,
  ap (listed_if_loaded (elf words)) (loaded words some few) ∙ ap Ok (file_is_listed words all some few),
  ap file_of_words (assembles its_address words its_address_goes_on (omega arith) all some few),
)

pub given_back : AreLoaded → AreAssembled → (words : List ℕ) → 0 < length words → length words ≤ 4194304 → IsGivenBack (elf words)
given_back loaded assembles words some few =
    let many : length (map low words) ≡ length words = length-map words low in
    subst IsGivenBack (low_file words) (small_given_back loaded assembles (map low words) (low_small words) (omega (arith, many)) (omega (arith, many)))
