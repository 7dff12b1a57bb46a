-- The file of words is loaded as one segment with their bytes.
use Rattle.std.proofs.Common.{◌≡◌, ℕ, ◌+◌, ◌-◌, ◌*◌, ◌^◌, ◌<◌, ◌≤◌, List, [], ◌∷◌, ◌++◌, length, take, drop, replicate, Ok, true, false, refl, ap, ◌∙◌, arith, length-append}
use Rattle.std.specs.Prelude.{slice_index, eqb, ltb, flat_map}
use Rattle.std.proofs.lemmas.List.{length-replicate, take_all, append-nil}
use Rattle.std.proofs.lemmas.Bool.{le-ltb, lt-ltb, ne_eqb}
use Rattle.elf_file.specs.Image.{elf, word}
use Rattle.elf_file.specs.Load.{load, half_at, word_at, most, code_alone}

-- one segment, by what the file's fields are
fields_load : (file code : List ℕ) (n : ℕ) → 0 < n → n ≤ 16777216 → length file ≡ 84 + n → length code ≡ n → take n (drop 84 file) ≡ code
    → word_at file 0 ≡ 0x464C457F → slice_index file 4 ≡ 1 → slice_index file 5 ≡ 1 → slice_index file 6 ≡ 1 → half_at file 16 ≡ 2 → half_at file 42 ≡ 32 → half_at file 18 ≡ 243
    → word_at file 24 ≡ 0x10054 → half_at file 44 ≡ 1 → word_at file 28 ≡ 52 → word_at file 52 ≡ 1 → word_at file 56 ≡ 84 → word_at file 60 ≡ 0x10054 → word_at file 68 ≡ n → word_at file 72 ≡ n → word_at file 76 ≡ 5
    → load file ≡ Ok (record { entry = 0x10054; segments = record { start = 0x10054; bytes = code ++ replicate (n - n) 0; flags = 5 } ∷ [] })
fields_load file code n pos fits long code_long is magic class order version kind entry_size machine entry count at loaded offset start file_size size flags =
    let t1 : ltb most (length file) ≡ false = le-ltb most (length file) (omega arith) in
    let t2 : ltb (length file) 52 ≡ false = le-ltb (length file) 52 (omega arith) in
    let t3 : ltb (length file) (52 + 32) ≡ false = le-ltb (length file) (52 + 32) (omega arith) in
    let t4 : eqb n 0 ≡ false = ne_eqb n 0 (λ e. omega arith) in
    let t5 : ltb (length file) (84 + n) ≡ false = le-ltb (length file) (84 + n) (omega arith) in
    let t6 : ltb n n ≡ false = le-ltb n n (omega arith) in
    let t7 : ltb (2 ^ 32) (0x10054 + n) ≡ false = le-ltb (2 ^ 32) (0x10054 + n) (omega arith) in
    let t8 : ltb 0x70000000 (0x10054 + n) ≡ false = le-ltb 0x70000000 (0x10054 + n) (omega arith) in
    let t9 : ltb most (0 + n) ≡ false = le-ltb most (0 + n) (omega arith) in
    let long_all : length (code ++ replicate (n - n) 0) ≡ n = omega (arith, length-append code (replicate (n - n) 0), length-replicate {A = ℕ} (n - n) 0) in
    let t10 : ltb 0x10054 (0x10054 + length (code ++ replicate (n - n) 0)) ≡ true = lt-ltb 0x10054 (0x10054 + length (code ++ replicate (n - n) 0)) (omega arith) in
    rw (t1, t2, magic, class, order, version, kind, entry_size, machine, entry, count, at, t3, loaded, size, t4, file_size, t4, offset, t5, t6, start, t7, t8, t9, is, flags, t10)

four_bytes : (n : ℕ) → n < 2 ^ 32 → word_at (word n) 0 ≡ n
four_bytes n h = omega arith

no_more : (code : List ℕ) (n : ℕ) → code ++ replicate (n - n) 0 ≡ code
no_more code n = ap (λ m. code ++ replicate m 0) (let e : n - n ≡ 0 = omega arith in e) ∙ append-nil code

words_long : (words : List ℕ) → length (flat_map word words) ≡ 4 * length words
words_long [] = refl
words_long (w ∷ ws) = omega (arith, length-append (word w) (flat_map word ws), words_long ws)

pub written-loads : (words : List ℕ) → 0 < length words → length words ≤ 4194304 → load (elf words) ≡ Ok (code_alone words)
written-loads words pos short =
    let file = elf words in
    let n = 4 * length words in
    let code = flat_map word words in
    let code_long : length code ≡ n = words_long words in
    let long : length file ≡ 84 + n = omega (arith, code_long) in
    let is : take n (drop 84 file) ≡ code = take_all n code (omega (arith, code_long)) in
    let size : word_at file 72 ≡ n = four_bytes n (omega arith) in
    let file_size : word_at file 68 ≡ n = four_bytes n (omega arith) in
    fields_load file code n (omega arith) (omega arith) long code_long is refl refl refl refl refl refl refl refl refl refl refl refl refl file_size size refl
    ∙ ap (λ (bs : List ℕ). Ok (record { entry = 0x10054; segments = record { start = 0x10054; bytes = bs; flags = 5 } ∷ [] })) (no_more code n)
