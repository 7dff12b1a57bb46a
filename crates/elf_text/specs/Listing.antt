-- The listing of the code of a file, and the file of a listing.
use Rattle.std.specs.Prelude.{ℕ, zero, suc, ◌+◌, ◌*◌, ◌/◌, ◌%◌, List, [], ◌∷◌, ◌++◌, length, take, drop, map, flat_map, codes, decimal, bit_and, Bool, ◌&&◌, ◌==◌, if◌then◌else◌, Result, Ok, Err}
use Rattle.std.specs.List.{range_with_len}
use Rattle.elf_file.specs.Image.{elf}
use Rattle.elf_file.specs.Load.{Segments, load, half_at, word_at, is_loaded}
use Rattle.elf_file.specs.declared.fault.ElfFault.{ElfFault}
use Rattle.rv_text.specs.Assembled.{assembled}
use Rattle.rv_text.specs.Written.{hexadecimal, listed}
use Rattle.rv_text.specs.declared.fault.AsmFault.{AsmFault}

abbrev pub line : List ℕ → List ℕ
line text = text ++ 10 ∷ []

-- the whole words of some bytes, the lowest byte of each first
abbrev pub whole_words : List ℕ → List ℕ
whole_words bytes = map (λ k. word_at bytes (4 * k)) (range_with_len 0 (length bytes / 4))

-- the line for one to three bytes that are left
abbrev pub rest : ℕ → List ℕ
rest zero = []
rest (suc n) = line (codes "# rest " ++ decimal (suc n))

-- the listing of the bytes from an address on
abbrev pub code_listed : ℕ → List ℕ → List ℕ
code_listed start bytes = line (codes "# 0x" ++ hexadecimal start) ++ listed (whole_words bytes) ++ rest (length bytes % 4)

-- the program header at an offset has a segment that is loaded and may be executed
abbrev pub is_code : List ℕ → ℕ → Bool
is_code file o = is_loaded file o && bit_and (word_at file (o + 24)) 1 == 1

-- the bytes of its segment that stand in the file
abbrev pub file_bytes : List ℕ → ℕ → List ℕ
file_bytes file o = take (word_at file (o + 16)) (drop (word_at file (o + 4)) file)

abbrev pub header_listed : List ℕ → ℕ → List ℕ
header_listed file o = if is_code file o then code_listed (word_at file (o + 8)) (file_bytes file o) else []

-- the code of all program headers, in their order
abbrev pub file_listed : List ℕ → List ℕ
file_listed file = flat_map (λ i. header_listed file (word_at file 28 + 32 * i)) (range_with_len 0 (half_at file 44))

abbrev pub listed_if_loaded : List ℕ → Result Segments ElfFault → Result (List ℕ) ElfFault
listed_if_loaded file (Err fault) = Err fault
listed_if_loaded file (Ok segments) = Ok (file_listed file)

-- the listing of a file, or the fault for which it isn't loaded
abbrev pub dumped : List ℕ → Result (List ℕ) ElfFault
dumped file = listed_if_loaded file (load file)

abbrev pub file_of_words : Result (List ℕ) AsmFault → Result (List ℕ) AsmFault
file_of_words (Err fault) = Err fault
file_of_words (Ok words) = Ok (elf words)

-- the file of the words that a text spells, or the text's first fault
abbrev pub file_of_text : List ℕ → Result (List ℕ) AsmFault
file_of_text text = file_of_words (assembled text)
