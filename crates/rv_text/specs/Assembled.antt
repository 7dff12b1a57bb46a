-- What a text of assembly gives: words, or its first fault.
use Rattle.std.specs.Prelude.{◌≡◌, ℕ, ◌+◌, ◌-◌, ◌<◌, ◌≤◌, List, [], ◌∷◌, length, map, Some, slice_get, Result, Ok, Err, nat_lt, ◌==◌, if◌then◌else◌}
use Rattle.std.specs.Str.Lines.{lines}
use Rattle.rv_text.specs.declared.fault.AsmFault.{AsmFault}
use Rattle.rv_text.specs.declared.fault.AsmFault.TheVariants.{TooLarge, Line as LineOf, Empty, TooMany, NoMemory}
use Rattle.rv_text.specs.declared.lines.Line.{Line}
use Rattle.rv_text.specs.declared.lines.Line.TheVariants.{Blank, Spells, Wrong}
use Rattle.rv_text.specs.Reading.{line_read}

abbrev pub with_line : ℕ → Line → Result (List ℕ) AsmFault → Result (List ℕ) AsmFault
with_line n Blank more = more
with_line n (Spells w) (Ok more) = Ok (w ∷ more)
with_line n (Spells w) (Err fault) = Err fault
with_line n Wrong more = Err (LineOf n)

-- the words that the lines from the n-th on spell, or the first line that neither is blank nor spells a word
abbrev pub words_from : ℕ → List (List ℕ) → Result (List ℕ) AsmFault
words_from n [] = Ok []
words_from n (line ∷ more) = with_line n (line_read line) (words_from (n + 1) more)

abbrev pub counted : Result (List ℕ) AsmFault → Result (List ℕ) AsmFault
counted (Err fault) = Err fault
counted (Ok words) = if length words == 0 then Err Empty else if nat_lt 4194304 (length words) then Err TooMany else Ok words

-- the words that a text spells, or its first fault
abbrev pub assembled : List ℕ → Result (List ℕ) AsmFault
assembled text = if nat_lt 134217728 (length text) then Err TooLarge else counted (words_from 1 (lines text))

-- what the lines of a text say
abbrev pub said : List ℕ → List Line
said text = map line_read (lines text)

-- the words that lines say, in their order
abbrev pub words_said : List Line → List ℕ
words_said [] = []
words_said (Blank ∷ more) = words_said more
words_said (Spells w ∷ more) = w ∷ words_said more
words_said (Wrong ∷ more) = words_said more

-- each of the first k lines is blank or spells a word
abbrev pub AreRight : List Line → ℕ → Type 0
AreRight ls k = (j : ℕ) → j < k → slice_get ls j ≡ Some Wrong → ⊥

abbrev pub AreAllRight : List Line → Type 0
AreAllRight ls = AreRight ls (length ls)

-- when a text has which answer
abbrev pub IsAnswer : List ℕ → Result (List ℕ) AsmFault → Type 0
IsAnswer text (Err TooLarge) = 134217728 < length text
IsAnswer text (Err (LineOf n)) = (length text ≤ 134217728) × (0 < n) × (slice_get (said text) (n - 1) ≡ Some Wrong) × AreRight (said text) (n - 1)
IsAnswer text (Err Empty) = (length text ≤ 134217728) × AreAllRight (said text) × (length (words_said (said text)) ≡ 0)
IsAnswer text (Err TooMany) = (length text ≤ 134217728) × AreAllRight (said text) × (4194304 < length (words_said (said text)))
IsAnswer text (Err NoMemory) = ⊥
IsAnswer text (Ok words) = (length text ≤ 134217728) × AreAllRight (said text) × (words ≡ words_said (said text)) × (0 < length words) × (length words ≤ 4194304)
