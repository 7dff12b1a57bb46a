-- Texts that are put behind each other.
use Rattle.std.proofs.Common.{◌≡◌, ℕ, zero, suc, ◌+◌, ◌-◌, ◌<◌, ◌≤◌, Bool, false, List, [], ◌∷◌, ◌++◌, length, take, refl, ap, sym, ◌∙◌, arith, append_assoc, length-append}
use Rattle.std.proofs.lemmas.List.{append-nil, reverse-append, take-append-le}
use Rattle.std.proofs.lemmas.List.Sums.{suffix_len-le-length}
use Rattle.std.specs.Prelude.{if◌then◌else◌}
use Rattle.text_columns.specs.declared.column.Align.{Align}
use Rattle.text_columns.specs.declared.column.Align.TheVariants.{Left, Right}
use Rattle.text_columns.specs.declared.column.Line.{Line}
use Rattle.text_columns.specs.Columns.{Column, is_space, padded, spaced, spaces, trimmed, width}
use Rattle.text_columns.specs.Lines.{before, behind, lacking_in, padded_in, text_in, written_in}
use Rattle.std.specs.List.{flat_map, range_with_len, prefix_len, suffix_len}

-- what f gives of numbers, one after the other
pub one_more : (f : ℕ → List ℕ) (out : List ℕ) (k n : ℕ) → k < n
    → (out ++ f k) ++ flat_map f (range_with_len (k + 1) (n - (k + 1))) ≡ out ++ flat_map f (range_with_len k (n - k))
one_more f out k n h =
    let count : suc (n - (k + 1)) ≡ n - k = omega arith in
    append_assoc out (f k) (flat_map f (range_with_len (k + 1) (n - (k + 1)))) ∙ ap (λ (m : ℕ). out ++ flat_map f (range_with_len k m)) count

-- what is written of a padded text, and the spaces that it lacks
aligned : (align : Align) (wide : ℕ) (text : List ℕ) → (before align (wide - length text) ++ text) ++ spaces (behind align (wide - length text)) ≡ padded align wide text
aligned Left wide text = refl
aligned Right wide text = append-nil (spaces (wide - length text) ++ text)

-- what stands before a part of a line
abbrev pub gap : Bool → List ℕ
gap begins = if begins then [] else spaces 2

-- one part more
pub part_more : (begins : Bool) (front : List ℕ) (line : Line) (c : Column) (rest : List (List ℕ))
    → (((front ++ gap begins) ++ written_in line c) ++ spaces (lacking_in line c)) ++ spaced false rest ≡ front ++ spaced begins (padded_in line c ∷ rest)
part_more begins front line c rest =
    ap (λ (x : List ℕ). x ++ spaced false rest) (append_assoc (front ++ gap begins) (written_in line c) (spaces (lacking_in line c)) ∙ ap (λ (x : List ℕ). (front ++ gap begins) ++ x) (aligned c.align (width c) (text_in line c)))
    ∙ append_assoc (front ++ gap begins) (padded_in line c) (spaced false rest)
    ∙ append_assoc front (gap begins) (padded_in line c ++ spaced false rest)
    ∙ ap (λ (x : List ℕ). front ++ x) (sym (append_assoc (gap begins) (padded_in line c) (spaced false rest)))

-- a line is trimmed of spaces behind it
one_space : (line : List ℕ) → trimmed (line ++ 32 ∷ []) ≡ trimmed line
one_space line =
    let last : suffix_len is_space (line ++ 32 ∷ []) ≡ 1 + suffix_len is_space line = ap (prefix_len is_space) (reverse-append line (32 ∷ [])) in
    let few : suffix_len is_space line ≤ length line = suffix_len-le-length is_space line in
    let count : length (line ++ 32 ∷ []) - suffix_len is_space (line ++ 32 ∷ []) ≡ length line - suffix_len is_space line = omega (arith, last, few, length-append line (32 ∷ [])) in
    ap (λ (n : ℕ). take n (line ++ 32 ∷ [])) count ∙ take-append-le (length line - suffix_len is_space line) line (32 ∷ []) (omega arith)

pub trimmed_of_spaces : (line : List ℕ) (n : ℕ) → trimmed (line ++ spaces n) ≡ trimmed line
trimmed_of_spaces line zero = ap (λ (x : List ℕ). trimmed x) (append-nil line)
trimmed_of_spaces line (suc n) = ap (λ (x : List ℕ). trimmed x) (sym (append_assoc line (32 ∷ []) (spaces n))) ∙ trimmed_of_spaces (line ++ 32 ∷ []) n ∙ one_space line
