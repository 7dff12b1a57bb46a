-- What `explain` prints of a code: the texts are a constant of the code, and stand nowhere else.
use Rattle.std.specs.Prelude.{ℕ, ◌==◌, ◌&&◌, Bool, true, List, [], ◌∷◌, ◌++◌, map, find, Option, Some, None, codes, decimal, nat_lt, if◌then◌else◌}
use Rattle.std.specs.Option.{option_map_or}
use Rattle.std.specs.Borrow.{Bor}
use Rattle.diagnostic_texts.specs.declared.texts.TheConstants.{TEXTS}

-- what there is to say of a code: what it means, where its place is, a source that has it with the line and the column of its place there, or
-- what such a source has, and how to fix it
pub record Explained : Type 0 where
  pub code : ℕ
  pub meaning : List ℕ
  pub place : List ℕ
  pub example : List ℕ
  pub at : Option (ℕ × ℕ)
  pub mended : List ℕ

abbrev pub explained_by : ℕ → List ℕ → List ℕ → List ℕ → Option (ℕ × ℕ) → List ℕ → Explained
explained_by code meaning place example at mended =
    record { code = code; meaning = meaning; place = place; example = example; at = at; mended = mended }

-- what the constant says, row by row
unfoldable pub explanations : List Explained
explanations = map (λ row. explained_by row.0 row.1.now row.2.now row.3.now row.4 row.5.now) TEXTS.now

-- what a row says to the code, which reads it behind references
abbrev pub shown : ℕ × Bor (List ℕ) × Bor (List ℕ) × Bor (List ℕ) × Option (ℕ × ℕ) × Bor (List ℕ) → Explained
shown row = explained_by row.0 row.1.now row.2.now row.3.now row.4 row.5.now

-- the explanation of a code
abbrev pub explanation_of : ℕ → Option Explained
explanation_of code = find (λ e. e.code == code) explanations

-- the codes that have one, in their order
abbrev pub codes_explained : List ℕ
codes_explained = map (λ e. e.code) explanations

-- each is greater than the one before it
abbrev pub ascend : List ℕ → Bool
ascend [] = true
ascend (a ∷ []) = true
ascend (a ∷ b ∷ rest) = nat_lt a b && ascend (b ∷ rest)

abbrev pub has_three_digits : ℕ → Bool
has_three_digits code = nat_lt 99 code && nat_lt code 1000

-- what the line of a diagnostic begins with
abbrev pub kind : ℕ → List ℕ
kind code = if nat_lt code 600 then codes "error" else codes "limit"

-- lines, each behind four spaces, where it is known whether the bytes begin a line
abbrev pub indented : Bool → List ℕ → List ℕ
indented begins [] = []
indented begins (b ∷ bs) = (if begins then codes "    " else []) ++ b ∷ indented (b == 10) bs

-- what it means, and where its place is
abbrev pub heading : Explained → List ℕ
heading e =
    kind e.code ++ codes " " ++ decimal e.code ++ codes ": " ++ e.meaning ++ 10 ∷ codes "place: " ++ e.place ++ 10 ∷ 10 ∷ []

-- the line that a source is answered with
abbrev pub answer_line : ℕ → ℕ → ℕ → List ℕ
answer_line code line column =
    10 ∷ codes "The answer to this source is \"" ++ kind code ++ codes " " ++ decimal code ++ codes " at " ++ decimal line ++ codes ":" ++ decimal column
    ++ (codes "\"." ++ 10 ∷ [])

-- a source and the line that it is answered with, or what such a source has
abbrev pub example_at : Explained → Option (ℕ × ℕ) → List ℕ
example_at e None = e.example
example_at e (Some at) = indented true e.example ++ answer_line e.code at.0 at.1

abbrev pub example_text : Explained → List ℕ
example_text e = example_at e e.at

-- all that there is to say
abbrev pub text_of : Explained → List ℕ
text_of e = heading e ++ example_text e ++ 10 ∷ e.mended

-- the text of a code
abbrev pub explanation_text : ℕ → List ℕ
explanation_text code = option_map_or text_of (explanation_of code) []
