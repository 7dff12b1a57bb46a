-- The lines of a table, by what they show of a column.
use Rattle.std.specs.Prelude.{◌≡◌, ℕ, ◌-◌, List, [], ◌++◌, length, map}
use Rattle.text_columns.specs.declared.column.Align.{Align}
use Rattle.text_columns.specs.declared.column.Align.TheVariants.{Left, Right}
use Rattle.text_columns.specs.declared.column.Line.{Line}
use Rattle.text_columns.specs.declared.column.Line.TheVariants.{Heading, Row}
use Rattle.text_columns.specs.Columns.{Column, cell_at, line_of, padded, spaces, width}

abbrev pub text_in : Line → Column → List ℕ
text_in Heading c = c.title
text_in (Row k) c = cell_at c k

abbrev pub padded_in : Line → Column → List ℕ
padded_in line c = padded c.align (width c) (text_in line c)

abbrev pub line_text : Line → List Column → List ℕ
line_text line columns = line_of (map (padded_in line) columns)

-- of this many spaces that a text lacks, those before it, and how many come behind it
abbrev pub before : Align → ℕ → List ℕ
before Left lacking = []
before Right lacking = spaces lacking

abbrev pub behind : Align → ℕ → ℕ
behind Left lacking = lacking
behind Right lacking = 0

-- a padded text but for the spaces behind it, and how many these are
abbrev pub written_in : Line → Column → List ℕ
written_in line c = before c.align (width c - length (text_in line c)) ++ text_in line c

abbrev pub lacking_in : Line → Column → ℕ
lacking_in line c = behind c.align (width c - length (text_in line c))

-- a text is written behind another one, but for spaces at its end
pub record HasWritten (old new text : List ℕ) : Type 0 where
  pub part : List ℕ
  pub lacking : ℕ
  pub put : new ≡ old ++ part
  pub all : part ++ spaces lacking ≡ text
