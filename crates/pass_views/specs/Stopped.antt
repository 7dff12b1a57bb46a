-- Why a pass has no arrays of a source, and a source no tables and no page; and the arrays of a page as those of all passes.
use Rattle.std.specs.Prelude.{ℕ, List, false}
use Rattle.command_line.specs.declared.command.Pass.{Pass}
use Rattle.front_end.specs.declared.refusal.Refusal.{Refusal}
use Rattle.front_end.specs.declared.refusal.Refusal.TheVariants.{Diagnostic, Limit, NoMemory}
use Rattle.text_columns.specs.Columns.{Column}
use Rattle.verdict.specs.Verdict.{IsVerdict, Diagnosed, Limited}
use Rattle.pass_views.specs.Shown.{AllArrays, Arrays, IsPage, Shows}
use Rattle.pass_views.specs.declared.show.PageArrays.{PageArrays}

-- the refusal is what the compiler says of the source, and tells this of it, unless memory is out
abbrev pub Stops : Type 0 → List ℕ → Refusal → Type 0
Stops A text (Diagnostic code at) = IsVerdict false text (Diagnosed code at) × A
Stops A text (Limit code at bytes) = IsVerdict false text (Limited code at bytes) × A
Stops A text NoMemory = Unit {0}

-- the pass has no arrays of the source
abbrev pub AreNone : List ℕ → Pass → Refusal → Type 0
AreNone text pass = Stops ((columns : List Column) → ¬ Arrays text pass columns) text

-- the source doesn't reach the pass
abbrev pub IsUnshown : List ℕ → Pass → Refusal → Type 0
IsUnshown text pass = Stops ((table : List ℕ) → ¬ Shows text pass table) text

-- and it has no page
abbrev pub IsUnpaged : List ℕ → Refusal → Type 0
IsUnpaged text = Stops ((page : List ℕ) → ¬ IsPage text page) text

-- the arrays of all passes: those of states and of pairs, and those that the page has
abbrev pub arrays_of : List Column → List Column → PageArrays → AllArrays
arrays_of states pairs kept = record {
  of_states = states;
  of_tokens = kept.syntax.tokens.items;
  of_pairs = pairs;
  of_parse = kept.syntax.parse.items;
  of_rows = kept.syntax.rows.items;
  of_names = kept.meaning.names.items;
  of_types = kept.meaning.types.items;
  of_frames = kept.code.frames.items;
  of_places = kept.code.places.items;
  of_code = kept.code.code.items;
}
