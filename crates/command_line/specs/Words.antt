-- The program's command line, as a command of `clap`, and what its words ask for.
use Rattle.std.specs.Prelude.{◌≡◌, ℕ, Bool, true, false, List, [], ◌∷◌, Option, Some, None, option_and_then, option_map, is_some, codes, unwrap_or, bytes_eq, if◌then◌else◌}
use Rattle.std.specs.Option.{option_map_or}
use Rattle.std.specs.Str.Parse.{digits_value, without_leading_plus}
use Rattle.clap.specs.Walk.{Text, Rule, Row, first_of, one_of, is_empty}
use Rattle.clap.specs.Simple.{Shape, App, new_shape, new_rule, subcommand_of, with_subcommand}
use Rattle.clap.specs.Faults.{fault_of}
use Rattle.clap.specs.declared.builder.action.ArgAction.TheVariants.{Set, SetTrue}
use Rattle.clap.specs.declared.builder.value_parser.ValueParser.{ValueParser}
use Rattle.clap.specs.declared.builder.value_parser.ValueParser.TheVariants as parsers
use Rattle.command_line.specs.declared.command.Command.{Command}
use Rattle.command_line.specs.declared.command.Command.TheVariants.{Build, Run, Show, Page, Batch, Emu, Dump, Asm, Table, Drill, Explain}
use Rattle.command_line.specs.declared.command.Pass.{Pass}
use Rattle.command_line.specs.declared.command.Pass.TheVariants.{States, Tokens, Pairs, Parse, Rows, Names, Types, Frames, Places, Code, All}
use Rattle.diagnostic_texts.specs.Explained.{explanation_of}

-- ---- the command

-- a value that stands by itself
abbrev pub plain_value : Text → ValueParser → Rule
plain_value name values = record (new_rule name) {
  action = Some Set;
  value_names = 1;
  parser = Some values;
}

-- an option `--name N` with a value
abbrev pub value_option : Text → ValueParser → Rule
value_option name values = record (plain_value name values) { long = Some name }

abbrev pub with_default : Rule → Text → Rule
with_default option default = record option { defaults = default ∷ [] }

abbrev pub required : Rule → Rule
required option = record option { required = true }

-- a flag `--name`: given or not, with no value
abbrev pub flag_option : Text → Rule
flag_option name = record (new_rule name) { long = Some name; action = Some SetTrue }

abbrev pub workers_option : Rule
workers_option = with_default (value_option (codes "workers") (parsers.Unsigned 1 64)) (codes "4")

abbrev pub chunk_option : Rule
chunk_option = with_default (value_option (codes "chunk") (parsers.Unsigned 1 65536)) (codes "1024")

abbrev pub steps_option : Rule
steps_option = with_default (value_option (codes "steps") (parsers.Unsigned 0 1000000000)) (codes "1000000")

abbrev pub fold_option : Rule
fold_option = flag_option (codes "fold")

abbrev pub seed_option : Rule
seed_option = required (value_option (codes "seed") (parsers.Unsigned 0 4294967295))

abbrev pub functions_option : Rule
functions_option = required (value_option (codes "functions") (parsers.Unsigned 1 4096))

-- any text is a word
abbrev pub word_option : Rule
word_option = value_option (codes "word") parsers.String

abbrev pub entries_option : Rule
entries_option = flag_option (codes "entries")

-- any text is taken, and is asked afterwards whether it names a pass
abbrev pub pass_option : Rule
pass_option = value_option (codes "pass") parsers.String

abbrev pub html_option : Rule
html_option = flag_option (codes "html")

-- a code is three digits
abbrev pub code_value : Rule
code_value = required (plain_value (codes "code") (parsers.Unsigned 100 999))

abbrev pub subcommand : Text → List Rule → Shape
subcommand name options = record (new_shape name) { rules = options }

abbrev pub build_shape : Shape
build_shape = subcommand (codes "build") (workers_option ∷ chunk_option ∷ fold_option ∷ [])

abbrev pub run_shape : Shape
run_shape = subcommand (codes "run") (workers_option ∷ chunk_option ∷ steps_option ∷ fold_option ∷ [])

abbrev pub batch_shape : Shape
batch_shape = subcommand (codes "batch") (workers_option ∷ chunk_option ∷ [])

abbrev pub emu_shape : Shape
emu_shape = subcommand (codes "emu") (steps_option ∷ [])

abbrev pub dump_shape : Shape
dump_shape = subcommand (codes "dump") []

abbrev pub asm_shape : Shape
asm_shape = subcommand (codes "asm") []

abbrev pub table_shape : Shape
table_shape = subcommand (codes "table") (word_option ∷ entries_option ∷ [])

abbrev pub drill_shape : Shape
drill_shape = subcommand (codes "drill") (seed_option ∷ functions_option ∷ workers_option ∷ chunk_option ∷ [])

abbrev pub explain_shape : Shape
explain_shape = subcommand (codes "explain") (code_value ∷ [])

abbrev pub show_shape : Shape
show_shape = subcommand (codes "show") (pass_option ∷ html_option ∷ workers_option ∷ chunk_option ∷ [])

-- `pareas` before it has subcommands, of which one is required
abbrev pub bare_app : App
bare_app = record {
  top = record (new_shape (codes "pareas")) { subcommand_required = true; has_version = true };
  subs = [];
}

-- `pareas`
abbrev pub app : App
app = record {
  top = record bare_app.top { is_leaf = false };
  subs = build_shape ∷ run_shape ∷ batch_shape ∷ emu_shape ∷ dump_shape ∷ asm_shape ∷ table_shape ∷ drill_shape ∷ explain_shape ∷ show_shape ∷ [];
}

-- ---- what words ask for

-- the number of an option
abbrev pub number_at : Text → List Row → ℕ
number_at name rows = digits_value 10 (without_leading_plus (unwrap_or (first_of name rows) []))

-- whether a flag was given: `true` is its value then, and `false` by default
abbrev pub flag_at : Text → List Row → Bool
flag_at name rows = option_map_or (λ text. bytes_eq text (codes "true")) (one_of name rows) false

-- the pass that a word names
abbrev pub pass_named : Text → Option Pass
pass_named word =
    if bytes_eq word (codes "states") then Some States
    else if bytes_eq word (codes "tokens") then Some Tokens
    else if bytes_eq word (codes "pairs") then Some Pairs
    else if bytes_eq word (codes "parse") then Some Parse
    else if bytes_eq word (codes "rows") then Some Rows
    else if bytes_eq word (codes "names") then Some Names
    else if bytes_eq word (codes "types") then Some Types
    else if bytes_eq word (codes "frames") then Some Frames
    else if bytes_eq word (codes "places") then Some Places
    else if bytes_eq word (codes "code") then Some Code
    else if bytes_eq word (codes "all") then Some All
    else None

-- what is to be shown: the page, or the pass that a word names; nothing where both are asked for, or neither
abbrev pub view_of : Bool → Option Text → Option Command
view_of true None = Some Page
view_of true (Some word) = None
view_of false word = option_map (λ pass. Show pass) (option_and_then pass_named word)

-- the same by the options
abbrev pub view_at : List Row → Option Command
view_at rows = view_of (flag_at (codes "html") rows) (first_of (codes "pass") rows)

-- a command, and how its work is shared out
pub record Asked : Type 0 where
  pub command : Command
  pub workers : ℕ
  pub chunk : ℕ

abbrev pub shared_out : Command → List Row → Asked
shared_out command rows =
    record { command = command; workers = number_at (codes "workers") rows; chunk = number_at (codes "chunk") rows }

-- what a subcommand asks for with its options, unless it is to show neither the page nor a pass, or both; `emu`, `dump`, `asm`, `table` and `explain` have no options for sharing
abbrev pub asked_by : Text → List Row → Option Asked
asked_by name rows =
    if bytes_eq name (codes "build") then Some (shared_out (Build (flag_at (codes "fold") rows)) rows)
    else if bytes_eq name (codes "run") then Some (shared_out (Run (number_at (codes "steps") rows) (flag_at (codes "fold") rows)) rows)
    else if bytes_eq name (codes "show") then option_map (λ view. shared_out view rows) (view_at rows)
    else if bytes_eq name (codes "batch") then Some (shared_out Batch rows)
    else if bytes_eq name (codes "emu") then Some (record { command = Emu (number_at (codes "steps") rows); workers = 1; chunk = 1 })
    else if bytes_eq name (codes "dump") then Some (record { command = Dump; workers = 1; chunk = 1 })
    else if bytes_eq name (codes "asm") then Some (record { command = Asm; workers = 1; chunk = 1 })
    else if bytes_eq name (codes "drill") then Some (shared_out (Drill (number_at (codes "seed") rows) (number_at (codes "functions") rows)) rows)
    else if bytes_eq name (codes "explain") then Some (record { command = Explain (number_at (codes "code") rows); workers = 1; chunk = 1 })
    else Some (record { command = Table (first_of (codes "word") rows) (flag_at (codes "entries") rows); workers = 1; chunk = 1 })

-- the code that is to be explained, where no diagnostic has it
abbrev pub unknown_code : Command → Option ℕ
unknown_code (Explain code) = if is_some (explanation_of code) then None else Some code
unknown_code command = None

-- what is asked for, unless it is to explain what isn't known
abbrev pub known : Asked → Option Asked
known a = if is_some (unknown_code a.command) then None else Some a

-- what words ask for, of which the first is the program's name; none exactly where clap finds a fault in them, a code isn't known, or neither the page nor a pass is to be shown, or both
abbrev pub asked : List Text → Option Asked
asked words = if is_empty (fault_of app words) then option_and_then (λ s. option_and_then known (asked_by s.0 s.1)) (subcommand_of app words) else None

-- the words are to explain a code that no diagnostic has
pub record IsNoCode (words : List Text) : Type 0 where
  pub options : List Row
  pub explains : subcommand_of app words ≡ Some (codes "explain", options)
  pub is_none : explanation_of (number_at (codes "code") options) ≡ None

-- or to show neither the page nor a pass, or both
pub record IsNoView (words : List Text) : Type 0 where
  pub options : List Row
  pub shows : subcommand_of app words ≡ Some (codes "show", options)
  pub is_none : view_at options ≡ None

-- their command alone: what is due depends on nothing else in them
abbrev pub command_of : List Text → Option Command
command_of words = option_map (λ a. a.command) (asked words)
