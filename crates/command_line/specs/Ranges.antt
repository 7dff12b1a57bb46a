-- The numbers of options and of values lie in their ranges.
use Rattle.std.specs.Prelude.{◌≡◌, ℕ, List, Some, codes}
use Rattle.clap.specs.Values.{IsUnsignedIn}
use Rattle.clap.specs.Walk.{Text, Row, first_of}

-- the option has a number from low to high
pub record HasNumber (name : Text) (low high : ℕ) (rows : List Row) : Type 0 where
  pub text : Text
  pub is_first : first_of name rows ≡ Some text
  pub in_range : IsUnsignedIn low high text

abbrev pub HasPlan : List Row → Type 0
HasPlan rows = HasNumber (codes "workers") 1 64 rows × HasNumber (codes "chunk") 1 65536 rows

abbrev pub HasSteps : List Row → Type 0
HasSteps rows = HasNumber (codes "steps") 0 1000000000 rows

abbrev pub HasCode : List Row → Type 0
HasCode rows = HasNumber (codes "code") 100 999 rows

abbrev pub HasText : List Row → Type 0
HasText rows = HasNumber (codes "seed") 0 4294967295 rows × HasNumber (codes "functions") 1 4096 rows

-- a subcommand and its options
pub data HasNumbers (rows : List Row) : Text → Type 0 where
  of_build : HasPlan rows → HasNumbers rows (codes "build")
  of_run : HasPlan rows → HasSteps rows → HasNumbers rows (codes "run")
  of_show : HasPlan rows → HasNumbers rows (codes "show")
  of_batch : HasPlan rows → HasNumbers rows (codes "batch")
  of_emu : HasSteps rows → HasNumbers rows (codes "emu")
  of_dump : HasNumbers rows (codes "dump")
  of_asm : HasNumbers rows (codes "asm")
  of_table : HasNumbers rows (codes "table")
  of_drill : HasText rows → HasPlan rows → HasNumbers rows (codes "drill")
  of_explain : HasCode rows → HasNumbers rows (codes "explain")
