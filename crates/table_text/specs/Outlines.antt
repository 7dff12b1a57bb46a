-- Pieces in outline: what they close and open, without their productions.
use Rattle.std.specs.Prelude.{◌≡◌, ℕ, List, [], Option, Some, None}
use Rattle.grammar_file.specs.declared.symbols.Symbol.{Symbol}
use Rattle.grammar_file.specs.Grammar.{Grammar, end_mark}
use Rattle.ll1_sets.specs.Table.{IsLl1Table}
use Rattle.llp_tables.specs.Tables.{Entry}
use Rattle.glue_summary.specs.Pieces.{Pieces}
use Rattle.table_text.specs.Ahead.{AreAheads, opens_at}
use Rattle.table_text.specs.ByLookback.{AreSetsOf}
use Rattle.table_text.specs.Members.{AreMembers, members_of}
use Rattle.table_text.specs.declared.outlines.Outlines.{Outlines}

abbrev pub outline_by : (List Symbol → List Symbol) → Option (List Symbol) → Option Entry
outline_by opens None = None
outline_by opens (Some closes) = Some (record { closes = closes; opens = opens closes; productions = [] })

abbrev pub outlines_of : Outlines → Pieces
outlines_of o = λ z a b. outline_by (opens_at o.aheads.items b) (members_of o.sets z a b)

abbrev pub outline_end : Outlines → ℕ
outline_end o = o.end

-- those of a grammar
pub record AreOutlines (g : Grammar) (o : Outlines) : Type 0 where
  pub sets : AreSetsOf g o.sets
  pub members : AreMembers g (members_of o.sets)
  pub table : IsLl1Table g o.table
  pub aheads : AreAheads g o.aheads.items
  pub end_is : o.end ≡ end_mark g
