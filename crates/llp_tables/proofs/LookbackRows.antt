-- The sets of all pairs from the cells of all terminals.
use Rattle.std.proofs.Common.{◌≡◌, ℕ, ◌*◌, ◌<◌, List, [], length, get_or, Option, Some, None, refl, sym, ap, ◌∙◌, subst, arith}
use Rattle.std.proofs.lemmas.Option.{slice_get-get_or}
use Rattle.grammar_file.specs.declared.symbols.Symbol.{Symbol}
use Rattle.grammar_file.specs.declared.symbols.Symbol.TheVariants.{Terminal}
use Rattle.grammar_file.specs.Grammar.{Grammar, IsWellFormed}
use Rattle.ll1_sets.specs.Predict.{IsLl1}
use Rattle.ll1_sets.specs.Width.{width_of}
use Rattle.llp_tables.specs.CellSlots.{cell_of}
use Rattle.llp_tables.specs.Lookback.{IsLlp}
use Rattle.llp_tables.specs.Lookbacks.{cells_in, TellsLookback, TellLookbacks}
use Rattle.llp_tables.specs.LookbackTable.{HasLookback, AreLookbacksOf, AreMembers}
use Rattle.llp_tables.specs.Slots.{Slots, Empty, One, Two}
use Rattle.llp_tables.specs.declared.cells.Members.{Members}
use Rattle.llp_tables.specs.Laws.LookbackBounds.{lookback_in_range}
use Rattle.llp_tables.proofs.FilledTables.{filled_table}

-- a cell tells the member
pub told_member : (g : Grammar) (a b : ℕ) (c : Slots) (x : List Symbol) → c ≡ One x → TellsLookback g a b c → HasLookback g a b (Some x)
told_member g a b c x e t = subst (TellsLookback g a b) e t

pub told_none : (g : Grammar) (a b : ℕ) (c : Slots) → ((x : List Symbol) → c ≡ One x → ⊥) → TellsLookback g a b c → HasLookback g a b None
told_none g a b Empty other t = t
told_none g a b (One x) other t = absurd (other x refl)
told_none g a b (Two x y) other t = absurd t

-- the cells of one terminal that comes next
pub tells_at : (g : Grammar) (all : List Members) (b : ℕ) (m : Members) → TellLookbacks g all → b < length all → m ≡ get_or all b m → (a : ℕ) → TellsLookback g a b (cell_of m (Terminal a))
tells_at g all b m h l is a = subst (λ (o : Option Members). TellsLookback g a b (cells_in o (Terminal a))) (slice_get-get_or all b m l ∙ ap Some (sym is)) (h a b)

pub no_members : (g : Grammar) → AreMembers g []
no_members g a b l m = absurd (omega arith)

pub lookbacks_of_rows : (g : Grammar) → IsWellFormed g → IsLl1 g → IsLlp g → (members : List (Option (List Symbol))) → length members ≡ width_of g * width_of g → AreMembers g members
    → AreLookbacksOf g (record { width = width_of g; members = members })
lookbacks_of_rows g well ll1 llp members len h = record {
  width_is = refl;
  size_is = len;
  ll1 = ll1;
  llp = llp;
  lookbacks = filled_table (width_of g) (HasLookback g) members len h (λ a b out beta k. out (lookback_in_range g well a b beta k));
}
