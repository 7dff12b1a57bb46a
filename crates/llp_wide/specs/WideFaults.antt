-- Why a grammar has no tables where two terminals are looked back at, and the line that is printed of it, with symbols by their names.
use Rattle.std.specs.Prelude.{ℕ, List, ◌++◌, codes, decimal}
use Rattle.grammar_file.specs.declared.symbols.Symbol.TheVariants.{Terminal, Nonterminal}
use Rattle.grammar_file.specs.Grammar.{Grammar}
use Rattle.llp_tables.specs.FaultLines.{text_of, stack_text}
use Rattle.ll1_sets.specs.Predict.{IsLl1, IsLeastLeftRecursive, IsNotLeftRecursive, IsLeastConflict}
use Rattle.ll1_sets.specs.declared.table.Ll1Fault.{Ll1Fault}
use Rattle.ll1_sets.specs.declared.table.Ll1Fault.TheVariants.{LeftRecursive as IsLeftRecursion, Conflict as IsConflict, NoMemory as IsNoMemory}
use Rattle.llp_wide.specs.Wide.{IsLeastWideConflict}
use Rattle.llp_wide.specs.declared.fault.WideFault.{WideFault}
use Rattle.llp_wide.specs.declared.fault.WideFault.TheVariants.{LeftRecursive, Ll1, Wide, NoMemory}

-- the fault of a grammar that isn't LL(1)
abbrev pub wide_fault_by : Ll1Fault → WideFault
wide_fault_by (IsLeftRecursion a) = LeftRecursive a
wide_fault_by (IsConflict k) = Ll1 k.nonterminal k.b k.p1 k.p2
wide_fault_by IsNoMemory = NoMemory

-- why a grammar has no tables: the first of these
abbrev pub IsWideFault : Grammar → WideFault → Type 0
IsWideFault g (LeftRecursive a) = IsLeastLeftRecursive g a
IsWideFault g (Ll1 a b p1 p2) = IsNotLeftRecursive g × IsLeastConflict g a b p1 p2
IsWideFault g (Wide z a b first second) = IsNotLeftRecursive g × IsLl1 g × IsLeastWideConflict g z a b first second
IsWideFault g NoMemory = ⊥

abbrev pub line_of_wide_fault : Grammar → WideFault → List ℕ
line_of_wide_fault g (LeftRecursive a) = codes "left recursive " ++ text_of g (Nonterminal a)
line_of_wide_fault g (Ll1 a b p1 p2) =
    codes "conflict " ++ text_of g (Nonterminal a) ++ codes " on " ++ text_of g (Terminal b) ++ codes ": productions " ++ decimal p1 ++ codes " " ++ decimal p2
line_of_wide_fault g (Wide z a b first second) =
    codes "conflict " ++ text_of g (Terminal z) ++ codes " " ++ text_of g (Terminal a) ++ codes " " ++ text_of g (Terminal b) ++ codes ": " ++ stack_text g first ++ codes " | " ++ stack_text g second
line_of_wide_fault g NoMemory = codes "out of memory"
