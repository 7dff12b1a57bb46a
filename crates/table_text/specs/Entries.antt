-- The lines of the entries of a grammar's tables, with symbols by their names.
use Rattle.std.specs.Prelude.{◌≡◌, ℕ, List, [], ◌∷◌, ◌++◌, map, flat_map, Bool, true, false, Option, Some, None, codes}
use Rattle.std.specs.List.{range_with_len}
use Rattle.grammar_file.specs.declared.symbols.Symbol.{Symbol}
use Rattle.grammar_file.specs.declared.symbols.Symbol.TheVariants.{Terminal}
use Rattle.grammar_file.specs.Grammar.{Grammar}
use Rattle.ll1_sets.specs.Width.{width_of}
use Rattle.llp_tables.specs.FaultLines.{text_of, stack_text}
use Rattle.llp_tables.specs.Tables.{Entry, AreTables}
use Rattle.llp_wide.specs.WideEntries.{AreWideTables}
use Rattle.table_text.specs.Lines.{line, spaced}

-- names, each behind a space
abbrev pub spaced_names : Grammar → List Symbol → List ℕ
spaced_names g symbols = flat_map (λ s. codes " " ++ text_of g s) symbols

-- what is closed and opened, the uppermost symbol first, and by which productions
abbrev pub entry_text : Grammar → Entry → List ℕ
entry_text g e = codes " closes" ++ spaced_names g e.closes ++ codes " opens" ++ spaced_names g e.opens ++ codes " productions" ++ spaced e.productions

-- the line of the entry where b comes next behind these terminals; there is none without an entry
abbrev pub entry_line : Grammar → List ℕ → ℕ → Option Entry → List ℕ
entry_line g behind b None = []
entry_line g behind b (Some e) = line (stack_text g (map Terminal behind) ++ spaced_names g (Terminal b ∷ []) ++ entry_text g e)

-- all terminals by their numbers, the two marks among them
abbrev pub terminals : Grammar → List ℕ
terminals g = range_with_len 0 (width_of g)

-- the lines of the entries behind these terminals
abbrev pub row_lines : Grammar → List ℕ → (ℕ → Option Entry) → List ℕ
row_lines g behind entry = flat_map (λ b. entry_line g behind b (entry b)) (terminals g)

-- of all pairs, and of all triples
abbrev pub pair_lines : Grammar → (ℕ → ℕ → Option Entry) → List ℕ
pair_lines g entry = flat_map (λ a. row_lines g (a ∷ []) (entry a)) (terminals g)

abbrev pub triple_lines : Grammar → (ℕ → ℕ → ℕ → Option Entry) → List ℕ
triple_lines g entry = flat_map (λ z. flat_map (λ a. row_lines g (z ∷ a ∷ []) (entry z a)) (terminals g)) (terminals g)

-- the lines of all entries, or none where none are asked for
pub data ListsEntries (g : Grammar) : Bool → List ℕ → Type 0 where
  unlisted : ListsEntries g false []
  pairs : (entry : ℕ → ℕ → Option Entry) → g.lookback ≡ 1 → AreTables g entry → ListsEntries g true (pair_lines g entry)
  triples : (entry : ℕ → ℕ → ℕ → Option Entry) → g.lookback ≡ 2 → AreWideTables g entry → ListsEntries g true (triple_lines g entry)
