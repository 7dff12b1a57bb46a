-- What a column of pairs has of each.
use Rattle.std.specs.Prelude.{ℕ, List, map, Option}
use Rattle.grammar_file.specs.Grammar.{Grammar}
use Rattle.grammar_file.specs.declared.symbols.Symbol.TheVariants.{Terminal}
use Rattle.llp_tables.specs.Tables.{Entry}
use Rattle.pass_tables.specs.Tables.{closes_text, opens_text, pairs_in, productions_text, symbol_text}
use Rattle.pass_tables.specs.declared.pairs.Part.{Part}
use Rattle.pass_tables.specs.declared.pairs.Part.TheVariants.{Before, Next, Closes, Opens, Productions}

abbrev pub part_text : Part → Grammar → (ℕ → ℕ → Option Entry) → ℕ × ℕ → List ℕ
part_text Before g entry p = symbol_text g (Terminal p.0)
part_text Next g entry p = symbol_text g (Terminal p.1)
part_text Closes g entry p = closes_text g (entry p.0 p.1)
part_text Opens g entry p = opens_text g (entry p.0 p.1)
part_text Productions g entry p = productions_text (entry p.0 p.1)

-- this part of each pair of a word
abbrev pub part_texts : Part → Grammar → (ℕ → ℕ → Option Entry) → List ℕ → List (List ℕ)
part_texts part g entry word = map (part_text part g entry) (pairs_in word)
