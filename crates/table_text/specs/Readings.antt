-- The productions of the pieces of a word, which are made one after the other.
use Rattle.std.specs.Prelude.{◌≡◌, ℕ, List, [], ◌∷◌, ◌++◌, Option, Some, None}
use Rattle.grammar_file.specs.declared.symbols.Symbol.{Symbol}
use Rattle.grammar_file.specs.Grammar.{Grammar}
use Rattle.llp_tables.specs.Lookback.{IsPiece}
use Rattle.glue_summary.specs.declared.behind.Behind.{Behind}
use Rattle.glue_summary.specs.Pieces.{behind_next}
use Rattle.table_text.specs.Members.{Members, member_behind}

-- the productions of a piece for b that closes these symbols, if any are closed
abbrev pub IsWritten : Grammar → ℕ → Option (List Symbol) → List ℕ → Type 0
IsWritten g b None ps = ps ≡ []
IsWritten g b (Some closes) ps = (opens : List Symbol) × IsPiece g b closes opens ps

-- those of all tokens behind two others
abbrev pub AreWritten : Grammar → Members → Behind → List ℕ → List ℕ → Type 0
AreWritten g member k [] ps = ps ≡ []
AreWritten g member k (b ∷ tokens) ps = (qs rs : List ℕ) × (ps ≡ qs ++ rs) × IsWritten g b (member_behind member k b) qs × AreWritten g member (behind_next k b) tokens rs

-- they come behind those that are there
abbrev pub AddsWritten : Grammar → ℕ → Option (List Symbol) → List ℕ → List ℕ → Type 0
AddsWritten g b closes before after = (ps : List ℕ) × (after ≡ before ++ ps) × IsWritten g b closes ps
