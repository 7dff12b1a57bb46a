-- What is told of the whole text.
use Rattle.std.proofs.Common.{◌≡◌, ℕ, List, [], Some, None, length, ap, ◌∙◌, arith}
use Rattle.source_meaning.specs.Lexemes.{lexical_fault, tokens}
use Rattle.ast_rows.specs.TokenRows.{TokenRow, row_of, token_rows}
use Rattle.std.specs.Prelude.{map}
use Rattle.par_lexer.specs.declared.columns.Columns.{Columns}
use Rattle.par_lexer.specs.PieceRows.{first_fault, columns}
use Rattle.par_lexer.specs.Places.{told_behind}
use Rattle.par_lexer.specs.Stretches.{AreTokens}
use Rattle.par_lexer.proofs.Running.{Bytes}
use Rattle.par_lexer.proofs.Beginning.{behind_end, behind_first}
use Rattle.par_lexer.proofs.Firsts.{text_fault}
use Rattle.par_lexer.proofs.Keeping.{text_kept, all_there}

module _ (text : List ℕ) (bytes : Bytes text) where
  end : told_behind text (length text) ≡ []
  end = behind_end text bytes (length text) (omega arith)

  pub no_fault : (made : Columns) → AreTokens text 0 (length text) made → lexical_fault text ≡ None
  no_fault made are = text_fault text bytes ∙ (are.faultless ∙ ap first_fault end)

  pub all_tokens : (made : Columns) → AreTokens text 0 (length text) made → (t : List TokenRow) → t ≡ token_rows made.kinds.items made.starts.items made.lengths.items → t ≡ map row_of (tokens text)
  all_tokens made are t is =
      is
      ∙ (all_there made.kinds.items made.starts.items made.lengths.items (told_behind text 0) (told_behind text (length text)) are.columns end
      ∙ (ap columns (behind_first text bytes) ∙ text_kept text (no_fault made are)))

  pub told_fault : (code at : ℕ) → first_fault (told_behind text 0) ≡ Some (code, at) → lexical_fault text ≡ Some (code, at)
  told_fault code at is = text_fault text bytes ∙ is
