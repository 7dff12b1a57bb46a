-- What is told of stretches, one behind the other.
use Rattle.std.proofs.Common.{◌≡◌, ℕ, ◌+◌, arith, List, ◌++◌, length, map, sym, ap, subst, ◌∙◌}
use Rattle.std.proofs.lemmas.List.{length-append, length-map}
use Rattle.source_meaning.specs.declared.kinds.Terminal.{Terminal}
use Rattle.par_lexer.specs.declared.pieces.Piece.{Piece}
use Rattle.par_lexer.specs.declared.columns.Columns.{Columns}
use Rattle.par_lexer.specs.PieceRows.{kind_of, first_fault, Awaits}
use Rattle.par_lexer.specs.Places.{told_behind}
use Rattle.par_lexer.specs.Stretches.{AreTokens}

-- columns of the same pieces
pub awaits_same : (kinds : List Terminal) (starts lengths : List ℕ) (whole rest : List Piece) → Awaits kinds starts lengths whole rest → (length starts ≡ length kinds) × (length lengths ≡ length kinds)
awaits_same kinds starts lengths whole rest a =
    let k = many (λ p. kind_of p.meaning) kinds a.kinds_so_far in
    let s = many (λ p. p.start) starts a.starts_so_far in
    let l = many (λ p. p.length) lengths a.lengths_so_far in
    (omega arith, omega arith)
  where
    many : {T : Type 0} (f : Piece → T) (xs : List T) → map f whole ≡ xs ++ map f rest → length whole ≡ length xs + length rest
    many f xs e =
        let all : length (map f whole) ≡ length (xs ++ map f rest) = ap length e in
        let both : length (xs ++ map f rest) ≡ length xs + length (map f rest) = length-append xs (map f rest) in
        omega (arith, all, both, length-map whole f, length-map rest f)

-- up to a place behind which the same is told
pub tokens_up_to : (text : List ℕ) (from place to : ℕ) (made : Columns) → told_behind text place ≡ told_behind text to → AreTokens text from place made → AreTokens text from to made
tokens_up_to text from place to made same are = record {
  columns = subst (Awaits made.kinds.items made.starts.items made.lengths.items (told_behind text from)) same are.columns;
  faultless = are.faultless ∙ ap first_fault same;
}

-- no tokens up to a place behind which the same is told
pub no_tokens : (text : List ℕ) (from place : ℕ) (made : Columns) → told_behind text place ≡ told_behind text from → ((ps : List Piece) → Awaits made.kinds.items made.starts.items made.lengths.items ps ps) → AreTokens text from place made
no_tokens text from place made same none = record {
  columns = subst (λ ps. Awaits made.kinds.items made.starts.items made.lengths.items ps (told_behind text place)) same (none (told_behind text place));
  faultless = ap first_fault (sym same);
}

-- the tokens of two stretches
pub tokens_more : (text : List ℕ) (from middle to : ℕ) (old more new : Columns)
    → ((whole middle rest : List Piece) → Awaits old.kinds.items old.starts.items old.lengths.items whole middle → Awaits more.kinds.items more.starts.items more.lengths.items middle rest
    → Awaits new.kinds.items new.starts.items new.lengths.items whole rest)
    → AreTokens text from middle old → AreTokens text middle to more → AreTokens text from to new
tokens_more text from middle to old more new appended a b = record {
  columns = appended (told_behind text from) (told_behind text middle) (told_behind text to) a.columns b.columns;
  faultless = a.faultless ∙ b.faultless;
}
