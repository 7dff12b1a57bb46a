-- Two tokens of look-back: by pieces that are a grammar's, the pairs of a word make its parse.
use Rattle.std.proofs.Common.{◌≡◌, ℕ, List, [], ◌∷◌, ◌++◌, take, Option, Some, Ok, flat_map, refl, sym, ap, ◌∙◌, subst}
use Rattle.grammar_file.specs.declared.symbols.Symbol.{Symbol}
use Rattle.grammar_file.specs.Grammar.{Grammar, begin_mark, end_mark, whole, IsWellFormed}
use Rattle.grammar_file.specs.Drive.{Drives, Reads, first_stack}
use Rattle.grammar_file.specs.Spelling.{IsReduced}
use Rattle.grammar_file.specs.SyntaxPlace.{IsSyntaxPlace, ended}
use Rattle.grammar_file.specs.Laws.Drives.{drives_on, drives_of_first, first_of_drives}
use Rattle.llp_tables.specs.Lookback.{IsStackAfter, IsLookback}
use Rattle.llp_tables.specs.Tables.{Entry, HasEntry, AreTables}
use Rattle.glue_summary.specs.declared.behind.Behind.{Behind}
use Rattle.glue_summary.specs.declared.fault.ParseFault.TheVariants.{Syntax}
use Rattle.glue_summary.specs.Glue.{IsStack, pairs, productions_of, stack_along}
use Rattle.glue_summary.specs.Parse.{IsParse}
use Rattle.glue_summary.specs.Pieces.{Pieces, ArePieces, IsStackBehind, IsClosedBehind, at_begin, behind_next, piece_behind}
use Rattle.glue_summary.specs.Stretch.{IsGlued, IsGlueFault, last_of}
use Rattle.glue_summary.proofs.Chunks.{behind_last}
use Rattle.glue_summary.proofs.Lookbacks.{drives_one}
use Rattle.glue_summary.proofs.PairLists.{behind_more}
use Rattle.glue_summary.proofs.Tokens.{AreStacks, AreEntries, drives_of_take, parse_ok, parse_err}

module _ (g : Grammar) where
  -- the stack of the start, and the stack behind one token more
  start_behind : IsStackBehind g at_begin (first_stack g)
  start_behind = ([], [], first_of_drives g (begin_mark ∷ []) [] (whole g) (first_stack g) (drives_one g begin_mark [] (whole g) (first_stack g) refl), refl)

  behind_read : (k : Behind) (b : ℕ) (ps : List ℕ) (stack v : List Symbol) → IsStackBehind g k stack → Reads g b ps stack v → IsStackBehind g (behind_next k b) v
  behind_read k b ps stack v h reads =
      let x : List ℕ = begin_mark ∷ h.1 in
      let d : Drives g x h.0 (whole g) stack = drives_of_first g x h.0 (whole g) stack h.2 in (
        h.0 ++ ps,
        h.1 ++ b ∷ [],
        first_of_drives g (x ++ b ∷ []) (h.0 ++ ps) (whole g) v (drives_on g x (b ∷ []) h.0 ps (whole g) stack v d (drives_one g b ps stack v reads)),
        behind_more at_begin h.1 (b ∷ []) ∙ ap (λ m. behind_next m b) h.3,
      )

  module _ (piece : Pieces) where
    are_stacks : AreStacks g behind_next (IsStackBehind g) (piece_behind piece)
    are_stacks = record { read = λ k b ps stack v h r. behind_read k b ps stack v h r; reached = λ k stack h. (h.0, begin_mark ∷ h.1, h.2.reaches) }

    module _ (right : ArePieces g piece) where
      are_entries : AreEntries g behind_next (IsStackBehind g) (piece_behind piece)
      are_entries = record { piece = right.opens; only = right.closes; none = right.none }

      -- the invariant: the open brackets are the stack of the leftmost derivation
      pub stack_of_along : (word : List ℕ) (i : ℕ) (stack : List Symbol) → stack_along (take i (pairs g piece word)) (first_stack g) ≡ Some stack → IsStack g piece word i stack
      stack_of_along word i stack h =
          let ps = flat_map productions_of (take i (pairs g piece word)) in
          let d = drives_of_take g behind_next (IsStackBehind g) (piece_behind piece) are_entries at_begin (ended g word) i (first_stack g) stack h in
          record { open_brackets = h; of_derivation = first_of_drives g (begin_mark ∷ take i (ended g word)) ps (whole g) stack ([], ps, first_stack g, refl, refl, d) }

      pub pieces_parse : IsWellFormed g → (word ps : List ℕ) → IsGlued piece (end_mark g) (ended g word) ps → IsParse g word (Ok ps)
      pieces_parse wf word ps is =
          subst (λ l. IsParse g word (Ok l)) (sym is.productions)
          (parse_ok g behind_next (IsStackBehind g) (piece_behind piece) are_entries at_begin right.ll1 wf word is.met.0 is.met.1)

      pub pieces_fault : IsWellFormed g → IsReduced g → (word : List ℕ) (at : ℕ) → IsGlueFault piece (end_mark g) (ended g word) (Syntax at) → IsSyntaxPlace g word at
      pieces_fault wf reduced word at f =
          parse_err g behind_next (IsStackBehind g) (piece_behind piece) are_entries at_begin are_stacks start_behind right.ll1 wf reduced.0 word at f.before.0 f.before.1 f.fails

  -- ---- tables with one token of look-back

  -- a word that is not empty ends with its last token
  ending : (a : ℕ) (x : List ℕ) → (y : List ℕ) × (a ∷ x ≡ y ++ last_of a x ∷ [])
  ending a [] = ([], refl)
  ending a (b ∷ x) = let e = ending b x in (a ∷ e.0, ap (λ (l : List ℕ). a ∷ l) e.1)

  last_stack : (k : Behind) (stack : List Symbol) → IsStackBehind g k stack → IsStackAfter g k.last stack
  last_stack k stack h =
      let e = ending begin_mark h.1 in
      let last : last_of begin_mark h.1 ≡ k.last = sym (behind_last at_begin h.1) ∙ ap (λ (m : Behind). m.last) h.3 in
      (h.0, e.0, subst (λ (x : List ℕ). Rattle.grammar_file.specs.Derivation.FirstReaches g (whole g) h.0 x stack) (e.1 ∙ ap (λ (b : ℕ). e.0 ++ b ∷ []) last) h.2)

  last_closed : (k : Behind) (b : ℕ) (beta : List Symbol) → IsClosedBehind g k b beta → IsLookback g k.last b beta
  last_closed k b beta h = (h.0, last_stack k (beta ++ h.0) h.1, h.2)

  pub table_pieces : (entry : ℕ → ℕ → Option Entry) → AreTables g entry → ArePieces g (λ z a b. entry a b)
  table_pieces entry tables =
      record {
        ll1 = tables.ll1;
        closes = λ k b e h beta m. (subst (HasEntry g k.last b) h (tables.entries k.last b)).only beta (last_closed k b beta m);
        opens = λ k b e h. (subst (HasEntry g k.last b) h (tables.entries k.last b)).piece;
        none = λ k b h beta m. subst (HasEntry g k.last b) h (tables.entries k.last b) beta (last_closed k b beta m);
      }
