-- The entries of tables with two tokens of look-back are the pieces that gluing asks for.
use Rattle.std.proofs.Common.{◌≡◌, ℕ, List, [], ◌∷◌, ◌++◌, Option, refl, ap, ◌∙◌, arith, subst}
use Rattle.grammar_file.specs.declared.symbols.Symbol.{Symbol}
use Rattle.grammar_file.specs.Grammar.{Grammar, begin_mark, end_mark, whole}
use Rattle.grammar_file.specs.Derivation.{FirstReaches}
use Rattle.grammar_file.specs.Laws.Drives.{first_of_drives, drives_of_first}
use Rattle.llp_tables.specs.Tables.{Entry}
use Rattle.glue_summary.specs.declared.behind.Behind.{Behind}
use Rattle.glue_summary.specs.Pieces.{ArePieces, IsStackBehind, IsClosedBehind, at_begin, behind_next, behind_all}
use Rattle.llp_wide.specs.Wide.{IsWideStackAfter, IsWideLookback, HasWideEntry, wide_whole}
use Rattle.llp_wide.specs.WideEntries.{WideTable, AreWideTables, AreWideTablesOf}
use Rattle.llp_wide.specs.WideParsing.{wide_end}

pub wide_end_is : (g : Grammar) (t : WideTable) → AreWideTablesOf g t → wide_end t ≡ end_mark g
wide_end_is g t a = let w = a.width_is in omega arith

-- tokens behind two others end with the last two of all
ending : (k : Behind) (x : List ℕ) → (y : List ℕ) × (k.before_last ∷ k.last ∷ x ≡ y ++ (behind_all k x).before_last ∷ (behind_all k x).last ∷ [])
ending k [] = ([], refl)
ending k (b ∷ x) = let e = ending (behind_next k b) x in (k.before_last ∷ e.0, ap (λ (l : List ℕ). k.before_last ∷ l) e.1)

module _ (g : Grammar) where
  -- with one begin mark more
  marked_twice : (ps x : List ℕ) (stack : List Symbol) → FirstReaches g (whole g) ps (begin_mark ∷ x) stack → FirstReaches g (wide_whole g) ps (begin_mark ∷ begin_mark ∷ x) stack
  marked_twice ps x stack h =
      first_of_drives g (begin_mark ∷ begin_mark ∷ x) ps (wide_whole g) stack ([], ps, whole g, refl, refl, drives_of_first g (begin_mark ∷ x) ps (whole g) stack h)

  wide_stack : (k : Behind) (stack : List Symbol) → IsStackBehind g k stack → IsWideStackAfter g k.before_last k.last stack
  wide_stack k stack h =
      let e = ending at_begin h.1 in
      let is : begin_mark ∷ begin_mark ∷ h.1 ≡ e.0 ++ k.before_last ∷ k.last ∷ [] = e.1 ∙ ap (λ (m : Behind). e.0 ++ m.before_last ∷ m.last ∷ []) h.3 in
      (h.0, e.0, subst (λ (x : List ℕ). FirstReaches g (wide_whole g) h.0 x stack) is (marked_twice h.0 h.1 stack h.2))

  pub wide_closed : (k : Behind) (b : ℕ) (beta : List Symbol) → IsClosedBehind g k b beta → IsWideLookback g k.before_last k.last b beta
  wide_closed k b beta h = (h.0, wide_stack k (beta ++ h.0) h.1, h.2)

  pub wide_pieces : (entry : ℕ → ℕ → ℕ → Option Entry) → AreWideTables g entry → ArePieces g entry
  wide_pieces entry tables =
      record {
        ll1 = tables.ll1;
        closes = λ k b e h beta m. (subst (HasWideEntry g k.before_last k.last b) h (tables.entries k.before_last k.last b)).only beta (wide_closed k b beta m);
        opens = λ k b e h. (subst (HasWideEntry g k.before_last k.last b) h (tables.entries k.before_last k.last b)).piece;
        none = λ k b h beta m. subst (HasWideEntry g k.before_last k.last b) h (tables.entries k.before_last k.last b) beta (wide_closed k b beta m);
      }
