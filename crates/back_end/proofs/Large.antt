-- The first frame that is too large, and frames where there is none.
use Rattle.std.proofs.Common.{◌≡◌, ℕ, zero, suc, ◌<◌, ◌≤◌, Bool, true, false, List, [], ◌∷◌, length, Option, Some, None, nat_lt, if◌then◌else◌, refl, ap, ◌∙◌, arith}
use Rattle.std.specs.Prelude.{option_map}
use Rattle.std.specs.List.{find}
use Rattle.std.proofs.lemmas.Bool.Decides.{nat_tests}
use Rattle.limits.specs.Limits.{most_frame}
use Rattle.source_meaning.specs.Ast.{Function, Program}
use Rattle.source_meaning.specs.Frames.{frame}
use Rattle.source_meaning.specs.Grammar.{Tree, Prog, ast}
use Rattle.source_meaning.specs.Lexemes.{tokens}
use Rattle.code_rules.specs.RowTables.{frame_in}
use Rattle.rv_emit.specs.Compilable.{IsCompilable}
use Rattle.verdict.specs.Verdict.{folded_if}
use Rattle.back_end.specs.Coded.{IsClean, IsFramed}
use Rattle.back_end.specs.declared.coding.Framed.{Framed}

abbrev large : Function → Bool
large f = nat_lt most_frame (frame f).bytes

abbrev told : Function → ℕ × ℕ
told f = (f.at, (frame f).bytes)

pub one_found : (o : Option Function) (at bytes : ℕ) → option_map told o ≡ Some (at, bytes) → (f : Function) × (o ≡ Some f) × (f.at ≡ at) × ((frame f).bytes ≡ bytes)
one_found None at bytes e = absurd (cc)
one_found (Some f) at bytes e = (f, refl, ap (λ o. (from_some o).0) e, ap (λ o. (from_some o).1) e)
  where
    from_some : Option (ℕ × ℕ) → ℕ × ℕ
    from_some None = (0, 0)
    from_some (Some p) = p

pub found_none : (o : Option Function) (f : Function) → o ≡ Some f → o ≡ None → ⊥
found_none None f e none = cc
found_none (Some g) f e none = cc

pub none_found : (o : Option Function) → option_map told o ≡ None → o ≡ None
none_found None e = refl
none_found (Some f) e = absurd (cc)

first_not : (f : Function) (fs : Program) → find large (f ∷ fs) ≡ None → (large f ≡ false) × (find large fs ≡ None)
first_not f fs e = go (large f) e
  where
    go : (b : Bool) → (if b then Some f else find large fs) ≡ None → (b ≡ false) × (find large fs ≡ None)
    go true h = absurd (cc)
    go false h = (refl, h)

pub frames_small : (p : Program) → find large p ≡ None → (j : ℕ) → j < length p → (frame_in p j).bytes ≤ most_frame
frames_small [] e j h = absurd (omega arith)
frames_small (f ∷ fs) e zero h = let b = (first_not f fs e).0 in grind (arith, nat_tests)
frames_small (f ∷ fs) e (suc j) h = frames_small fs (first_not f fs e).1 j (omega arith)

-- the program of a source, with its frames, has code, where its depths are lent
pub compilable : (fold : Bool) (text : List ℕ) (t : Tree Prog) (framed : Framed) (lent : List ℕ) → lent ≡ framed.depths.items → IsFramed fold text t framed → IsClean (length (tokens text)) (folded_if fold (ast t))
    → IsCompilable (folded_if fold (ast t)) framed.rows framed.names lent framed.frames
compilable fold text t framed lent e is clean = record {
  rows_are = is.are.rows_are;
  shaped = clean.shaped;
  named = record { names = is.are.names_are; end = length (tokens text); faultless = clean.scoped };
  meant_many = is.are.meant_many;
  numbers_many = is.are.numbers_many;
  typed = clean.typed;
  small = clean.small;
  framed = frames_small (folded_if fold (ast t)) is.frames.none_large;
  depths_are = e ∙ is.depths_are;
  frames_are = is.frames.frames_are;
}
