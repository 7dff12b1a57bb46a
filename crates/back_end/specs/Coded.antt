-- What the code of a source is made of.
use Rattle.std.specs.Prelude.{◌≡◌, ◌<◌, ℕ, Bool, List, [], length, map, None, nat_lt}
use Rattle.std.specs.List.{find}
use Rattle.limits.specs.Limits.{most_frame}
use Rattle.source_meaning.specs.Ast.{Program}
use Rattle.source_meaning.specs.Grammar.{Tree, Prog, ast}
use Rattle.source_meaning.specs.Frames.{Frame, frame, depths}
use Rattle.source_meaning.specs.Rows.{Row, post}
use Rattle.source_meaning.specs.Scope.{scope_faults}
use Rattle.source_meaning.specs.Shape.{shape_faults}
use Rattle.source_meaning.specs.Typing.{type_faults}
use Rattle.ast_rows.specs.NameRows.{NameRows}
use Rattle.row_rules.specs.Steps.{kind_at}
use Rattle.code_rules.specs.Pieces.{places, sizes}
use Rattle.code_rules.specs.Reach.{IsSmall}
use Rattle.front_end.specs.Front.{AreNamesOf, IsChecked}
use Rattle.rv_code.specs.Code.{layout_of, words}
use Rattle.verdict.specs.Verdict.{folded_if}
use Rattle.back_end.specs.declared.coding.Framed.{Framed}
use Rattle.back_end.specs.declared.coding.LaidOut.{LaidOut}

-- a program without a fault of the phases up to types, whose numbers are words
pub record IsClean (end : ℕ) (p : Program) : Type 0 where
  pub shaped : shape_faults p ≡ []
  pub scoped : scope_faults end p ≡ []
  pub typed : type_faults p ≡ []
  pub small : (k : ℕ) → k < length (post p) → IsSmall (kind_at p k)

-- the rows of a program, and what its names mean
pub record AreRowsOf (p : Program) (rows : List Row) (names : NameRows) : Type 0 where
  pub rows_are : rows ≡ post p
  pub names_are : AreNamesOf names p
  pub meant_many : length names.meant ≡ length rows
  pub numbers_many : length names.numbers ≡ length rows

-- the frames of a program, none of which is too large
pub record AreFrames (p : Program) (frames : List Frame) : Type 0 where
  pub frames_are : frames ≡ map (λ f. frame f) p
  pub none_large : find (λ f. nat_lt most_frame (frame f).bytes) p ≡ None

-- a source's program up to its frames, with its constants folded or as it is
pub record IsFramed (fold : Bool) (text : List ℕ) (t : Tree Prog) (framed : Framed) : Type 0 where
  pub checked : IsChecked text t
  pub are : AreRowsOf (folded_if fold (ast t)) framed.rows framed.names
  pub depths_are : framed.depths.items ≡ depths (folded_if fold (ast t))
  pub frames : AreFrames (folded_if fold (ast t)) framed.frames

-- the sizes and places of the pieces of a program's rows, and its words
pub record AreLaidOut (p : Program) (laid : LaidOut) : Type 0 where
  pub sizes_are : laid.sizes.items ≡ sizes (layout_of p) p
  pub places_are : laid.places.items ≡ places (layout_of p) p
  pub words_are : laid.words.items ≡ words p
