use Rattle.std.proofs.Common.{◌≡◌, ℕ, List, [], ◌∷◌, ◌∙◌, ap, sym, length, map, refl}
use Rattle.std.proofs.lemmas.List.{length-map}
use Rattle.std.specs.Prelude.{codes}
use Rattle.source_meaning.specs.Frames.{Frame as FrameRow}
use Rattle.rv_regs.specs.FrameRows.{frame_of}
use Rattle.pass_tables.specs.Tables.{numbers, places}
use Rattle.pass_tables.specs.FrameNumbers.{number_in}
use Rattle.pass_tables.specs.declared.frames.Part.TheVariants.{Registers, Spills, Variables, Bytes}
use Rattle.pass_tables.proofs.Told.{kept_numbers}
use Rattle.pass_tables.proofs.frames.frame_columns.Goals as goal

pub returns : goal.returns
returns c =
    let kept = c.as_slice-frames.result.now in
    let frames = c.args.frames.now in
    let many : length kept ≡ length frames = sym (length-map kept frame_of) ∙ ap (λ (fs : List FrameRow). length fs) c.as_slice-frames.ensures in
    let count = c.in_ok-places.ensures ∙ ap (places (codes "function")) many in
    let column : (g : FrameRow → ℕ) → map g (map frame_of kept) ≡ map g frames = λ g. ap (map g) c.as_slice-frames.ensures in
    let registers = c.in_ok-registers.ensures ∙ ap (numbers (codes "registers")) (kept_numbers (number_in Registers) (λ f. f.registers) (λ x. refl) kept ∙ column (λ f. f.registers)) in
    let spills = c.in_ok-spills.ensures ∙ ap (numbers (codes "spills")) (kept_numbers (number_in Spills) (λ f. f.spills) (λ x. refl) kept ∙ column (λ f. f.spills)) in
    let variables = c.in_ok-variables.ensures ∙ ap (numbers (codes "variables")) (kept_numbers (number_in Variables) (λ f. f.locals) (λ x. refl) kept ∙ column (λ f. f.locals)) in
    let bytes = c.in_ok-bytes.ensures ∙ ap (numbers (codes "bytes")) (kept_numbers (number_in Bytes) (λ f. f.bytes) (λ x. refl) kept ∙ column (λ f. f.bytes)) in
    c.in_ok-vec.ensures.items ∙ (λ i. count i ∷ registers i ∷ spills i ∷ variables i ∷ bytes i ∷ c.in_ok-names.ensures i ∷ [])
