use Rattle.std.proofs.Common.{◌∙◌, false, length, ap, arith}
use Rattle.source_meaning.specs.Ast.{Program}
use Rattle.source_meaning.specs.Grammar.{ast}
use Rattle.front_end.specs.Laws.Counting.{tree_few}
use Rattle.verdict.specs.Verdict.{Accepted, IsVerdict}
use Rattle.pass_views.specs.Stopped.{Stops}
use Rattle.back_end.specs.Laws.Analyzed.{of_analysis}
use Rattle.back_end.specs.Laws.HandedOn.{handed_on}
use Rattle.pass_views.proofs.Showing.{are_frames, are_places, are_words, unaccepted}
use Rattle.pass_views.proofs.show.arrays_of_code.Goals as goal

pub depths-requires-clause-nodes : goal.depths-requires-clause-nodes
depths-requires-clause-nodes g c κs within =
    let t = c.requires.analyzed in
    let same = ap length c.parts-tokens.ensures.rows in
    let h = tree_few c.args.source.now c.args.analysis.rows t.0 t.1.checked.fits (record { tree = t.1.checked.tree; shaped = t.1.checked.shaped; are = t.1.rows_are }) (c.rows_are_few.ensures t.0) in
    omega arith

pub frames_or_limit-requires-clause-nodes : goal.frames_or_limit-requires-clause-nodes
frames_or_limit-requires-clause-nodes g c κs within =
    let t = c.requires.analyzed in
    let same = ap length c.parts-tokens.ensures.rows in
    let h = tree_few c.args.source.now c.args.analysis.rows t.0 t.1.checked.fits (record { tree = t.1.checked.tree; shaped = t.1.checked.shaped; are = t.1.rows_are }) (c.rows_are_few.ensures t.0) in
    omega arith

pub frames_or_limit-requires-clause-lexed : goal.frames_or_limit-requires-clause-lexed
frames_or_limit-requires-clause-lexed g c κs within =
    let t = c.requires.analyzed in
    record { fits = t.1.checked.fits; lexical = t.1.checked.lexical; are = c.parts-tokens.ensures.tokens ∙ t.1.tokens_are }

pub laid_out-requires-clause-nodes : goal.laid_out-requires-clause-nodes
laid_out-requires-clause-nodes g c κs within =
    let t = c.requires.analyzed in
    let same = ap length c.parts-tokens.ensures.rows in
    let h = tree_few c.args.source.now c.args.analysis.rows t.0 t.1.checked.fits (record { tree = t.1.checked.tree; shaped = t.1.checked.shaped; are = t.1.rows_are }) (c.rows_are_few.ensures t.0) in
    omega arith

pub laid_out-requires-clause-framed : goal.laid_out-requires-clause-framed
laid_out-requires-clause-framed g c κs within =
    let text = c.args.source.now in
    let t = c.requires.analyzed in
    let rows = c.parts-tokens.ensures.rows ∙ t.1.rows_are in
    let deep = c.in_ok-depths.ensures (ast t.0) t.1.checked.shaped rows in (
      t.0,
      record {
        checked = t.1.checked;
        are = of_analysis text t.0 c.args.analysis c.parts-tokens.result.1 c.parts-tokens.result.2 t.1 c.parts-tokens.ensures.rows c.parts-tokens.ensures.names;
        depths_are = deep;
        frames = c.in_ok-frames.ensures.ok false t.0 t.1.checked rows (c.deref.ensures.value ∙ deep);
      },
    )

pub returns-clause-frames : goal.returns-clause-frames
returns-clause-frames g c =
    let text = c.args.source.now in
    let t = c.requires.analyzed in
    let rows = c.parts-tokens.ensures.rows ∙ t.1.rows_are in
    let deep = c.in_ok-depths.ensures (ast t.0) t.1.checked.shaped rows in
    are_frames text c.parts-tokens.result.0 c.parts-tokens.result.1 c.in_ok-frames.frames c.in_ok-columns_of_code.field-0.frames.items t.0 t.1.checked (c.parts-tokens.ensures.tokens ∙ t.1.tokens_are) rows
    (c.in_ok-frames.ensures.ok false t.0 t.1.checked rows (c.deref.ensures.value ∙ deep)) c.in_ok-columns_of_code.ensures.frames

pub returns-clause-places : goal.returns-clause-places
returns-clause-places g c =
    let text = c.args.source.now in
    let t = c.requires.analyzed in
    let rows = c.parts-tokens.ensures.rows ∙ t.1.rows_are in
    let deep = c.in_ok-depths.ensures (ast t.0) t.1.checked.shaped rows in
    let is = c.in_ok-laid.ensures.ok t.0
    (record {
      checked = t.1.checked;
      are = of_analysis text t.0 c.args.analysis c.parts-tokens.result.1 c.parts-tokens.result.2 t.1 c.parts-tokens.ensures.rows c.parts-tokens.ensures.names;
      depths_are = deep;
      frames = c.in_ok-frames.ensures.ok false t.0 t.1.checked rows (c.deref.ensures.value ∙ deep);
    }) in
    are_places text c.parts-tokens.result.1 _ _ _ c.in_ok-columns_of_code.field-0.places.items (ast t.0) is.0 rows deep is.1.sizes_are is.1.places_are
    c.in_ok-columns_of_code.ensures.places

pub returns-clause-code : goal.returns-clause-code
returns-clause-code g c =
    let text = c.args.source.now in
    let t = c.requires.analyzed in
    let rows = c.parts-tokens.ensures.rows ∙ t.1.rows_are in
    let deep = c.in_ok-depths.ensures (ast t.0) t.1.checked.shaped rows in
    let is = c.in_ok-laid.ensures.ok t.0
    (record {
      checked = t.1.checked;
      are = of_analysis text t.0 c.args.analysis c.parts-tokens.result.1 c.parts-tokens.result.2 t.1 c.parts-tokens.ensures.rows c.parts-tokens.ensures.names;
      depths_are = deep;
      frames = c.in_ok-frames.ensures.ok false t.0 t.1.checked rows (c.deref.ensures.value ∙ deep);
    }) in
    are_words text _ c.in_ok-columns_of_code.field-0.code.items (ast t.0) is.0 is.1.words_are c.in_ok-columns_of_code.ensures.code

pub returns-in_err-frames-clause-stopped : goal.returns-in_err-frames-clause-stopped
returns-in_err-frames-clause-stopped g c =
    let text = c.args.source.now in
    let t = c.requires.analyzed in
    let rows = c.parts-tokens.ensures.rows ∙ t.1.rows_are in
    let deep = c.in_ok-depths.ensures (ast t.0) t.1.checked.shaped rows in
    handed_on (Stops ((p : Program) → ¬ IsVerdict false text (Accepted p)) text) c.from_residual-in_err-frames.result c.in_err-frames.field-0.0 c.from_residual-in_err-frames.ensures.1
    (unaccepted text c.in_err-frames.field-0.0 (c.one_verdict.ensures false text) (c.in_err-frames.ensures.refused false t.0 t.1.checked rows (c.deref.ensures.value ∙ deep)))

pub returns-in_err-laid-clause-stopped : goal.returns-in_err-laid-clause-stopped
returns-in_err-laid-clause-stopped g c =
    let text = c.args.source.now in
    let t = c.requires.analyzed in
    let rows = c.parts-tokens.ensures.rows ∙ t.1.rows_are in
    let deep = c.in_ok-depths.ensures (ast t.0) t.1.checked.shaped rows in
    handed_on (Stops ((p : Program) → ¬ IsVerdict false text (Accepted p)) text) c.from_residual-in_err-laid.result c.in_err-laid.field-0.0 c.from_residual-in_err-laid.ensures.1
    (unaccepted text c.in_err-laid.field-0.0 (c.one_verdict.ensures false text)
    (c.in_err-laid.ensures.refused t.0
    (record {
      checked = t.1.checked;
      are = of_analysis text t.0 c.args.analysis c.parts-tokens.result.1 c.parts-tokens.result.2 t.1 c.parts-tokens.ensures.rows c.parts-tokens.ensures.names;
      depths_are = deep;
      frames = c.in_ok-frames.ensures.ok false t.0 t.1.checked rows (c.deref.ensures.value ∙ deep);
    })))
