use Rattle.std.proofs.Common.{◌∙◌, length, ap, arith}
use Rattle.std.proofs.lemmas.Result.{IfOk-weaker}
use Rattle.source_meaning.specs.Grammar.{ast}
use Rattle.front_end.specs.Front.{IsRefusedBy}
use Rattle.front_end.specs.Laws.Counting.{tree_few}
use Rattle.verdict.specs.Verdict.{folded_if}
use Rattle.back_end.specs.Coded.{AreRowsOf}
use Rattle.back_end.specs.Laws.HandedOn.{handed_on}
use Rattle.back_end.proofs.Chosen.{rows_of}
use Rattle.back_end.proofs.coding.code.Goals as goal

pub compiled-requires-clause-nodes : goal.compiled-requires-clause-nodes
compiled-requires-clause-nodes g c κs within =
    let t = c.requires.analyzed.0 in
    let a = c.requires.analyzed.1 in
    let h = tree_few c.args.source.now c.args.analysis.rows t a.checked.fits (record { tree = a.checked.tree; shaped = a.checked.shaped; are = a.rows_are }) (c.rows_are_few.ensures t) in
    let same = ap length c.parts-tokens.ensures.rows in
    omega arith

pub make_frames-requires-clause-lexed : goal.make_frames-requires-clause-lexed
make_frames-requires-clause-lexed g c κs within =
    let a = c.requires.analyzed.1 in
    record { fits = a.checked.fits; lexical = a.checked.lexical; are = c.parts-tokens.ensures.tokens ∙ a.tokens_are }

pub emitted-requires-clause-framed : goal.emitted-requires-clause-framed
emitted-requires-clause-framed g c κs within =
    let fold = c.args.fold in
    let text = c.args.source.now in
    let t = c.requires.analyzed.0 in
    let a = c.requires.analyzed.1 in
    let p = folded_if fold (ast t) in
    let are : AreRowsOf p c.in_ok-rows.rows c.in_ok-rows.names =
    rows_of fold text t c.args.analysis a c.parts-tokens.result.1 c.in_ok-rows.rows c.parts-tokens.result.2 c.in_ok-rows.names c.parts-tokens.ensures.rows c.parts-tokens.ensures.names c.compiled_programs_are_clean.ensures c.in_ok-rows.ensures.are in
    let deep = c.in_ok-depths.ensures p (c.compiled_programs_are_clean.ensures fold text t a.checked).shaped are.rows_are in
    let frames = c.in_ok-frames.ensures.ok fold t a.checked are.rows_are (c.deref.ensures.value ∙ deep) in (
      fold,
      t,
      record { checked = a.checked; are = are; depths_are = deep; frames = frames },
    )

pub returns-in_err-frames-clause-refused : goal.returns-in_err-frames-clause-refused
returns-in_err-frames-clause-refused g c =
    let fold = c.args.fold in
    let text = c.args.source.now in
    let t = c.requires.analyzed.0 in
    let a = c.requires.analyzed.1 in
    let p = folded_if fold (ast t) in
    let are : AreRowsOf p c.in_ok-rows.rows c.in_ok-rows.names =
    rows_of fold text t c.args.analysis a c.parts-tokens.result.1 c.in_ok-rows.rows c.parts-tokens.result.2 c.in_ok-rows.names c.parts-tokens.ensures.rows c.parts-tokens.ensures.names c.compiled_programs_are_clean.ensures c.in_ok-rows.ensures.are in
    let deep = c.in_ok-depths.ensures p (c.compiled_programs_are_clean.ensures fold text t a.checked).shaped are.rows_are in
    handed_on (IsRefusedBy fold text) c.from_residual-in_err-frames.result c.in_err-frames.field-0.0 c.from_residual-in_err-frames.ensures.1
    (c.in_err-frames.ensures.refused fold t a.checked are.rows_are (c.deref.ensures.value ∙ deep))

pub returns-clause-ok : goal.returns-clause-ok
returns-clause-ok g c =
    let fold = c.args.fold in
    let text = c.args.source.now in
    let t = c.requires.analyzed.0 in
    let a = c.requires.analyzed.1 in
    let p = folded_if fold (ast t) in
    let are : AreRowsOf p c.in_ok-rows.rows c.in_ok-rows.names =
    rows_of fold text t c.args.analysis a c.parts-tokens.result.1 c.in_ok-rows.rows c.parts-tokens.result.2 c.in_ok-rows.names c.parts-tokens.ensures.rows c.parts-tokens.ensures.names c.compiled_programs_are_clean.ensures c.in_ok-rows.ensures.are in
    let deep = c.in_ok-depths.ensures p (c.compiled_programs_are_clean.ensures fold text t a.checked).shaped are.rows_are in
    let frames = c.in_ok-frames.ensures.ok fold t a.checked are.rows_are (c.deref.ensures.value ∙ deep) in
    IfOk-weaker c.emitted.result _ _ (λ v is. let it = is fold t (record { checked = a.checked; are = are; depths_are = deep; frames = frames }) in (p, it.0, it.1)) c.emitted.ensures.ok

pub returns-clause-refused : goal.returns-clause-refused
returns-clause-refused g c =
    let fold = c.args.fold in
    let text = c.args.source.now in
    let t = c.requires.analyzed.0 in
    let a = c.requires.analyzed.1 in
    let p = folded_if fold (ast t) in
    let are : AreRowsOf p c.in_ok-rows.rows c.in_ok-rows.names =
    rows_of fold text t c.args.analysis a c.parts-tokens.result.1 c.in_ok-rows.rows c.parts-tokens.result.2 c.in_ok-rows.names c.parts-tokens.ensures.rows c.parts-tokens.ensures.names c.compiled_programs_are_clean.ensures c.in_ok-rows.ensures.are in
    let deep = c.in_ok-depths.ensures p (c.compiled_programs_are_clean.ensures fold text t a.checked).shaped are.rows_are in
    let frames = c.in_ok-frames.ensures.ok fold t a.checked are.rows_are (c.deref.ensures.value ∙ deep) in
    c.emitted.ensures.refused fold t (record { checked = a.checked; are = are; depths_are = deep; frames = frames })
