use Rattle.std.proofs.Common.{◌≡◌, ℕ, List, length, get_or, sym, ap, ◌∙◌, subst, arith}
use Rattle.par_passes.specs.Laws.Calling.{if_ok}
use Rattle.ast_rows.specs.FunctionRows.{functions_by}
use Rattle.depth_rules.specs.Segments.{no_slots, stretches_by}
use Rattle.rv_regs.specs.Blocks.{AreStarts}
use Rattle.rv_regs.specs.FrameRows.{frame_row}
use Rattle.rv_regs.proofs.Blocked.{stretch_is}
use Rattle.rv_regs.proofs.Kept.{few_functions, functions_within}
use Rattle.rv_regs.proofs.frame_list.frames_at.Goals as goal

pub map-requires-clause-len : goal.map-requires-clause-len
map-requires-clause-len g c κs within =
    let few = few_functions c.args.kinds.now in
    let small = c.requires.nodes in
    let as_many : length c.args.functions.now ≡ length (functions_by c.args.kinds.now) = ap (λ (l : List ℕ). length l) c.requires.rows in
    omega arith

pub map-requires-clause-callable : goal.map-requires-clause-callable
map-requires-clause-callable g c κs within = λ k d near.
    (subst (AreStarts c.args.kinds.now c.args.depths.now) (sym c.as_slice-starts.ensures.value) c.in_ok-starts.ensures, functions_within c.args.kinds.now c.args.functions.now c.requires.rows k d near)

pub returns : goal.returns
returns g c = if_ok c.map.result c.map.ensures.values (λ v are.
    are (λ (j : ℕ). frame_row (get_or (stretches_by c.args.kinds.now c.args.depths.now) j no_slots)) (λ k d near r is.
    is ∙ ap frame_row (sym (stretch_is c.args.kinds.now c.args.depths.now (get_or c.args.functions.now k d) (functions_within c.args.kinds.now c.args.functions.now c.requires.rows k d near)))))
