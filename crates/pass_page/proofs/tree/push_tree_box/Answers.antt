use Rattle.std.proofs.Common.{◌≡◌, ◌∙◌, ◌++◌, ap, arith, length, List, ℕ}
use Rattle.std.proofs.lemmas.Result.{on_ok_weaker}
use Rattle.std.specs.Prelude.{codes}
use Rattle.std.specs.List.{flat_map, range_with_len}
use Rattle.pass_page.specs.Page.{box_end, box_start, canvas, levels, node_at}
use Rattle.pass_page.proofs.Told.{behind, length-levels}
use Rattle.pass_page.proofs.tree.push_tree_box.Goals as goal

pub push_canvas-requires : goal.push_canvas-requires
push_canvas-requires c =
    let rows = c.args.rows.now in
    let many : length c.deref.result.now ≡ length rows = ap (λ (xs : List ℕ). length xs) (c.deref.ensures.value ∙ c.in_ok-levels.ensures) ∙ length-levels rows in
    record { few = omega (arith, many, c.requires.few) }

pub returns : goal.returns
returns c =
    let rows = c.args.rows.now in
    let picture = c.in_ok-push_canvas.ensures ∙ ap (λ (ls : List ℕ). c.push_box_start.new.out.items ++ canvas ls) (c.deref.ensures.value ∙ c.in_ok-levels.ensures) in
    let nodes =
    c.in_ok-push_rows.ensures
    ∙ ap (λ (ls : List ℕ). c.push_canvas.new.out.items ++ flat_map (node_at rows ls) (range_with_len 0 (length rows))) (c.deref-2.ensures.value ∙ c.in_ok-levels.ensures) in
    let old = c.args.out.now.items in
    let start = box_start (codes "tree") in
    let size = canvas (levels rows) in
    let all = flat_map (node_at rows (levels rows)) (range_with_len 0 (length rows)) in
    let first = c.push_box_start.new.out.items in
    let second = c.push_canvas.new.out.items in
    let third = c.push_rows.new.out.items in
    let fourth = c.extend_from_slice.new.self.items in
    let drawn : third ≡ old ++ (start ++ size ++ all) = behind old (start ++ size) all second third (behind old start size first second c.in_ok-push_box_start.ensures picture) nodes in
    let closed : fourth ≡ old ++ (start ++ size ++ all ++ codes "</svg>") = behind old (start ++ size ++ all) (codes "</svg>") third fourth drawn c.in_ok-extend_from_slice.ensures.items in
    on_ok_weaker c.push_box_end.result (λ last. behind old (start ++ size ++ all ++ codes "</svg>") box_end fourth c.push_box_end.new.out.items closed last) c.push_box_end.ensures
