use Rattle.std.proofs.Common.{◌≡◌, ℕ, ◌+◌, ◌-◌, ◌<◌, length, ap, ◌∙◌, arith}
use Rattle.std.specs.Prelude.{flat_map}
use Rattle.std.specs.List.{range_with_len}
use Rattle.std.proofs.lemmas.List.FromFn.{length-range_with_len, get_or-range_with_len}
use Rattle.par_passes.specs.Laws.Calling.{if_ok}
use Rattle.rv_select.specs.Knowns.{code_layout}
use Rattle.rv_emit.specs.OfColumns.{part_of}
use Rattle.rv_emit.proofs.Starts.{parts_start, starts_many}
use Rattle.rv_emit.proofs.write.LaidOut.write_window.Goals as goal

pub scatter_parts-requires-clause-count : goal.scatter_parts-requires-clause-count
scatter_parts-requires-clause-count g c κs within =
    let self = c.args.self.now in
    let first = c.args.parts.now.start in
    let count = c.args.parts.now.end - first in
    let many : length c.deref.result.now - 1 ≡ count = starts_many self.columns.now (code_layout self.layout) self.places self.main c.args.size first count c.deref.result.now (c.deref.ensures.value ∙ c.in_ok-starts.ensures) in
    let far = c.requires.order.1 in
    omega arith

pub scatter_parts-requires-clause-callable : goal.scatter_parts-requires-clause-callable
scatter_parts-requires-clause-callable g c κs within = λ k d near.
    let self = c.args.self.now in
    let first = c.args.parts.now.start in
    let count = c.args.parts.now.end - first in
    let many : length c.deref.result.now - 1 ≡ count = starts_many self.columns.now (code_layout self.layout) self.places self.main c.args.size first count c.deref.result.now (c.deref.ensures.value ∙ c.in_ok-starts.ensures) in
    let all = length-range_with_len 0 (length c.deref.result.now - 1) in
    let less : k < length c.deref.result.now - 1 = omega arith in
    let is = get_or-range_with_len 0 (length c.deref.result.now - 1) k d less in
    let far = c.requires.order.1 in
    (c.requires.ready, omega arith)

pub scatter_parts-requires-clause-starts : goal.scatter_parts-requires-clause-starts
scatter_parts-requires-clause-starts g c κs within =
    let self = c.args.self.now in
    let first = c.args.parts.now.start in
    parts_start self.columns.now (code_layout self.layout) self.places self.main c.args.size first (c.args.parts.now.end - first) c.deref.result.now (c.deref.ensures.value ∙ c.in_ok-starts.ensures)

pub scatter_parts-requires-clause-parts : goal.scatter_parts-requires-clause-parts
scatter_parts-requires-clause-parts g c κs within = λ n x lt h. h

pub returns : goal.returns
returns g c =
    let self = c.args.self.now in
    let first = c.args.parts.now.start in
    let count = c.args.parts.now.end - first in
    let many : length c.deref.result.now - 1 ≡ count = starts_many self.columns.now (code_layout self.layout) self.places self.main c.args.size first count c.deref.result.now (c.deref.ensures.value ∙ c.in_ok-starts.ensures) in
    if_ok c.scatter_parts.result c.scatter_parts.ensures (λ v all.
    all ∙ ap (λ (n : ℕ). flat_map (λ k. part_of self.columns.now (code_layout self.layout) self.places self.main c.args.size (first + k)) (range_with_len 0 n)) many)
