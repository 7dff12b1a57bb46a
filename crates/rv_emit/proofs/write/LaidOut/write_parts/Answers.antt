use Rattle.std.proofs.Common.{◌≡◌, ℕ, ◌+◌, ◌-◌, ◌*◌, ◌≤◌, ◌++◌, min, length, sym, ap, ◌∙◌, arith, suc-mul, add-one}
use Rattle.std.specs.Prelude.{flat_map}
use Rattle.std.specs.List.{range_with_len}
use Rattle.chunk_seats.specs.Chunks.{chunk_count}
use Rattle.chunk_seats.specs.Laws.Counted.{chunks_all}
use Rattle.rv_select.specs.Knowns.{code_layout}
use Rattle.rv_emit.specs.OfColumns.{part_of}
use Rattle.rv_emit.proofs.Starts.{parts_more}
use Rattle.rv_emit.proofs.write.LaidOut.write_parts.Goals as goal

next_place : (w per : ℕ) → (w + 1) * per ≡ w * per + per
next_place w per = (λ i. add-one w i * per) ∙ suc-mul w per

capped : (a b : ℕ) → b ≤ a → min a b ≡ b
capped a b le = omega arith

pub loop-w-preserved : goal.loop-w-preserved
loop-w-preserved g c =
    let self = c.args.self.now in
    let part = part_of self.columns.now (code_layout self.layout) self.places self.main c.args.size in
    let from = c.chunk_start.result in
    let to = c.chunk_start-in-loop-w.result in
    let begins = c.chunk_start.ensures in
    let ends = c.chunk_start-in-loop-w.ensures in
    let more = next_place c.loop-w.w c.parts_of_window-per.result in
    let there : from + (to - from) ≡ min ((c.loop-w.w + 1) * c.parts_of_window-per.result) (c.count_chunks-count.result + 1) = omega arith in
    c.in_ok-extend_from_slice.ensures.items
    ∙ (λ i. (c.loop-w.invariant ∙ ap (λ m. flat_map part (range_with_len 0 m)) (sym begins)) i ++ (c.deref.ensures.value ∙ c.in_ok-window.ensures) i)
    ∙ sym (parts_more part from (to - from))
    ∙ ap (λ m. flat_map part (range_with_len 0 m)) there

pub returns : goal.returns
returns g c =
    let self = c.args.self.now in
    let part = part_of self.columns.now (code_layout self.layout) self.places self.main c.args.size in
    let per = c.parts_of_window-per.result in
    let count = c.count_chunks-count.result + 1 in
    let last : c.loop-w.w ≡ chunk_count per count = (let le = c.loop-w.auto.w-end in let stop = c.loop-w-test.false in let e = c.count_chunks-w-end.ensures in omega arith) in
    let all = chunks_all count per c.parts_of_window-per.ensures.0 in
    let there : min (c.loop-w.w * per) count ≡ chunk_count c.args.size (length self.columns.now.kinds) + 1 =
    ap (λ m. min (m * per) count) last ∙ capped (chunk_count per count * per) count all ∙ (λ i. (c.count_chunks-count.ensures ∙ ap (chunk_count c.args.size) c.row_count.ensures) i + 1) in
    c.loop-w.invariant ∙ ap (λ m. flat_map part (range_with_len 0 m)) there
