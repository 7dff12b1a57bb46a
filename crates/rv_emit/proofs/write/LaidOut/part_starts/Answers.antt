use Rattle.std.proofs.Common.{◌≡◌, ℕ, ◌+◌, ◌-◌, [], ◌∷◌, ◌++◌, map, sym, ap, ◌∙◌, arith}
use Rattle.std.specs.List.{range_with_len}
use Rattle.std.proofs.lemmas.List.FromFn.{map-range_with_len_more}
use Rattle.rv_select.specs.Knowns.{code_layout}
use Rattle.rv_emit.specs.OfColumns.{words_from}
use Rattle.rv_emit.proofs.write.LaidOut.part_starts.Goals as goal

pub loop-k-preserved : goal.loop-k-preserved
loop-k-preserved c =
    let self = c.args.self.now in
    let k = c.loop-k.k in
    let first = c.words_before-first.ensures in
    let next = c.words_before.ensures in
    let item : c.saturating_sub.result ≡ words_from self.columns.now (code_layout self.layout) self.places self.main c.args.size c.args.parts.now.start k = c.saturating_sub.ensures ∙ (λ i. next i - first i) in
    c.in_ok-push.ensures.items
    ∙ (λ i. c.loop-k.invariant i ++ item i ∷ [])
    ∙ sym (map-range_with_len_more (words_from self.columns.now (code_layout self.layout) self.places self.main c.args.size c.args.parts.now.start) 0 k k (omega arith))

pub returns : goal.returns
returns c =
    let self = c.args.self.now in
    let all : c.loop-k.k ≡ c.args.parts.now.end - c.args.parts.now.start + 1 = (let le = c.loop-k.auto.k-end in let stop = c.loop-k-test.false in omega arith) in
    c.loop-k.invariant
    ∙ ap (λ (n : ℕ). map (words_from self.columns.now (code_layout self.layout) self.places self.main c.args.size c.args.parts.now.start) (range_with_len 0 n)) all
