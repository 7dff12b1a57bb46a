use Rattle.std.proofs.Common.{◌≡◌, ℕ, suc, ◌-◌, ◌*◌, min, length, sym, ap, ◌∙◌, arith}
use Rattle.rv_select.specs.Knowns.{code_layout}
use Rattle.rv_emit.specs.OfColumns.{words_before}
use Rattle.rv_emit.proofs.Starts.{before_is}
use Rattle.rv_emit.proofs.write.LaidOut.words_before.Goals as goal

pub returns-then-n-eq0 : goal.returns-then-n-eq0
returns-then-n-eq0 c =
    let self = c.args.self.now in
    let none : 0 ≡ c.args.n = sym c.if-n-eq0.true in
    ap (λ (n : ℕ). words_before self.columns.now (code_layout self.layout) self.places self.main c.args.size n) none

pub returns : goal.returns
returns c =
    let self = c.args.self.now in
    let laid = c.requires.laid in
    let some = c.if-n-eq0.false in
    let next : suc (c.args.n - 1) ≡ c.args.n = omega arith in
    let row : c.chunk_start-row.result ≡ min ((c.args.n - 1) * c.args.size) (length self.columns.now.kinds) =
    c.chunk_start-row.ensures ∙ ap (min ((c.args.n - 1) * c.args.size)) c.row_count.ensures in
    c.first_word.ensures
    ∙ before_is self.columns.now (code_layout self.layout) self.places self.main laid.0 laid.1 laid.2 c.args.size c.args.words (c.args.n - 1) c.chunk_start-row.result laid.3 row
    ∙ ap (λ (n : ℕ). words_before self.columns.now (code_layout self.layout) self.places self.main c.args.size n) next
