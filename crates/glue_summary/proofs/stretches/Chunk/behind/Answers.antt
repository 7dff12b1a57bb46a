-- The last two tokens before a chunk.
use Rattle.std.proofs.Common.{◌*◌, ◌≤◌, length, arith, sym, ap, ◌∙◌, refl}
use Rattle.glue_summary.specs.Pieces.{at_begin, behind_all}
use Rattle.glue_summary.proofs.Chunks.{behind_is, take_short}
use Rattle.glue_summary.proofs.stretches.Chunk.behind.Goals as goal

pub returns : goal.returns
returns c =
    let inside : c.start-from.result ≤ length c.args.self.now.tokens.now = (let s = c.start-from.ensures in omega arith) in
    (λ i. record { before_last = c.token_before.ensures i; last = c.token_before-2.ensures i })
    ∙ (sym (behind_is at_begin c.start-from.result c.saturating_sub.result c.args.self.now.tokens.now inside c.saturating_sub.ensures refl)
    ∙ ap (behind_all at_begin) (take_short (c.args.self.now.number * c.args.self.now.size) c.start-from.result c.args.self.now.tokens.now c.start-from.ensures))
