use Rattle.std.proofs.Common.{sym, ◌∙◌}
use Rattle.par_passes.specs.Laws.Calling.{if_ok}
use Rattle.rv_select.specs.Knowns.{code_layout}
use Rattle.rv_emit.proofs.Parts.{parts_are, words_are}
use Rattle.rv_emit.proofs.write.LaidOut.write_by_chunks.Goals as goal

pub returns : goal.returns
returns g c =
    let columns = c.args.self.now.columns.now in
    let places = c.args.self.now.places in
    if_ok c.write_parts.result c.write_parts.ensures (λ v parts p good laid.
    parts ∙ parts_are columns (code_layout c.args.self.now.layout) places c.args.self.now.main c.args.size c.requires.size.0 ∙ sym (words_are columns (code_layout c.args.self.now.layout) places c.args.self.now.main p good laid))
