use Rattle.std.proofs.Common.{◌*◌, ◌/◌, sym, ◌∙◌, subst, arith}
use Rattle.word_monoid.specs.Monoid.{IsItem}
use Rattle.depth_rules.specs.Segments.{segments}
use Rattle.rv_regs.proofs.Blocked.{before_item, part}
use Rattle.rv_regs.proofs.stretches.stretch.Goals as goal

pub join_rows-requires-clause-item : goal.join_rows-requires-clause-item
join_rows-requires-clause-item c =
    let near = c.requires.within in
    subst (IsItem segments) (sym (c.start.ensures ∙ c.requires.starts (c.args.j / 32) (omega arith))) (before_item c.args.kinds.now c.args.depths.now (c.args.j / 32 * 32))

pub returns : goal.returns
returns c =
    let near = c.requires.within in
    part c.args.kinds.now c.args.depths.now (c.args.j / 32 * 32) c.args.j c.start.result c.join_rows.result (c.start.ensures ∙ c.requires.starts (c.args.j / 32) (omega arith)) c.join_rows.ensures.item c.join_rows.ensures.reaches
