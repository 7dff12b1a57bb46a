use Rattle.std.proofs.Common.{sym, ◌∙◌}
use Rattle.elf_file.proofs.Apart.{none_touches, last_decides}
use Rattle.elf_file.proofs.earlier.touches.Goals as goal

pub returns-in-Some : goal.returns-in-Some
returns-in-Some c =
    let decided = last_decides c.args.start c.args.end 0 c.args.ends.now.entries _ _ c.requires (sym (c.range.ensures.between tt) ∙ c.in-Some.ensures.steps) in
    sym decided.0

pub returns-in-None : goal.returns-in-None
returns-in-None c = sym (none_touches c.args.start c.args.end c.args.ends.now.entries (sym (c.range.ensures.between tt) ∙ c.in-None.ensures.steps.0))
