use Rattle.std.proofs.Common.{rules}
use Rattle.pass_page.specs.Page.{closing}
use Rattle.pass_page.proofs.ends.push_closing.Goals as goal

pub returns : goal.returns
unfolding closing
returns c = search rules
