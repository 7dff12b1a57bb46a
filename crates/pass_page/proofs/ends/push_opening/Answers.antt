use Rattle.std.proofs.Common.{rules}
use Rattle.pass_page.specs.Page.{opening}
use Rattle.pass_page.proofs.ends.push_opening.Goals as goal

pub returns : goal.returns
unfolding opening
returns c = search rules
