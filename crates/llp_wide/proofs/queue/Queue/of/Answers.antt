use Rattle.llp_wide.proofs.Additions.{all_queued}
use Rattle.llp_wide.proofs.queue.Queue.of.Goals as goal

pub returns : goal.returns
returns c = all_queued _ _ c.from.ensures.1
