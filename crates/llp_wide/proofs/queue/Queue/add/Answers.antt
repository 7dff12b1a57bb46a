-- What both heaps have.
use Rattle.std.proofs.Common.{List, subst}
use Rattle.std.specs.BinaryHeap.{heap_items}
use Rattle.std.proofs.lemmas.Result.{on_ok_weaker}
use Rattle.llp_wide.specs.Added.{Adds, IsIn}
use Rattle.llp_wide.specs.Claims.{Claim}
use Rattle.llp_wide.proofs.Additions.{more_queued}
use Rattle.llp_wide.proofs.queue.Queue.add.Goals as goal

pub returns : goal.returns
returns c = on_ok_weaker c.append.result (λ put. subst (λ (old : List Claim). Adds (IsIn c.args.claims.items) old (heap_items c.append.new.self)) c.self.view_is (more_queued _ _ _ _ c.from-more.ensures.1 put)) c.append.ensures.permutation
