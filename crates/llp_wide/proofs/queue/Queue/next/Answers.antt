-- The greatest item of the heap is the least string.
use Rattle.std.proofs.Common.{◌≡◌, false, List, sym, subst}
use Rattle.std.specs.Ordering.{is_lt}
use Rattle.std.specs.BinaryHeap.{heap_items}
use Rattle.std.proofs.lemmas.Option.{IfSome_then}
use Rattle.llp_wide.specs.Added.{Adds, IsIn}
use Rattle.llp_wide.specs.Claims.{Claim}
use Rattle.llp_wide.specs.Queueing.{claim_cmp}
use Rattle.llp_wide.specs.Laws.QueueOrder.{not_before}
use Rattle.llp_wide.proofs.Additions.{in_all, taken_out}
use Rattle.llp_wide.proofs.queue.Queue.next.Goals as goal

pub returns-clause-taken : goal.returns-clause-taken
returns-clause-taken c = IfSome_then c.pop.result c.pop.ensures.permutation (λ p same. subst (λ (old : List Claim). Adds (λ x. x ≡ p) (heap_items c.pop.new.self) old) c.self.view_is (taken_out _ _ p same))

pub returns-clause-least : goal.returns-clause-least
returns-clause-least c = IfSome_then c.pop.result c.pop.ensures.heap_order (λ p pops x h.
    not_before x p (in_all (λ (y : Claim). is_lt (claim_cmp p y) ≡ false) (heap_items c.self.inside.heap) (pops c.self.invariant).1 x (subst (λ (xs : List Claim). IsIn xs x) (sym c.self.view_is) h)))
