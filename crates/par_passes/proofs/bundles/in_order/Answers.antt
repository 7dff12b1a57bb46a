use Rattle.std.proofs.Common.{◌++◌, ap, subst}
use Rattle.scan_lookback.specs.Placed.{Placed}
use Rattle.scan_lookback.specs.Laws.Assembling.{next_is_full}
use Rattle.par_passes.proofs.Bundling.{each_was_put}
use Rattle.par_passes.proofs.bundles.in_order.Goals as goal

pub unreachable-requires : goal.unreachable-requires
unreachable-requires g c =
    next_is_full c.args.pairs.items c.args.count c.loop-slot.yielded c.in-Some.slot c.next.new.self.rest.items
    (subst (Placed c.args.pairs.items c.args.count) (ap (λ l. c.loop-slot.yielded ++ l) c.in-Some.ensures.steps.0) c.loop-slot.invariant.0)
    c.requires.once c.in_default.is

pub returns-clause-each : goal.returns-clause-each
returns-clause-each g c = each_was_put c.args.pairs.items c.args.count c.loop-slot.bundles.items c.loop-slot.yielded c.loop-slot.slot-iterator.rest.items c.loop-slot.invariant.0 c.loop-slot.invariant.1
