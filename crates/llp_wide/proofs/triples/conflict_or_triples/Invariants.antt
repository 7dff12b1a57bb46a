use Rattle.std.specs.Option.{IfSome}
use Rattle.llp_wide.specs.Triples.{AreLayers}
use Rattle.llp_wide.specs.WideConflicts.{LeastWideBelow}
use Rattle.llp_wide.proofs.triples.conflict_or_triples.Given as goal

abbrev pub invariant-loop-b : goal.invariant-loop-b
invariant-loop-b l =
    record {
      least : LeastWideBelow l.grammar l.b l.best;
      layers : IfSome l.triples (λ t. AreLayers l.grammar l.b t.numbers.items t.stacks.items);
    }
