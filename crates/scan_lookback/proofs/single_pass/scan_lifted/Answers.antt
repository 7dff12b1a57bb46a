use Rattle.std.proofs.Common.{rules}
use Rattle.scan_lookback.proofs.Naming.{scans_of, names_of}
use Rattle.scan_lookback.proofs.single_pass.scan_lifted.Goals as goal

pub scan_named-requires-clause-scan : goal.scan_named-requires-clause-scan
scan_named-requires-clause-scan g c = λ κs within.
    let m = c.args.monoid.now in
    record {
      callable = search rules;
      scans = scans_of (g.M.WordMonoid.ops m) (g.L.Lift.lifted c.args.lift.now) c.args.items.now c.requires.accepted c.plan-plan.result.chunk c.plan-plan.result.chunk_in_range.0 _ (search rules);
      sized = c.plan-plan.result.chunk_in_range;
      short = c.requires.len;
    }

pub scan_named-requires-clause-names : goal.scan_named-requires-clause-names
scan_named-requires-clause-names g c = λ κs within.
    let m = c.args.monoid.now in
    names_of (g.M.WordMonoid.ops m) (g.L.Lift.lifted c.args.lift.now) c.args.items.now c.requires.accepted c.plan-plan.result.chunk c.plan-plan.result.chunk_in_range.0 c.know_laws.ensures
