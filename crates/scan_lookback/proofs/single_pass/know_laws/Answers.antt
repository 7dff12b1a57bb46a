use Rattle.scan_lookback.proofs.single_pass.know_laws.Goals as goal

pub returns : goal.returns
returns g c = g.met.M.WordMonoid.lawful c.args.monoid.now
