use Rattle.std.proofs.Common.{sym, subst}
use Rattle.llp_wide.specs.WideEntries.{CountsTriples}
use Rattle.llp_wide.proofs.TripleCounts.{lookbacks_counted}
use Rattle.llp_wide.proofs.lookback_table.WideLookbacks.entries.Goals as goal

pub returns : goal.returns
returns c = λ g lookbacks. subst (CountsTriples g) (sym c.number_count.ensures) (lookbacks_counted g c.args.self.now lookbacks)
