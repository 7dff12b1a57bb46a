use Rattle.std.proofs.Common.{sym, subst}
use Rattle.llp_tables.specs.Pairs.{CountsPairs}
use Rattle.llp_tables.proofs.PairCounts.{lookbacks_counted}
use Rattle.llp_tables.proofs.lookback_table.Lookbacks.entries.Goals as goal

pub returns : goal.returns
returns c = λ g lookbacks. subst (CountsPairs g) (sym c.member_count.ensures) (lookbacks_counted g c.args.self.now lookbacks)
