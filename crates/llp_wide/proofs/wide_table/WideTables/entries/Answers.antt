use Rattle.std.proofs.Common.{sym, subst}
use Rattle.llp_wide.specs.WideEntries.{CountsTriples}
use Rattle.llp_wide.proofs.TripleCounts.{triples_counted}
use Rattle.llp_wide.proofs.wide_table.WideTables.entries.Goals as goal

pub returns-clause-triples : goal.returns-clause-triples
returns-clause-triples c = λ g tables. subst (CountsTriples g) (sym c.number_count.ensures) (triples_counted g c.args.self.now tables)
