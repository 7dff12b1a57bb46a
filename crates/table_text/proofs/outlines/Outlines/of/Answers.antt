use Rattle.std.proofs.Common.{arith}
use Rattle.table_text.proofs.Outlining.{sets_ll1, sets_have_members}
use Rattle.table_text.proofs.outlines.Outlines.of.Goals as goal

pub table_of-requires : goal.table_of-requires
table_of-requires c = sets_ll1 c.args.grammar.now c.args.sets c.requires

pub aheads_of-requires-clause-ll1 : goal.aheads_of-requires-clause-ll1
aheads_of-requires-clause-ll1 c = sets_ll1 c.args.grammar.now c.args.sets c.requires

pub returns : goal.returns
returns c = record {
  sets = c.requires;
  members = sets_have_members c.args.grammar.now (c.one_terminal_serves_two.ensures.within c.args.grammar.now) (c.wide_tables_make_the_parse.ensures.closed c.args.grammar.now) c.args.sets c.requires;
  table = c.in_ok-table.ensures;
  aheads = c.in_ok-aheads.ensures;
  end_is = omega (arith, c.width_of.ensures, c.saturating_sub.ensures);
}
