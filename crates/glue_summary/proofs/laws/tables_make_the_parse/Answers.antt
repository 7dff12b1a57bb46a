-- The law of tables with one token of look-back.
use Rattle.glue_summary.proofs.Behinds.{table_pieces}
use Rattle.glue_summary.proofs.Conclusions.{left_parse_by, fault_by}
use Rattle.glue_summary.proofs.laws.tables_make_the_parse.Goals as goal

pub returns : goal.returns
returns c = record { pieces = table_pieces; ok = left_parse_by; fault = fault_by }
