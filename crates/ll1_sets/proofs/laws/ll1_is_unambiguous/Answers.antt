use Rattle.ll1_sets.specs.Laws.Ll1.{left_parse_same, tree_same}
use Rattle.ll1_sets.proofs.laws.ll1_is_unambiguous.Goals as goal

pub returns : goal.returns
returns c = record { left_parse = left_parse_same; tree = tree_same }
