use Rattle.table_text.proofs.OnePiece.{one_pair, one_triple}
use Rattle.table_text.proofs.laws.tables_are_unique.Goals as goal

pub returns : goal.returns
returns c = record {
  pairs = λ g entry other t u a b. one_pair g b t.ll1 a (entry a b) (other a b) (t.entries a b) (u.entries a b);
  triples = λ g entry other t u z a b. one_triple g b t.ll1 z a (c.one_terminal_serves_two.ensures.within g z a b) (entry z a b) (other z a b) (t.entries z a b) (u.entries z a b);
}
