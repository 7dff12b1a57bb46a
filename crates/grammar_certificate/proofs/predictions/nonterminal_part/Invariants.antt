use Rattle.std.proofs.Common.{◌≡◌, drop}
use Rattle.llp_tables.specs.Certificate.{nonterminal_part}
use Rattle.grammar_certificate.proofs.predictions.nonterminal_part.Given as goal

abbrev pub invariant-loop-j : goal.invariant-loop-j
invariant-loop-j l = nonterminal_part l.certificate l.a l.productions ≡ nonterminal_part l.certificate l.a (drop l.j l.productions)
