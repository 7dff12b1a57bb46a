use Rattle.std.proofs.Common.{◌≡◌, drop}
use Rattle.std.specs.List.{list_all}
use Rattle.llp_tables.specs.Certificate.{after_in}
use Rattle.grammar_certificate.specs.Checks.{agree}
use Rattle.grammar_certificate.proofs.terminals.side_agrees.Given as goal

abbrev pub invariant-loop-k : goal.invariant-loop-k
invariant-loop-k l = list_all (agree l.e) (after_in l.certificate l.i 0 l.a l.right) ≡ list_all (agree l.e) (after_in l.certificate l.i l.k l.a (drop l.k l.right))
