use Rattle.std.proofs.Common.{◌≡◌, drop}
use Rattle.std.specs.List.{list_all}
use Rattle.llp_tables.specs.Certificate.{after_in}
use Rattle.grammar_certificate.specs.Checks.{agrees_after}
use Rattle.grammar_certificate.proofs.terminals.side_passes.Given as goal

abbrev pub invariant-loop-k : goal.invariant-loop-k
invariant-loop-k l = list_all (agrees_after l.certificate l.grammar l.a) (after_in l.certificate l.i 0 l.a l.right) ≡ list_all (agrees_after l.certificate l.grammar l.a) (after_in l.certificate l.i l.k l.a (drop l.k l.right))
