use Rattle.std.proofs.Common.{◌≡◌, ◌+◌, drop}
use Rattle.llp_tables.specs.Certificate.{productions_from}
use Rattle.grammar_certificate.proofs.check.productions_pass.Given as goal

abbrev pub invariant-loop-p : goal.invariant-loop-p
invariant-loop-p l = productions_from l.certificate 1 l.productions ≡ productions_from l.certificate (l.p + 1) (drop l.p l.productions)
