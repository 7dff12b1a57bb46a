use Rattle.std.proofs.Common.{◌≡◌, drop}
use Rattle.llp_tables.specs.Certificate.{all_empty}
use Rattle.grammar_certificate.proofs.productions.all_empty.Given as goal

abbrev pub invariant-loop-i : goal.invariant-loop-i
invariant-loop-i l = all_empty l.certificate l.form ≡ all_empty l.certificate (drop l.i l.form)
