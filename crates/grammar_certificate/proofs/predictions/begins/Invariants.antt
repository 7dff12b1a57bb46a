use Rattle.std.proofs.Common.{◌≡◌, drop}
use Rattle.llp_tables.specs.Certificate.{beginnings, has}
use Rattle.grammar_certificate.proofs.predictions.begins.Given as goal

abbrev pub invariant-loop-i : goal.invariant-loop-i
invariant-loop-i l = has (beginnings l.certificate l.form) l.b ≡ has (beginnings l.certificate (drop l.i l.form)) l.b
