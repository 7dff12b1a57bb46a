use Rattle.std.proofs.Common.{◌≡◌, drop}
use Rattle.llp_tables.specs.Certificate.{beginnings, within}
use Rattle.grammar_certificate.proofs.productions.beginnings_within.Given as goal

abbrev pub invariant-loop-i : goal.invariant-loop-i
invariant-loop-i l = within (beginnings l.certificate l.form) l.set ≡ within (beginnings l.certificate (drop l.i l.form)) l.set
