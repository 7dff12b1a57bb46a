use Rattle.std.proofs.Common.{◌≡◌, drop}
use Rattle.llp_tables.specs.Certificate.{rank_falls}
use Rattle.grammar_certificate.proofs.productions.rank_falls.Given as goal

abbrev pub invariant-loop-i : goal.invariant-loop-i
invariant-loop-i l = rank_falls l.certificate l.left l.form ≡ rank_falls l.certificate l.left (drop l.i l.form)
