use Rattle.std.proofs.Common.{◌≡◌, drop}
use Rattle.llp_tables.specs.Certificate.{part_from}
use Rattle.grammar_certificate.proofs.productions.places_pass.Given as goal

abbrev pub invariant-loop-k : goal.invariant-loop-k
invariant-loop-k l = part_from l.certificate l.i 0 l.left l.right ≡ part_from l.certificate l.i l.k l.left (drop l.k l.right)
