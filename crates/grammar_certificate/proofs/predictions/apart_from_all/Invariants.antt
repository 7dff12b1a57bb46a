use Rattle.std.proofs.Common.{◌≡◌, drop}
use Rattle.llp_tables.specs.Certificate.{apart_from_all, predicts}
use Rattle.grammar_certificate.proofs.predictions.apart_from_all.Given as goal

abbrev pub invariant-loop-j : goal.invariant-loop-j
invariant-loop-j l = apart_from_all l.certificate (predicts l.certificate l.r) l.a l.others ≡ apart_from_all l.certificate (predicts l.certificate l.r) l.a (drop l.j l.others)
