use Rattle.std.proofs.Common.{◌≡◌, drop}
use Rattle.std.specs.List.{list_all}
use Rattle.llp_tables.specs.Certificate.{beginnings}
use Rattle.grammar_certificate.specs.Checks.{is_not_predicted}
use Rattle.grammar_certificate.proofs.predictions.beginnings_predict_none.Given as goal

abbrev pub invariant-loop-i : goal.invariant-loop-i
invariant-loop-i l = list_all (is_not_predicted l.certificate l.q) (beginnings l.certificate l.form) ≡ list_all (is_not_predicted l.certificate l.q) (beginnings l.certificate (drop l.i l.form))
