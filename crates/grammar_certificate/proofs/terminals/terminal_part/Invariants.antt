use Rattle.std.proofs.Common.{◌≡◌, ◌+◌, drop, map}
use Rattle.std.specs.List.{list_all}
use Rattle.llp_tables.specs.Certificate.{after_all, right_sides}
use Rattle.grammar_certificate.specs.Checks.{agrees_after}
use Rattle.grammar_certificate.proofs.terminals.terminal_part.Given as goal

abbrev pub invariant-loop-p : goal.invariant-loop-p
invariant-loop-p l = list_all (agrees_after l.certificate l.grammar l.a) (after_all l.certificate 0 l.a (right_sides l.grammar)) ≡ list_all (agrees_after l.certificate l.grammar l.a) (after_all l.certificate (l.p + 1) l.a (map (λ r. r.right) (drop l.p l.grammar.productions)))
