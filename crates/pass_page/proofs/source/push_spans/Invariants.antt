use Rattle.std.proofs.Common.{◌≡◌, ◌++◌, drop}
use Rattle.pass_page.specs.Page.{spans}
use Rattle.pass_page.proofs.source.push_spans.Given as goal

abbrev pub invariant-loop-k : goal.invariant-loop-k
invariant-loop-k l = l.out.items ++ spans l.text l.place (drop l.k l.tokens) ≡ l.initial.out.items ++ spans l.text 0 l.tokens
