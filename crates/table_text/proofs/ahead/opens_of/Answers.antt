use Rattle.std.proofs.Common.{◌∙◌, ◌++◌, List, sym, ap, subst}
use Rattle.grammar_file.specs.declared.symbols.Symbol.{Symbol}
use Rattle.table_text.specs.Ahead.{IsLeftBy}
use Rattle.table_text.proofs.Leaving.{leads_on, leads_nowhere, leads_home}
use Rattle.table_text.proofs.ahead.opens_of.Goals as goal

pub returns-in_default-predicted : goal.returns-in_default-predicted
returns-in_default-predicted c =
    leads_nowhere c.args.grammar.now c.args.first.now c.args.predictions.now c.args.nonterminal c.loop-a.unread c.loop-a.invariant c.in-Some.a c.take_marked.new.self c.left.result c.in-Some.ensures c.in_default-predicted.ensures

pub loop-a-preserved : goal.loop-a-preserved
loop-a-preserved c =
    let p = c.in-Some-predicted.ensures in
    leads_on c.args.grammar.now c.args.first.now c.args.predictions.now c.args.nonterminal c.loop-a.unread c.loop-a.invariant c.in-Some.a p.0 c.in-Some-predicted.rule.now c.take_marked.new.self c.put-in-Some.new.self c.in-Some.ensures p.1 p.2
    (c.in_ok-put-2.ensures ∙ ap (λ (r : List Symbol). r ++ c.take_marked.new.self) c.right.ensures)

pub returns : goal.returns
returns c =
    subst (IsLeftBy c.args.grammar.now c.args.first.now c.args.predictions.now c.args.nonterminal) (sym c.left-2.ensures)
    (leads_home c.args.grammar.now c.args.first.now c.args.predictions.now c.args.nonterminal c.loop-a.unread c.loop-a.invariant c.take_marked.new.self c.in_default.ensures)
