use Rattle.std.proofs.Common.{subst}
use Rattle.llp_tables.proofs.Reading.{IsReading, reading_start, reading_predicted, reading_on, reading_end}
use Rattle.llp_tables.proofs.pieces.LookAhead.read_terminal.Goals as goal

pub loop-a-init : goal.loop-a-init
loop-a-init c = reading_start c.args.self.now.grammar.now c.args.self.now.b c.args.unread.now c.args.productions.now.items c.requires.readable

pub predicted-p-requires : goal.predicted-p-requires
predicted-p-requires c =
    let g = c.args.self.now.grammar.now in
    let before = c.args.productions.now.items in
    let after = c.loop-a.productions.items in
    let h = subst (λ s. IsReading g c.args.self.now.b c.args.unread.now s before after) c.in-Some.ensures c.loop-a.invariant in
    reading_predicted g c.args.self.now.b c.args.unread.now before after c.in-Some.a c.take_nonterminal.new.self h c.args.self.now.predictions.now c.requires.predictions

pub loop-a-preserved : goal.loop-a-preserved
loop-a-preserved c =
    let g = c.args.self.now.grammar.now in
    let before = c.args.productions.now.items in
    let after = c.loop-a.productions.items in
    let h = subst (λ s. IsReading g c.args.self.now.b c.args.unread.now s before after) c.in-Some.ensures c.loop-a.invariant in
    reading_on g c.args.self.now.b c.args.unread.now before after c.in-Some.a c.take_nonterminal.new.self h c.args.self.now.predictions.now c.requires.predictions
    c.requires.ll1 c.predicted-p.result c.predicted-p.ensures c.right_of.result.now c.put.new.self c.push.new.self.items c.right_of.ensures c.in_ok-put.ensures c.in_ok-push.ensures.items

pub returns : goal.returns
returns c =
    reading_end c.args.self.now.grammar.now c.args.self.now.b c.args.unread.now c.loop-a.unread c.take_nonterminal.new.self c.args.productions.now.items c.loop-a.productions.items c.loop-a.invariant c.in_default.ensures
