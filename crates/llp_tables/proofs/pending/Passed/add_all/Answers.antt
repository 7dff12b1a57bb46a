use Rattle.std.proofs.Common.{Some, ap, sym, ◌∙◌, arith}
use Rattle.std.proofs.lemmas.Option.{slice_get-get_or}
use Rattle.grammar_file.specs.declared.symbols.Symbol.TheVariants.{Nonterminal}
use Rattle.llp_tables.specs.Forced.{Passes}
use Rattle.llp_tables.proofs.PlaceAdds.{rules_none, rules_on, rules_end}
use Rattle.llp_tables.proofs.pending.Passed.add_all.Goals as goal

pub loop-i-init : goal.loop-i-init
loop-i-init c = rules_none (Passes c.args.self.now.nullable.now (Nonterminal c.args.self.now.a) c.args.self.now.below.now) c.args.productions.now c.args.pending.now.items

pub loop-i-preserved : goal.loop-i-preserved
loop-i-preserved c =
    let is = slice_get-get_or c.args.productions.now c.loop-i.i c.index-productions-i.result c.loop-i-test.true ∙ ap Some (sym c.index-productions-i.is) in
    rules_on (Passes c.args.self.now.nullable.now (Nonterminal c.args.self.now.a) c.args.self.now.below.now) c.args.productions.now c.loop-i.i c.index-productions-i.result c.args.pending.now.items c.loop-i.pending.items c.add_of.new.pending.items is c.loop-i.invariant c.in_ok-add_of.ensures

pub returns : goal.returns
returns c = rules_end (Passes c.args.self.now.nullable.now (Nonterminal c.args.self.now.a) c.args.self.now.below.now) c.args.productions.now c.loop-i.i c.args.pending.now.items c.loop-i.pending.items (let e = c.loop-i-test.false in omega arith) c.loop-i.invariant
