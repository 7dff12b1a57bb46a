use Rattle.std.proofs.Common.{◌++◌, ◌∷◌, [], List, length, ap, ◌∙◌}
use Rattle.grammar_file.specs.declared.symbols.Symbol.{Symbol}
use Rattle.grammar_file.specs.declared.symbols.Symbol.TheVariants.{Nonterminal}
use Rattle.llp_wide.proofs.SpotLists.{gathering_added}
use Rattle.llp_wide.proofs.places.Collector.add_gathering.Goals as goal

pub returns : goal.returns
returns c =
    let e = c.args.self.now.owner in
    let all = c.args.self.now.all.now in
    gathering_added [] all e c.args.places.now.items c.push.new.self.items c.if-owner-self.false
    (c.in_ok-push.ensures.items ∙ ap (λ (w : List Symbol). c.args.places.now.items ++ (record { before = length all; symbol = Nonterminal e.nonterminal; owner = e; after = w }) ∷ []) c.new.ensures.items)
