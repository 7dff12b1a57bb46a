use Rattle.std.proofs.Common.{◌≡◌, ap, refl, sym, ◌∙◌}
use Rattle.grammar_file.specs.declared.symbols.Symbol.TheVariants.{Nonterminal}
use Rattle.llp_wide.specs.Places.{Spot}
use Rattle.llp_wide.proofs.survey.enter_place.Goals as goal

pub enter-requires-clause-nonterminal : goal.enter-requires-clause-nonterminal
enter-requires-clause-nonterminal c =
    let symbol_is : c.args.place.now.symbol ≡ Nonterminal c.in-Nonterminal.nonterminal = sym (ap (λ (s : Spot). s.symbol) c.place.view_is) ∙ c.in-Nonterminal.is in
    (c.requires (record { before = c.args.place.now.before; nonterminal = c.in-Nonterminal.nonterminal }) (symbol_is, refl)).0

pub enter-requires-clause-within : goal.enter-requires-clause-within
enter-requires-clause-within c =
    let symbol_is : c.args.place.now.symbol ≡ Nonterminal c.in-Nonterminal.nonterminal = sym (ap (λ (s : Spot). s.symbol) c.place.view_is) ∙ c.in-Nonterminal.is in
    (c.requires (record { before = c.place.inside.before; nonterminal = c.in-Nonterminal.nonterminal }) (symbol_is, sym (ap (λ (s : Spot). s.before) c.place.view_is))).1
