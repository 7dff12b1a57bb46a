use Rattle.std.proofs.Common.{[], ◌∷◌, length, subst}
use Rattle.grammar_file.specs.declared.symbols.Symbol.TheVariants.{Terminal, Nonterminal}
use Rattle.llp_tables.specs.Forced.{Forces, IsForced, IsForcedBy, IsForcedByRules, no_strings}
use Rattle.llp_tables.specs.Slots.{Empty}
use Rattle.llp_tables.specs.Waiting.{Adds}
use Rattle.llp_tables.proofs.PlaceAdds.{all_added}
use Rattle.llp_tables.proofs.pending.Search.first_pending.Goals as goal

pub returns : goal.returns
returns c =
    let nullable = c.args.self.now.nullable.now in
    let first = c.args.self.now.first.now in
    let next = c.add_stops_in.new.pending.items in
    all_added nullable first c.args.self.now.b c.args.self.now.grammar.now [] next c.add_stops_of.new.pending.items
    (subst (λ x. Adds (IsForcedBy (IsForced nullable first c.args.self.now.b Empty) (Terminal 0 ∷ Nonterminal 0 ∷ x ∷ []) 3) [] next) c.end_mark.ensures
    (subst (λ old. Adds (IsForcedBy (IsForced nullable first c.args.self.now.b Empty) (Terminal 0 ∷ Nonterminal 0 ∷ c.end_mark.result ∷ []) 3) old next) c.new-pending.ensures.items c.in_ok-add_stops_in.ensures))
    (subst (λ ps. Adds (IsForcedByRules (Forces nullable first c.args.self.now.b no_strings) ps (length ps)) next c.add_stops_of.new.pending.items) c.productions.ensures.rules c.in_ok-add_stops_of.ensures)
