use Rattle.std.proofs.Common.{◌⊎◌, inl, inr, List, [], ◌∷◌, length, subst}
use Rattle.grammar_file.specs.declared.symbols.Symbol.{Symbol}
use Rattle.grammar_file.specs.declared.symbols.Symbol.TheVariants.{Terminal, Nonterminal}
use Rattle.grammar_file.specs.Grammar.{begin_mark, end_mark}
use Rattle.grammar_file.specs.Drive.{first_stack}
use Rattle.llp_wide.specs.Added.{Adds, SomeBelow}
use Rattle.llp_wide.specs.Claims.{Claim, IsStopIn, IsStopOf, IsFirstClaim}
use Rattle.llp_wide.proofs.Additions.{adds_then}
use Rattle.llp_wide.proofs.claims.Ground.first_waiting.Goals as goal

pub returns : goal.returns
returns c =
    let g = c.args.self.now.grammar.now in
    let n = c.args.self.now.nullable.now in
    let f = c.args.self.now.first.now in
    let b = c.args.self.now.b in
    let one : Adds (IsStopIn n f b (first_stack g) begin_mark (Terminal begin_mark)) [] c.add_stops.new.waiting.items =
    subst (λ (t : Symbol × List Claim). Adds (IsStopIn n f b (Nonterminal 0 ∷ t.0 ∷ []) begin_mark (Terminal begin_mark)) t.1 c.add_stops.new.waiting.items) (λ i. (c.end_mark.ensures i, c.new-waiting.ensures.items i)) c.in_ok-add_stops.ensures in
    let two : Adds (IsStopIn n f b (Terminal (end_mark g) ∷ []) begin_mark (Nonterminal 0)) c.add_stops.new.waiting.items c.add_stops-2.new.waiting.items =
    subst (λ (t : Symbol). Adds (IsStopIn n f b (t ∷ []) begin_mark (Nonterminal 0)) c.add_stops.new.waiting.items c.add_stops-2.new.waiting.items) c.end_mark-2.ensures c.in_ok-add_stops-2.ensures in
    let text : Claim → Type 0 = λ x. IsStopIn n f b (first_stack g) begin_mark (Terminal begin_mark) x ⊎ IsStopIn n f b (Terminal (end_mark g) ∷ []) begin_mark (Nonterminal 0) x in
    let both : Adds text [] c.add_stops-2.new.waiting.items =
    adds_then (IsStopIn n f b (first_stack g) begin_mark (Terminal begin_mark)) (IsStopIn n f b (Terminal (end_mark g) ∷ []) begin_mark (Nonterminal 0)) text [] c.add_stops.new.waiting.items c.add_stops-2.new.waiting.items
    (λ x h. inl h) (λ x h. inr h) (λ x h. h) one two in
    adds_then text (SomeBelow (length c.args.self.now.groups.now) (IsStopOf n f b c.args.self.now.groups.now)) (IsFirstClaim n f b g c.args.self.now.groups.now) [] c.add_stops-2.new.waiting.items c.add_all_stops.new.waiting.items
    (λ x h. inl h) (λ x h. inr h) (λ x h. h) both c.in_ok-add_all_stops.ensures
