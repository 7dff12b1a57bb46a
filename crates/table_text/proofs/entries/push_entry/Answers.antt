use Rattle.std.proofs.Common.{◌≡◌, ◌∙◌, ℕ, List, [], ◌∷◌, ◌++◌, Option, Some, None, map, sym, ap, subst, append-nil}
use Rattle.grammar_file.specs.declared.symbols.Symbol.{Symbol}
use Rattle.grammar_file.specs.declared.symbols.Symbol.TheVariants.{Terminal}
use Rattle.grammar_file.specs.Grammar.{Grammar}
use Rattle.llp_tables.specs.FaultLines.{stack_text}
use Rattle.llp_tables.specs.Lookback.{IsLookback, IsPiece}
use Rattle.llp_tables.specs.Tables.{Entry}
use Rattle.glue_summary.specs.declared.behind.Behind.{Behind}
use Rattle.table_text.specs.Entries.{entry_line, entry_text, spaced_names}
use Rattle.table_text.specs.Listed.{looked_back}
use Rattle.table_text.specs.declared.lookback.Sets.{Sets}
use Rattle.table_text.proofs.Listing.{four_onto, made_entry, no_entry}
use Rattle.table_text.proofs.entries.push_entry.Goals as goal

pub piece_of-requires-clause-member : goal.piece_of-requires-clause-member
piece_of-requires-clause-member c =
    (c.args.behind.last, c.requires.outlines.members.some c.args.behind.before_last c.args.behind.last c.args.b c.in-Some.closes.now c.in-Some.ensures)

pub returns-in_default : goal.returns-in_default
returns-in_default c = λ e has.
    let g : Grammar = c.args.maker.now.grammar.now in
    let s : Sets = c.args.maker.now.outlines.now.sets in
    let is : e ≡ None = no_entry g c.requires.outlines.members.ll1 c.args.behind c.args.b s c.requires.outlines.sets c.in_default.ensures e has in
    sym (append-nil c.args.text.now.items) ∙ ap (λ (x : Option Entry). c.args.text.now.items ++ entry_line g (looked_back s c.args.behind) c.args.b x) (sym is)

pub returns : goal.returns
returns c = λ e has.
    let g : Grammar = c.args.maker.now.grammar.now in
    let s : Sets = c.args.maker.now.outlines.now.sets in
    let k : Behind = c.args.behind in
    let b : ℕ = c.args.b in
    let closes : List Symbol = c.in-Some.closes.now in
    let member : IsLookback g k.last b closes = c.requires.outlines.members.some k.before_last k.last b closes c.in-Some.ensures in
    let piece : IsPiece g b closes c.as_slice.result.now c.as_slice-2.result.now =
    subst (λ (t : List Symbol × List ℕ). IsPiece g b closes t.0 t.1) (λ i. (sym c.as_slice.ensures.value i, sym c.as_slice-2.ensures.value i)) c.in_ok-piece.ensures in
    let made : Entry = record { closes = closes; opens = c.as_slice.result.now; productions = c.as_slice-2.result.now } in
    let is : e ≡ Some made = made_entry g c.requires.outlines.members.ll1 k b s c.requires.outlines.sets made c.in-Some.ensures member piece e has in
    four_onto (stack_text g (map Terminal (looked_back s k))) (spaced_names g (Terminal b ∷ [])) (entry_text g made) (10 ∷ []) c.args.text.now.items _ _ _ _
    c.in_ok-push_look_back.ensures c.in_ok-push_names.ensures c.in_ok-push_entry_text.ensures c.in_ok-push.ensures.items
    ∙ ap (λ (x : Option Entry). c.args.text.now.items ++ entry_line g (looked_back s k) b x) (sym is)
