use Rattle.std.proofs.Common.{◌≡◌, ◌<◌, List, ◌∷◌, ap, sym, subst, refl, ◌∙◌}
use Rattle.par_lexer.specs.declared.pieces.Piece.{Piece}
use Rattle.par_lexer.specs.PieceRows.{first_fault, Awaits}
use Rattle.par_lexer.specs.Places.{told_behind}
use Rattle.par_lexer.proofs.Running.{bytes_of}
use Rattle.par_lexer.proofs.Beginning.{before_below}
use Rattle.par_lexer.proofs.Stretching.{reached_first}
use Rattle.par_lexer.proofs.Firsts.{fault_first, fault_later}
use Rattle.par_lexer.proofs.Joining.{no_tokens, tokens_up_to}
use Rattle.par_lexer.proofs.Leading.{leads_from, leads_begun}
use Rattle.par_lexer.proofs.stretch.tell.Goals as goal

pub next_begin-place-requires-clause-state : goal.next_begin-place-requires-clause-state
next_begin-place-requires-clause-state c = subst (λ s. s < 16) (sym c.requires.state) (before_below c.args.text.now (bytes_of c.args.text.now c.type_inv.text) c.args.point.now.place)

pub loop-piece-init : goal.loop-piece-init
loop-piece-init c =
    let text = c.args.text.now in
    let bytes = bytes_of text c.type_inv.text in
    let from = c.args.point.now.place in
    let first = reached_first text bytes from c.args.to c.requires.places.0 c.requires.places.1 c.args.point.now.state c.next_begin-place.result c.requires.state c.next_begin-place.ensures in
    record {
      reached = first.0;
      tokens = no_tokens text from c.next_begin-place.result c.new-columns.result first.1 c.new-columns.ensures;
      leads = leads_from text bytes from c.args.to c.args.point.now.state c.requires.places.0 c.requires.state;
    }

pub loop-piece-preserved : goal.loop-piece-preserved
loop-piece-preserved c =
    let text = c.args.text.now in
    let whole : List Piece = told_behind text c.args.point.now.place in
    let rest : List Piece = told_behind text c.next_told.new.place in
    let some : told_behind text c.loop-piece.place ≡ c.in-Some.piece ∷ rest = c.in-Some.ensures.some c.in-Some.piece refl in
    let begun = c.in-Some.ensures.begun c.in-Some.piece refl in
    record {
      reached = c.in-Some.ensures.reached;
      tokens = record {
        columns = c.in_ok-push.ensures whole rest (subst (Awaits _ _ _ whole) some c.loop-piece.invariant.tokens.columns);
        faultless = c.loop-piece.invariant.tokens.faultless ∙ (ap first_fault some ∙ fault_later c.in-Some.piece rest c.in_default-fault.ensures);
      };
      leads = leads_begun text (bytes_of text c.type_inv.text) c.in-Some.piece.start c.args.to _ begun.0 c.requires.places.1 begun.1 c.from-point.ensures;
    }

pub returns-in-Some-fault-clause-told : goal.returns-in-Some-fault-clause-told
returns-in-Some-fault-clause-told c =
    c.loop-piece.invariant.tokens.faultless
    ∙ (ap first_fault (c.in-Some.ensures.some c.in-Some.piece refl)
    ∙ fault_first c.in-Some.piece (told_behind c.args.text.now c.next_told.new.place) _ c.in-Some-fault.ensures)

pub returns-in-Some-fault-clause-behind : goal.returns-in-Some-fault-clause-behind
returns-in-Some-fault-clause-behind c =
    let text = c.args.text.now in
    let begun = c.in-Some.ensures.begun c.in-Some.piece refl in
    leads_begun text (bytes_of text c.type_inv.text) c.in-Some.piece.start c.args.to _ begun.0 c.requires.places.1 begun.1 c.from-point.ensures

pub returns-clause-told : goal.returns-clause-told
returns-clause-told c = tokens_up_to c.args.text.now c.args.point.now.place c.loop-piece.place c.args.to c.loop-piece.columns (c.in_default.ensures.none refl) c.loop-piece.invariant.tokens
