use Rattle.std.proofs.Common.{◌≡◌, ◌∙◌, ℕ, List, sym, ap, subst, arith}
use Rattle.grammar_file.specs.declared.symbols.Symbol.{Symbol}
use Rattle.llp_tables.specs.Lookback.{IsPiece}
use Rattle.llp_tables.specs.Laws.LookbackBounds.{lookback_in_range}
use Rattle.llp_wide.specs.WideLookbacks.{ClosedStack}
use Rattle.llp_wide.proofs.StackPieceLists.{piece_alone}
use Rattle.llp_wide.proofs.pieces.piece_of.Goals as goal

pub returns : goal.returns
returns c =
    let g = c.args.grammar.now in
    let opens = c.in_ok-opens.opens.items in
    let productions = c.add_piece.new.productions.items in
    let made = piece_alone g c.stack.inside.ahead c.as_slice-closes.result.now opens c.in_ok-productions.productions.items productions c.in_ok-productions.ensures.items c.in_ok-opens.ensures in
    let ahead : c.stack.inside.ahead ≡ c.args.stack.now.ahead = ap (λ (s : ClosedStack). s.ahead) c.stack.view_is in
    let kept : c.in_ok-closes.closes.items ≡ c.as_slice-closes.result.now = c.in_ok-closes.ensures.items in
    record {
      closes_are = kept ∙ (c.as_slice-closes.ensures.value ∙ ap (λ (s : ClosedStack). s.closes) c.stack.view_is);
      piece =
          subst (λ (b : ℕ). IsPiece g b c.in_ok-closes.closes.items opens productions) ahead
          (subst (λ (closes : List Symbol). IsPiece g c.stack.inside.ahead closes opens productions) (sym kept) made);
    }

pub column-column-requires : goal.column-column-requires
column-column-requires c =
    let ahead : c.stack.inside.ahead ≡ c.args.stack.now.ahead = ap (λ (s : ClosedStack). s.ahead) c.stack.view_is in
    let within = (lookback_in_range c.args.grammar.now c.requires.well_formed c.requires.closed.0 c.args.stack.now.ahead c.args.stack.now.closes c.requires.closed.1).1 in
    let width = c.requires.table.width in
    omega arith
