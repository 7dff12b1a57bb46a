use Rattle.std.proofs.Common.{◌≡◌, ◌∙◌, ◌<◌, List, [], ◌∷◌, Some, length, slice_get, sym, ap, subst, arith, length-append}
use Rattle.std.proofs.lemmas.Option.{slice_get-get_or}
use Rattle.llp_tables.specs.Tables.{Entry}
use Rattle.llp_wide.specs.StackPieces.{AreMadeFor}
use Rattle.llp_wide.proofs.StackPieceLists.{made_more}
use Rattle.llp_wide.proofs.pieces.pieces_of.Goals as goal

pub piece_of-requires-clause-closed : goal.piece_of-requires-clause-closed
piece_of-requires-clause-closed c =
    let stacks = c.args.stacks.now in
    let test = c.loop-n-test.true in
    let within : c.loop-n.n < length stacks = omega arith in
    c.requires.closed c.loop-n.n c.index-stacks-n.result (slice_get-get_or stacks c.loop-n.n c.index-stacks-n.result within ∙ ap Some (sym c.index-stacks-n.is))

pub loop-n-preserved : goal.loop-n-preserved
loop-n-preserved c =
    let g = c.args.grammar.now in
    let stacks = c.args.stacks.now in
    let es : List Entry = c.loop-n.pieces.items in
    let e : Entry = c.in_ok-piece_of.field-0 in
    let stack = c.index-stacks-n.result in
    let test = c.loop-n-test.true in
    let within : c.loop-n.n < length stacks = omega arith in
    let len : length es ≡ c.loop-n.n = c.loop-n.invariant.len in
    let at : slice_get stacks (length es) ≡ Some stack = ap (slice_get stacks) len ∙ (slice_get-get_or stacks c.loop-n.n stack within ∙ ap Some (sym c.index-stacks-n.is)) in
    let pushed = ap length c.in_ok-push.ensures.items in
    let more = length-append es (e ∷ []) in
    record {
      made = subst (AreMadeFor g stacks) (sym c.in_ok-push.ensures.items) (made_more g stacks es stack e c.loop-n.invariant.made at c.in_ok-piece_of.ensures);
      len = omega (arith, pushed, more, len);
    }
