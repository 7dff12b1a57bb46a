use Rattle.std.proofs.Common.{◌≡◌, ℕ, suc, [], ◌∷◌, ◌++◌, length, Some, sym, ap, ◌∙◌, subst, arith}
use Rattle.std.proofs.lemmas.List.{append_assoc, length-append}
use Rattle.std.proofs.lemmas.Option.{slice_get-get_or, slice_get_within}
use Rattle.scan_lookback.specs.Laws.Assembling.{next_stands}
use Rattle.source_meaning.specs.Grammar.{leaves, left_parse}
use Rattle.row_pieces.specs.Pieces.{no_row}
use Rattle.row_columns.specs.Stretches.{AreStretch}
use Rattle.tree_passes.proofs.Appended.{AreColumnsBefore, columns_alone, columns_next}
use Rattle.tree_passes.proofs.Stretched.{rows_before, rows_whole}
use Rattle.tree_passes.proofs.walked.join_columns.Goals as goal

pub loop-part-preserved : goal.loop-part-preserved
loop-part-preserved c =
    let text = c.args.source.now.text.now in
    let numbers = c.args.source.now.numbers.now in
    let ends = c.args.ends.now in
    let ys = c.loop-part.yielded in
    let part = c.in-Some.part in
    let rest = c.next.new.self.rest.items in
    let is : ys ++ part ∷ rest ≡ c.args.parts.items = sym (ap (λ l. ys ++ l) c.in-Some.ensures.steps.0) ∙ c.loop-part.invariant.0 in
    let at = next_stands c.args.parts.items ys part rest is in
    let there = slice_get_within c.args.parts.items (length ys) part at in
    let many = c.requires.many in
    let more : suc (length ys) ≡ length (ys ++ part ∷ []) = (let n = length-append ys (part ∷ []) in omega arith) in (
      append_assoc ys (part ∷ []) rest ∙ is,
      subst (λ (n : ℕ). AreColumnsBefore text numbers ends n c.append.new.all.kinds.items c.append.new.all.lows.items c.append.new.all.tokens.items) more
          (columns_next text numbers ends c.requires.cut (length ys) (omega arith) c.loop-part.all.kinds.items part.kinds.items c.append.new.all.kinds.items c.loop-part.all.lows.items part.lows.items c.append.new.all.lows.items c.loop-part.all.tokens.items part.tokens.items c.append.new.all.tokens.items
          c.loop-part.invariant.1 (c.requires.each (length ys) part at) c.in_ok-append.ensures.kinds c.in_ok-append.ensures.lows c.in_ok-append.ensures.tokens),
    )

pub returns-then-len-eq1 : goal.returns-then-len-eq1
returns-then-len-eq1 c =
    let a = c.len.ensures in
    let b = c.if-len-eq1.true in
    let m = c.requires.many in
    let one : length c.args.parts.items ≡ 1 = omega arith in
    let part = c.swap_remove.result in
    let at = slice_get-get_or c.args.parts.items 0 part (omega arith) ∙ ap Some (sym c.swap_remove.ensures.value) in
    columns_alone c.args.source.now.text.now c.args.source.now.numbers.now c.args.ends.now c.requires.cut (omega arith) part.kinds.items part.lows.items part.tokens.items (c.requires.each 0 part at)

pub returns : goal.returns
returns c = λ r is.
    let numbers = c.args.source.now.numbers.now in
    let ends = c.args.ends.now in
    let ys = c.loop-part.yielded in
    let rest = c.loop-part.part-iterator.rest in
    let a = length-append ys rest.items in
    let b = ap length c.loop-part.invariant.0 in
    let o = rest.ok.0 in
    let n = c.in-None.ensures.steps.0 in
    let m = c.requires.many in
    let all : length ys ≡ length ends = omega arith in
    subst (λ ms. AreStretch (left_parse r) (leaves r) 0 no_row ms c.loop-part.all.kinds.items c.loop-part.all.lows.items c.loop-part.all.tokens.items) (ap (rows_before numbers ends) all ∙ rows_whole numbers ends c.requires.cut r is.1) (c.loop-part.invariant.1 r is)
