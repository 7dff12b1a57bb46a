use Rattle.std.proofs.Common.{◌≡◌, ℕ, suc, ◌-◌, ◌<◌, [], ◌∷◌, ◌++◌, length, Some, sym, ap, ◌∙◌, arith}
use Rattle.std.proofs.lemmas.List.{append_assoc, length-append}
use Rattle.std.proofs.lemmas.Option.{slice_get-get_or, slice_get_within}
use Rattle.list_cuts.specs.Cuts.{number_at, start_of}
use Rattle.name_pass.specs.RowKeys.{keys_from}
use Rattle.name_pass.proofs.Counting.{keys_next}
use Rattle.name_pass.proofs.Ranged.{next_stands}
use Rattle.name_pass.proofs.declared.join_keys.Goals as goal

pub loop-part-preserved : goal.loop-part-preserved
loop-part-preserved c =
    let input = c.args.input.now in
    let ends = c.args.ends.now in
    let ys = c.loop-part.yielded in
    let part = c.in-Some.part in
    let rest = c.next.new.self.rest.items in
    let is : ys ++ part ∷ rest ≡ c.args.parts.items = sym (ap (λ l. ys ++ l) c.in-Some.ensures.steps.0) ∙ c.loop-part.invariant.0 in
    let at = next_stands c.args.parts.items ys part rest is in
    let there = slice_get_within c.args.parts.items (length ys) part at in
    let many = c.requires.many in
    let inside : length ys < length ends = omega arith in
    let more : suc (length ys) ≡ length (ys ++ part ∷ []) = (let n = length-append ys (part ∷ []) in omega arith) in (
      append_assoc ys (part ∷ []) rest ∙ is,
      keys_next input.text input.tokens.now input.rows.now (start_of ends (length ys)) (number_at ends (length ys)) c.loop-part.keys.items part.keys.items c.extend_from_slice.new.self.items part.tally
          (c.requires.cuts.order (length ys) inside) c.loop-part.invariant.1 (c.requires.each (length ys) part at) (c.in_ok-extend_from_slice.ensures.items ∙ ap (λ l. c.loop-part.keys.items ++ l) c.as_slice.ensures.value)
          ∙ ap (λ (n : ℕ). keys_from input.text input.tokens.now input.rows.now 0 (start_of ends n)) more,
    )

pub returns-then-len-eq1 : goal.returns-then-len-eq1
returns-then-len-eq1 c =
    let input = c.args.input.now in
    let ends = c.args.ends.now in
    let a = c.len.ensures in
    let b = c.if-len-eq1.true in
    let m = c.requires.many in
    let one : length c.args.parts.items ≡ 1 = omega arith in
    let alone : 1 ≡ length ends = omega arith in
    let part = c.swap_remove-part.result in
    let at = slice_get-get_or c.args.parts.items 0 part (omega arith) ∙ ap Some (sym c.swap_remove-part.ensures.value) in
    let whole : number_at ends 0 ≡ length input.rows.now = ap (start_of ends) alone ∙ c.requires.cuts.all in
    (c.requires.each 0 part at).keys_are ∙ ap (keys_from input.text input.tokens.now input.rows.now 0) (let e : number_at ends 0 - 0 ≡ length input.rows.now = omega arith in e)

pub returns : goal.returns
returns c =
    let input = c.args.input.now in
    let ends = c.args.ends.now in
    let ys = c.loop-part.yielded in
    let rest = c.loop-part.part-iterator.rest in
    let a = length-append ys rest.items in
    let b = ap length c.loop-part.invariant.0 in
    let o = rest.ok.0 in
    let n = c.in-None.ensures.steps.0 in
    let m = c.requires.many in
    let all : length ys ≡ length ends = omega arith in
    c.loop-part.invariant.1 ∙ ap (keys_from input.text input.tokens.now input.rows.now 0) (ap (start_of ends) all ∙ c.requires.cuts.all)
