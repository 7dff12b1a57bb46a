use Rattle.std.proofs.Common.{◌≡◌, ℕ, suc, ◌<◌, [], ◌∷◌, ◌++◌, length, Some, sym, ap, ◌∙◌, subst, arith}
use Rattle.std.proofs.lemmas.List.{append_assoc, length-append}
use Rattle.std.proofs.lemmas.Option.{slice_get-get_or, slice_get_within}
use Rattle.list_cuts.specs.Cuts.{number_at, start_of}
use Rattle.name_pass.specs.Found.{AreFound}
use Rattle.name_pass.proofs.Passing.{found_next}
use Rattle.name_pass.proofs.Ranged.{next_stands}
use Rattle.name_pass.proofs.found.join_found.Goals as goal

pub loop-part-preserved : goal.loop-part-preserved
loop-part-preserved c =
    let s = c.args.scopes.now in
    let ends = c.args.ends.now in
    let ys = c.loop-part.yielded in
    let part = c.in-Some.part in
    let rest = c.next.new.self.rest.items in
    let is : ys ++ part ∷ rest ≡ c.args.parts.items = sym (ap (λ l. ys ++ l) c.in-Some.ensures.steps.0) ∙ c.loop-part.invariant.0 in
    let at = next_stands c.args.parts.items ys part rest is in
    let there = slice_get_within c.args.parts.items (length ys) part at in
    let many = c.requires.many in
    let inside : length ys < length ends = omega arith in
    let more : suc (length ys) ≡ length (ys ++ part ∷ []) = (let n = length-append ys (part ∷ []) in omega arith) in
    let old = c.loop-part.all in
    let new = c.append.new.all in (
      append_assoc ys (part ∷ []) rest ∙ is,
      subst (λ (n : ℕ). AreFound s.text.now s.tokens.now s.rows.now 0 (start_of ends n) new.words.items new.numbers.items new.least) more
          (found_next s.text.now s.tokens.now s.rows.now 0 (start_of ends (length ys)) (number_at ends (length ys)) old.words.items part.words.items new.words.items old.numbers.items part.numbers.items new.numbers.items old.least part.least new.least
          (omega arith) (c.requires.cuts.order (length ys) inside) c.loop-part.invariant.1 (c.requires.each (length ys) part at) c.in_ok-append.ensures.words c.in_ok-append.ensures.numbers c.in_ok-append.ensures.least),
    )

pub returns-then-len-eq1 : goal.returns-then-len-eq1
returns-then-len-eq1 c =
    let s = c.args.scopes.now in
    let ends = c.args.ends.now in
    let a = c.len.ensures in
    let b = c.if-len-eq1.true in
    let m = c.requires.many in
    let one : length c.args.parts.items ≡ 1 = omega arith in
    let alone : 1 ≡ length ends = omega arith in
    let part = c.swap_remove.result in
    let at = slice_get-get_or c.args.parts.items 0 part (omega arith) ∙ ap Some (sym c.swap_remove.ensures.value) in
    subst (λ (n : ℕ). AreFound s.text.now s.tokens.now s.rows.now 0 n part.words.items part.numbers.items part.least) (ap (start_of ends) alone ∙ c.requires.cuts.all) (c.requires.each 0 part at)

pub returns : goal.returns
returns c =
    let s = c.args.scopes.now in
    let ends = c.args.ends.now in
    let ys = c.loop-part.yielded in
    let rest = c.loop-part.part-iterator.rest in
    let a = length-append ys rest.items in
    let b = ap length c.loop-part.invariant.0 in
    let o = rest.ok.0 in
    let n = c.in-None.ensures.steps.0 in
    let m = c.requires.many in
    let all : length ys ≡ length ends = omega arith in
    let r = c.loop-part.all in
    subst (λ (n : ℕ). AreFound s.text.now s.tokens.now s.rows.now 0 n r.words.items r.numbers.items r.least) (ap (start_of ends) all ∙ c.requires.cuts.all) c.loop-part.invariant.1
