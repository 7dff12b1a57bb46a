use Rattle.std.proofs.Common.{◌≡◌, ◌<◌, ◌+◌, ◌∷◌, [], ℕ, Some, length, ap, sym, subst, ◌∙◌, add-one, arith}
use Rattle.std.proofs.lemmas.Option.{slice_get-get_or}
use Rattle.std.proofs.lemmas.List.{length-append}
use Rattle.list_cuts.specs.Cuts.{number_at, start_of}
use Rattle.par_lexer.specs.Places.{state_before}
use Rattle.par_lexer.proofs.Beginning.{before_below}
use Rattle.par_lexer.proofs.Counting.{each_more}
use Rattle.par_lexer.proofs.Running.{bytes_of}
use Rattle.par_lexer.proofs.fronts.states_before.Goals as goal

pub state_after-state-requires-clause-part : goal.state_after-state-requires-clause-part
state_after-state-requires-clause-part c =
    let part = slice_get-get_or c.args.parts.now c.loop-c.c c.index-parts-c.result (omega arith) ∙ ap Some (sym c.index-parts-c.is) in
    (c.args.text.now, start_of c.args.ends.now c.loop-c.c, number_at c.args.ends.now c.loop-c.c, c.requires.parts.each c.loop-c.c c.index-parts-c.result part)

pub loop-c-preserved : goal.loop-c-preserved
loop-c-preserved c =
    let text = c.args.text.now in
    let ends = c.args.ends.now in
    let so_far = c.loop-c.invariant in
    let before : ℕ → ℕ = λ k. state_before text (start_of ends k) in
    let states = c.loop-c.states.items in
    let pushed = c.in_ok-push.ensures.items in
    let last : c.loop-c.state ≡ before (length states) = so_far.next ∙ ap before (sym so_far.many) in
    let part = slice_get-get_or c.args.parts.now c.loop-c.c c.index-parts-c.result (omega arith) ∙ ap Some (sym c.index-parts-c.is) in
    let next = c.state_after-state.ensures text (start_of ends c.loop-c.c) (number_at ends c.loop-c.c) (c.requires.parts.each c.loop-c.c c.index-parts-c.result part) so_far.next in
    record {
      next = next ∙ ap before (sym (add-one c.loop-c.c));
      below = subst (λ s. s < 16) (sym next) (before_below text (bytes_of text c.type_inv.text) (number_at ends c.loop-c.c));
      many = ap length pushed ∙ (length-append states (c.loop-c.state ∷ []) ∙ ap (λ n. n + 1) so_far.many);
      each = subst (λ l. (k : ℕ) → k < length l → number_at l k ≡ before k) (sym pushed) (each_more before states c.loop-c.state so_far.each last);
    }
