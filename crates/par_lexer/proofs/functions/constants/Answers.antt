use Rattle.std.proofs.Common.{◌≡◌, ◌<◌, ◌+◌, ℕ, true, false, [], ◌∷◌, length, ap, sym, subst, ◌∙◌, arith}
use Rattle.std.specs.Prelude.{slice_index_or}
use Rattle.std.proofs.lemmas.List.{length-append}
use Rattle.par_lexer.specs.Known.{IsConstant}
use Rattle.par_lexer.proofs.Counting.{marked_more}
use Rattle.par_lexer.proofs.functions.constants.Goals as goal

pub loop-number-preserved : goal.loop-number-preserved
loop-number-preserved c =
    let m = c.args.compositions.now in
    let so_far = c.loop-number.invariant in
    let marks = c.loop-number.constant.items in
    let pushed = c.in_ok-push.ensures.items in
    record {
      many = ap length pushed ∙ (length-append marks (c.is_constant.result ∷ []) ∙ ap (λ n. n + 1) so_far.many);
      each = subst (λ l. (k : ℕ) → k < length l → slice_index_or l k false ≡ true → IsConstant m k) (sym pushed)
          (marked_more (IsConstant m) marks c.is_constant.result so_far.each (λ e. subst (IsConstant m) (sym so_far.many) (c.is_constant.ensures e)));
    }

pub returns : goal.returns
returns c = record {
  all = omega (arith, c.loop-number.invariant.many, c.loop-number-test.false, c.count-count.ensures.value);
  each = λ k less. c.loop-number.invariant.each k (omega (arith, c.loop-number.invariant.many, c.loop-number-test.false, c.count-count.ensures.value));
}
