use Rattle.std.proofs.Common.{◌≡◌, All, ◌∙◌, ◌^◌, true, nat_lt, sym, subst}
use Rattle.fold_pass.proofs.Stayed.{spans_accepted}
use Rattle.fold_pass.proofs.staying.reaches.Goals as goal

pub scan_lifted-requires-clause-accepted : goal.scan_lifted-requires-clause-accepted
scan_lifted-requires-clause-accepted g c κs within =
    subst (All (λ x. nat_lt x (2 ^ 62) ≡ true)) (sym (c.as_slice.ensures.value ∙ c.in_ok-spans.ensures)) (spans_accepted c.args.columns.now c.args.values.now c.requires.few)
