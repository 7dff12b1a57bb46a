use Rattle.std.proofs.Common.{sym, ap, ◌∙◌}
use Rattle.llp_wide.specs.WideLookbacks.{ClosedStack}
use Rattle.llp_wide.proofs.SameSymbols.{same_symbols}
use Rattle.llp_wide.proofs.closings.is_closing.Goals as goal

pub returns : goal.returns
returns c = λ h. ap (λ (s : ClosedStack). s.closes) (sym c.stack.view_is) ∙ (sym c.as_slice.ensures.value ∙ same_symbols c.as_slice.result.now c.args.closes.now (sym c.eq.ensures ∙ h))
