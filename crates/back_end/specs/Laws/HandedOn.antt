-- What a `?` hands on says what the call before it said.
use Rattle.std.proofs.Common.{◌≡◌, Result, Ok, Err, sym, subst}
use Rattle.std.specs.Prelude.{IfErr, IsErrAnd}

pub handed_on : {A E : Type 0} (P : E → Type 0) (r : Result A E) (f : E) → IsErrAnd r (λ e. e ≡ f) → P f → IfErr r P
handed_on P (Ok x) f is p = absurd is
handed_on P (Err e) f is p = subst P (sym is) p
