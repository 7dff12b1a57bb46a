-- A list of faults that has an earliest one isn't empty, and no option is there and absent.
use Rattle.std.proofs.Common.{◌≡◌, List, [], Option, Some, None, sym, ap, ◌∙◌}
use Rattle.source_meaning.specs.Scope.{Fault, earliest}

pub there : {A : Type 0} (o : Option A) (x : A) → o ≡ Some x → o ≡ None → ⊥
there o x e f = let both : Some x ≡ None = sym e ∙ f in cc

pub some_fault : (fs : List Fault) (f : Fault) → earliest fs ≡ Some f → fs ≡ [] → ⊥
some_fault fs f e none = there (earliest fs) f e (ap earliest none)
