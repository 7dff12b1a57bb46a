-- What is told by the least key of faults.
use Rattle.std.proofs.Common.{◌≡◌, ℕ, List, [], ◌∷◌, Option, Some, None, refl, sym, ap, ◌∙◌}
use Rattle.source_meaning.specs.Scope.{Fault, earliest}
use Rattle.phase_faults.specs.declared.fault.PhaseFault.{PhaseFault}
use Rattle.phase_faults.specs.declared.fault.PhaseFault.TheVariants.{Diagnostic}
use Rattle.phase_faults.specs.Keys.{fault_of_key, IsKey, IsLeastKey}
use Rattle.phase_faults.specs.Diagnosed.{diagnosed}

none_of : (fs : List Fault) → diagnosed (earliest fs) ≡ None → fs ≡ []
none_of [] h = refl
none_of (f ∷ fs) h = absurd cc

fault_back : (code at : ℕ) (o : Option Fault) → diagnosed o ≡ Some (Diagnostic code at) → o ≡ Some (record { at = at; code = code })
fault_back code at None h = absurd cc
fault_back code at (Some f) h =
    let codes : f.code ≡ code = cc in
    let places : f.at ≡ at = cc in
    λ i. Some (record { at = places i; code = codes i })

module _ (m : ℕ) (r : Option PhaseFault) (is : IsKey m → r ≡ diagnosed (fault_of_key m)) where
  told : (fs : List Fault) → IsLeastKey fs m → diagnosed (earliest fs) ≡ r
  told fs l = sym (is l.fits ∙ ap diagnosed l.told)

  pub none_told : r ≡ None → (fs : List Fault) → IsLeastKey fs m → fs ≡ []
  none_told e fs l = none_of fs (told fs l ∙ e)

  pub first_told : (code at : ℕ) → r ≡ Some (Diagnostic code at) → (fs : List Fault) → IsLeastKey fs m → earliest fs ≡ Some (record { at = at; code = code })
  first_told code at e fs l = fault_back code at (earliest fs) (told fs l ∙ e)
