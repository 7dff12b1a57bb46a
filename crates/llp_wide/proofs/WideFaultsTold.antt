-- The faults of grammars that aren't LL(1), as faults where two terminals are looked back at.
use Rattle.std.proofs.Common.{◌≡◌, ◌⊎◌, inl, inr, ap, sym, subst, ◌∙◌, Result}
use Rattle.std.specs.Prelude.{IfErr}
use Rattle.std.specs.Result.{IsErrAnd}
use Rattle.std.proofs.lemmas.Result.{err_from_is_err_and}
use Rattle.grammar_file.specs.Grammar.{Grammar}
use Rattle.ll1_sets.specs.GrammarSets.{IsLl1Fault}
use Rattle.ll1_sets.specs.declared.table.Ll1Fault.{Ll1Fault}
use Rattle.ll1_sets.specs.declared.table.Ll1Fault.TheVariants.{LeftRecursive, Conflict, NoMemory as IsNoMemory}
use Rattle.llp_wide.specs.WideFaults.{IsWideFault, wide_fault_by}
use Rattle.llp_wide.specs.declared.fault.WideFault.{WideFault}
use Rattle.llp_wide.specs.declared.fault.WideFault.TheVariants.{NoMemory}

told : (g : Grammar) (x : Ll1Fault) → (x ≡ IsNoMemory) ⊎ IsLl1Fault g x → (wide_fault_by x ≡ NoMemory) ⊎ IsWideFault g (wide_fault_by x)
told g x (inl e) = inl (ap wide_fault_by e)
told g (LeftRecursive a) (inr h) = inr h
told g (Conflict k) (inr h) = inr h
told g IsNoMemory (inr h) = absurd h

module _ {T : Type 0} (x : Ll1Fault) (r : Result T WideFault) where
  pub wide_memory_told : x ≡ IsNoMemory → IsErrAnd r (λ f. f ≡ wide_fault_by x) → IfErr r (λ f. f ≡ NoMemory)
  wide_memory_told e is =
      let p = err_from_is_err_and r is in
      subst (λ (q : Result T WideFault). IfErr q (λ f. f ≡ NoMemory)) (sym p.1) (p.2 ∙ ap wide_fault_by e)

pub wide_fault_told : {T : Type 0} (g : Grammar) (x : Ll1Fault) (r : Result T WideFault) → (x ≡ IsNoMemory) ⊎ IsLl1Fault g x → IsErrAnd r (λ f. f ≡ wide_fault_by x) → IfErr r (λ f. (f ≡ NoMemory) ⊎ IsWideFault g f)
wide_fault_told {T} g x r h is =
    let p = err_from_is_err_and r is in
    subst (λ (q : Result T WideFault). IfErr q (λ f. (f ≡ NoMemory) ⊎ IsWideFault g f)) (sym p.1) (subst (λ (f : WideFault). (f ≡ NoMemory) ⊎ IsWideFault g f) (sym p.2) (told g x h))
