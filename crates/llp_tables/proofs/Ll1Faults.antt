-- The faults of grammars that aren't LL(1), as faults of tables.
use Rattle.std.proofs.Common.{◌≡◌, ◌⊎◌, inl, inr, ap, sym, subst, Result}
use Rattle.std.specs.Prelude.{IfErr}
use Rattle.std.specs.Result.{IsErrAnd}
use Rattle.std.proofs.lemmas.Result.{err_from_is_err_and}
use Rattle.grammar_file.specs.Grammar.{Grammar}
use Rattle.ll1_sets.specs.GrammarSets.{IsLl1Fault}
use Rattle.ll1_sets.specs.declared.table.Ll1Fault.{Ll1Fault}
use Rattle.ll1_sets.specs.declared.table.Ll1Fault.TheVariants.{LeftRecursive, Conflict, NoMemory as IsNoMemory}
use Rattle.llp_tables.specs.Tables.{IsTableFault, fault_by}
use Rattle.llp_tables.specs.declared.fault.TableFault.{TableFault}
use Rattle.llp_tables.specs.declared.fault.TableFault.TheVariants.{NoMemory}

told : (g : Grammar) (x : Ll1Fault) → (x ≡ IsNoMemory) ⊎ IsLl1Fault g x → (fault_by x ≡ NoMemory) ⊎ IsTableFault g (fault_by x)
told g x (inl e) = inl (ap fault_by e)
told g (LeftRecursive a) (inr h) = inr h
told g (Conflict k) (inr h) = inr h
told g IsNoMemory (inr h) = absurd h

pub table_fault : {T : Type 0} (g : Grammar) (x : Ll1Fault) (r : Result T TableFault) → (x ≡ IsNoMemory) ⊎ IsLl1Fault g x → IsErrAnd r (λ f. f ≡ fault_by x) → IfErr r (λ f. (f ≡ NoMemory) ⊎ IsTableFault g f)
table_fault {T} g x r h is =
    let p = err_from_is_err_and r is in
    subst (λ (q : Result T TableFault). IfErr q (λ f. (f ≡ NoMemory) ⊎ IsTableFault g f)) (sym p.1) (subst (λ (f : TableFault). (f ≡ NoMemory) ⊎ IsTableFault g f) (sym p.2) (told g x h))
