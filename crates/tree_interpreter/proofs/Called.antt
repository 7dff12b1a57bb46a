-- A call of a function whose frame fits.
use Rattle.std.proofs.Common.{◌≡◌, ℕ, suc, ◌-◌, nat_lt, true, false, List, [], ◌∷◌, ◌++◌, map, replicate, refl, sym, ap, ◌∙◌}
use Rattle.source_meaning.specs.Ast.{Function, Program}
use Rattle.source_meaning.specs.Scope.{body_scope, variables_in}
use Rattle.source_meaning.specs.Frames.{frame}
use Rattle.tree_interpreter.specs.Trees.{function_of}
use Rattle.tree_interpreter.specs.declared.callees.Callee.{Callee}
use Rattle.source_meaning.specs.Meaning.{run, ended, call_in, ends_as, Table, Stopped, Deep as AtDeep}

pub functions_of_callees : (cs : List Callee) → map (λ f. function_of f.function.now) cs ≡ map function_of (map (λ c. c.function.now) cs)
functions_of_callees [] = refl
functions_of_callees (c ∷ cs) = ap (λ fs. function_of c.function.now ∷ fs) (functions_of_callees cs)

pub call_is : (p : Program) (turns calls fewer left : ℕ) (f : Function) (args : List ℕ) (rest : ℕ) (table : Table) → calls ≡ suc fewer → nat_lt left (frame f).bytes ≡ false → rest ≡ left - (frame f).bytes → table ≡ args ++ replicate (variables_in f.body) 0 →
    call_in p turns calls left f args ≡ ended (run (record { program = p; turns = turns; calls = call_in p turns fewer rest }) (body_scope f) table f.body)
call_is p turns calls fewer left f args rest table some fits is filled =
    ap (λ n. call_in p turns n left f args) some
    ∙ ap (λ b. elim b [ true ↦ ends_as (Stopped AtDeep) | false ↦ ended (run (record { program = p; turns = turns; calls = call_in p turns fewer (left - (frame f).bytes) }) (body_scope f) (args ++ replicate (variables_in f.body) 0) f.body) ]) fits
    ∙ λ i. ended (run (record { program = p; turns = turns; calls = call_in p turns fewer (sym is i) }) (body_scope f) (sym filled i) f.body)
