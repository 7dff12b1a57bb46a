-- Variables in scope, found by their names and numbers.
use Rattle.std.proofs.Common.{◌≡◌, ℕ, ◌+◌, List, [], ◌∷◌, ◌++◌, map, length, Option, Some, None, option_map, refl, true, false, bytes_eq, find, sym, ap, ◌∙◌, arith}
use Rattle.source_meaning.specs.Scope.{Scope, Variable, params_scope, declared, no_scope}
use Rattle.source_meaning.specs.Ast.{Param}
use Rattle.source_meaning.specs.Meaning.{Table, value_in, stored_in}
use Rattle.tree_interpreter.specs.Running.{number_named, name_of, variable_named, value_numbered, stored_numbered}

-- the number of the innermost variable of a name, from the names with their numbers
pub named_number : (x : List ℕ) (vs : List Variable) → number_named (map name_of vs) x ≡ option_map (λ v. v.number) (find (λ v. bytes_eq v.name x) vs)
named_number x [] = refl
named_number x (v ∷ vs) = first (named_number x vs) (bytes_eq v.name x) refl
  where
    first : number_named (map name_of vs) x ≡ option_map (λ w. w.number) (find (λ w. bytes_eq w.name x) vs) → (b : _) → bytes_eq v.name x ≡ b → number_named (map name_of (v ∷ vs)) x ≡ option_map (λ w. w.number) (find (λ w. bytes_eq w.name x) (v ∷ vs))
    first rest true h = rw h refl
    first rest false h = rw h rest

pub value_by_number : (v : Option Variable) (t : Table) → value_in v t ≡ value_numbered (option_map (λ w. w.number) v) t
value_by_number None t = refl
value_by_number (Some v) t = refl

pub stored_by_number : (v : Option Variable) (x : ℕ) (t : Table) → stored_in v x t ≡ stored_numbered (option_map (λ w. w.number) v) x t
stored_by_number None x t = refl
stored_by_number (Some v) x t = refl

-- names with numbers are those of the variables that they name
pub names_named : (ns : List (List ℕ × ℕ)) → map name_of (map variable_named ns) ≡ ns
names_named [] = refl
names_named (n ∷ ns) = ap (λ ms. n ∷ ms) (names_named ns)

pub number_in_scope : (ns : List (List ℕ × ℕ)) (x : List ℕ) → number_named ns x ≡ option_map (λ v. v.number) (find (λ v. bytes_eq v.name x) (map variable_named ns))
number_in_scope ns x = ap (λ ms. number_named ms x) (sym (names_named ns)) ∙ named_number x (map variable_named ns)

-- one more parameter
pub params_scope_more : (sc : Scope) (qs : List Param) (q : Param) → params_scope sc (qs ++ q ∷ []) ≡ declared (params_scope sc qs) q.at q.name q.type
params_scope_more sc [] q = refl
params_scope_more sc (r ∷ qs) q = params_scope_more (declared sc r.at r.name r.type) qs q

pub params_next : (sc : Scope) (qs : List Param) → (params_scope sc qs).next ≡ sc.next + length qs
params_next sc [] = omega arith
params_next sc (q ∷ qs) = omega (arith, params_next (declared sc q.at q.name q.type) qs)

pub declared_more : (qs : List Param) (q : Param) (n : ℕ) → n ≡ length qs → map name_of (params_scope no_scope (qs ++ q ∷ [])).variables ≡ (q.name, n) ∷ map name_of (params_scope no_scope qs).variables
declared_more qs q n is =
    ap (λ sc. map name_of sc.variables) (params_scope_more no_scope qs q)
    ∙ ap (λ m. (q.name, m) ∷ map name_of (params_scope no_scope qs).variables) (let e : (params_scope no_scope qs).next ≡ n = omega (arith, params_next no_scope qs, is) in e)
