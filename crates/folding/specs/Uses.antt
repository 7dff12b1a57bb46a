-- The uses of a program's variables and functions, each with the declaration that it means.
use Rattle.std.specs.Prelude.{◌≡◌, ◌⊎◌, ℕ, List, [], ◌∷◌, Option, flat_map}
use Rattle.source_meaning.specs.Ast.{name, call, Program}
use Rattle.source_meaning.specs.Scope.{Scope, Part, an_expr, sites, meant_by}

-- a name or a call: its own token, and its declaration's
abbrev pub Use : Type 0
Use = ℕ × Option ℕ

abbrev pub use_of : Program → Scope → Part → List Use
use_of p sc (an_expr (name at x)) = (at, meant_by p sc (an_expr (name at x))) ∷ []
use_of p sc (an_expr (call at f es)) = (at, meant_by p sc (an_expr (call at f es))) ∷ []
use_of p sc part = []

-- in postorder
abbrev pub uses : Program → List Use
uses p = flat_map (λ s. use_of p s.scope s.part) (sites p)

-- some items of a list, in its order: each of the list is left out, or is the next one
abbrev pub AreSome : {A : Type 0} → List A → List A → Type 0
AreSome xs [] = xs ≡ []
AreSome {A} xs (y ∷ ys) = AreSome xs ys ⊎ ((rest : List A) × (xs ≡ y ∷ rest) × AreSome rest ys)
