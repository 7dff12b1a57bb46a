-- The text that is made from a seed: a linear congruential generator (Press and others, "Numerical Recipes", section 7.1, "Quick and
-- Dirty Generators"), and a function for each three numbers that it draws.
use Rattle.std.specs.Prelude.{ℕ, zero, suc, ◌+◌, ◌-◌, ◌*◌, ◌/◌, ◌%◌, ◌^◌, List, [], ◌∷◌, ◌++◌, codes, decimal}

-- the generator's next state
abbrev pub next_state : ℕ → ℕ
next_state x = (1664525 * x + 1013904223) % 2 ^ 32

-- the number that a state gives, below 1000
abbrev pub drawn : ℕ → ℕ
drawn x = x / 2 ^ 16 % 1000

-- what a function's variable begins with: it is made of the parameter, or of the value of the function before it
abbrev pub first_value : ℕ → ℕ → ℕ → List ℕ
first_value zero p q = codes "a * " ++ decimal p ++ codes " + " ++ decimal q
first_value (suc j) p q = codes "f" ++ decimal j ++ codes "[a + " ++ decimal p ++ codes "] * " ++ decimal q

-- function number i with its three numbers
abbrev pub function_line : ℕ → ℕ → ℕ → ℕ → List ℕ
function_line i p q r =
    codes "fn f" ++ decimal i ++ codes "(var a: int): int { var b: int = " ++ first_value i p q
    ++ codes "; if b > a { b = b - " ++ decimal r ++ codes "; } else { b = b ^ " ++ decimal r ++ codes "; } return b; }" ++ 10 ∷ []

-- `main` calls the last function, number j
abbrev pub main_line : ℕ → List ℕ
main_line j = codes "fn main(): int { return f" ++ decimal j ++ codes "[1]; }" ++ 10 ∷ []

-- this many functions from number i on, each with three draws from this state on, and then `main`
abbrev pub function_lines : ℕ → ℕ → ℕ → List ℕ
function_lines zero i x = main_line (i - 1)
function_lines (suc n) i x =
    let x1 = next_state x in let x2 = next_state x1 in let x3 = next_state x2 in
    function_line i (drawn x1) (drawn x2) (drawn x3) ++ function_lines n (i + 1) x3

-- the text of a seed, with this many functions beside `main`
abbrev pub drill_text : ℕ → ℕ → List ℕ
drill_text seed functions = function_lines functions 0 seed
