-- One symbol more of what is gone through.
use Rattle.std.proofs.Common.{◌≡◌, ◌∙◌, ℕ, List, [], ◌∷◌, Bool, true, false, not, ◌&&◌, ◌||◌, refl, ap}
use Rattle.std.specs.List.{list_all, list_any}
use Rattle.std.proofs.lemmas.List.Folds.{list_all-append, list_any-append}
use Rattle.grammar_file.specs.declared.symbols.Symbol.{Symbol}
use Rattle.grammar_file.specs.declared.symbols.Symbol.TheVariants.{Terminal, Nonterminal}
use Rattle.grammar_file.specs.contracts.symbols.SymbolPartialEq.TheImpl.{eq-value}
use Rattle.std.specs.Cmp.Lexicographic.{pointwise}
use Rattle.llp_tables.specs.Certificate.{Certificate, same_symbol, same_symbols, when, first_of, may_be_empty, beginnings}

-- the comparison of the code is the one of the rules
pub symbol_compared : (x y : Symbol) → eq-value.it x y ≡ same_symbol x y
symbol_compared (Terminal a) (Terminal b) = refl
symbol_compared (Terminal a) (Nonterminal b) = refl
symbol_compared (Nonterminal a) (Terminal b) = refl
symbol_compared (Nonterminal a) (Nonterminal b) = refl

pub symbols_compared : (xs ys : List Symbol) → pointwise eq-value.it xs ys ≡ same_symbols xs ys
symbols_compared [] [] = refl
symbols_compared [] (y ∷ ys) = refl
symbols_compared (x ∷ xs) [] = refl
symbols_compared (x ∷ xs) (y ∷ ys) = λ i. symbol_compared x y i && symbols_compared xs ys i

all_when : (p : ℕ → Bool) (b : Bool) (xs : List ℕ) → list_all p (when b xs) ≡ (not b || list_all p xs)
all_when p true xs = refl
all_when p false xs = refl

any_when : (p : ℕ → Bool) (b : Bool) (xs : List ℕ) → list_any p (when b xs) ≡ (b && list_any p xs)
any_when p true xs = refl
any_when p false xs = refl

pub all_step : (c : Certificate) (p : ℕ → Bool) (x : Symbol) (xs : List Symbol)
    → list_all p (beginnings c (x ∷ xs)) ≡ (list_all p (first_of c x) && (not (may_be_empty c x) || list_all p (beginnings c xs)))
all_step c p x xs =
    list_all-append p (first_of c x) (when (may_be_empty c x) (beginnings c xs))
    ∙ ap (λ b. list_all p (first_of c x) && b) (all_when p (may_be_empty c x) (beginnings c xs))

pub any_step : (c : Certificate) (p : ℕ → Bool) (x : Symbol) (xs : List Symbol)
    → list_any p (beginnings c (x ∷ xs)) ≡ (list_any p (first_of c x) || (may_be_empty c x && list_any p (beginnings c xs)))
any_step c p x xs =
    list_any-append p (first_of c x) (when (may_be_empty c x) (beginnings c xs))
    ∙ ap (λ b. list_any p (first_of c x) || b) (any_when p (may_be_empty c x) (beginnings c xs))
