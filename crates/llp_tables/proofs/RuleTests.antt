-- Tests and what they say.
use Rattle.std.proofs.Common.{◌≡◌, List, [], ◌∷◌, Bool, true, false, not, ◌&&◌, ◌||◌, eqb-true, refl, ap, ◌⊎◌, inl, inr, ⊎_elim}
use Rattle.std.specs.List.{list_any, list_all}
use Rattle.grammar_file.specs.declared.symbols.Symbol.{Symbol}
use Rattle.grammar_file.specs.declared.symbols.Symbol.TheVariants.{Terminal, Nonterminal}
use Rattle.llp_tables.specs.Certificate.{same_symbol, same_symbols}

pub both : (a b : Bool) → (a && b) ≡ true → (a ≡ true) × (b ≡ true)
both true b h = (refl, h)
both false b h = absurd (cc)

pub and_both : (a b : Bool) → a ≡ true → b ≡ true → (a && b) ≡ true
and_both true b h k = k
and_both false b h k = absurd (cc)

pub implied : (a b : Bool) → (not a || b) ≡ true → a ≡ true → b ≡ true
implied true b h k = h
implied false b h k = absurd (cc)

pub unless : (a b : Bool) → (a ≡ true → b ≡ true) → (not a || b) ≡ true
unless true b h = h refl
unless false b h = refl

pub one_of : (a b : Bool) → (a || b) ≡ true → (a ≡ true) ⊎ (b ≡ true)
one_of true b h = inl refl
one_of false b h = inr h

pub first_holds : (a b : Bool) → a ≡ true → (a || b) ≡ true
first_holds true b h = refl
first_holds false b h = absurd (cc)

pub second_holds : (a b : Bool) → b ≡ true → (a || b) ≡ true
second_holds true b h = refl
second_holds false b h = h

module _ {B : Type 0} where
  pub some_passes : (t u : B → Bool) (xs : List B) → list_all t xs ≡ true → list_any u xs ≡ true → (x : B) × (t x ≡ true) × (u x ≡ true)
  some_passes t u [] h k = absurd (cc)
  some_passes t u (y ∷ ys) h k = let b = both (t y) (list_all t ys) h in
      ⊎_elim (λ e. (y, b.0, e)) (λ e. some_passes t u ys b.1 e) (one_of (u y) (list_any u ys) k)

  pub all_map : (t u : B → Bool) (xs : List B) → ((x : B) → t x ≡ true → u x ≡ true) → list_all t xs ≡ true → list_all u xs ≡ true
  all_map t u [] f h = refl
  all_map t u (y ∷ ys) f h = let b = both (t y) (list_all t ys) h in and_both (u y) (list_all u ys) (f y b.0) (all_map t u ys f b.1)

pub same_symbol_is : (x y : Symbol) → same_symbol x y ≡ true → x ≡ y
same_symbol_is (Terminal a) (Terminal b) h = ap Terminal (eqb-true a b h)
same_symbol_is (Nonterminal a) (Nonterminal b) h = ap Nonterminal (eqb-true a b h)
same_symbol_is (Terminal a) (Nonterminal b) h = absurd (cc)
same_symbol_is (Nonterminal a) (Terminal b) h = absurd (cc)

pub same_symbols_is : (xs ys : List Symbol) → same_symbols xs ys ≡ true → xs ≡ ys
same_symbols_is [] [] h = refl
same_symbols_is [] (y ∷ ys) h = absurd (cc)
same_symbols_is (x ∷ xs) [] h = absurd (cc)
same_symbols_is (x ∷ xs) (y ∷ ys) h = let b = both (same_symbol x y) (same_symbols xs ys) h in λ i. same_symbol_is x y b.0 i ∷ same_symbols_is xs ys b.1 i
