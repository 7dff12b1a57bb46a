-- Numbers of functions are a monoid.
use Rattle.std.proofs.Common.{◌≡◌, ◌≢◌, ℕ, ◌^◌, ◌<◌, Bool, true, false, List, [], ◌++◌, length, Some, slice_get, refl, sym, ap, subst, ◌∙◌, arith}
use Rattle.std.proofs.Math.Logic.{∥∥₁_elim}
use Rattle.std.specs.Prelude.{nat_eq, nat_lt, slice_index_or, AllPairs, Contains}
use mathlib.Core.Bool.{Bool-set}
use native.Mathlib.Nat.{ℕ_set}
use Rattle.std.specs.Coded.{le_prop}
use Rattle.std.specs.List.{position_or_len}
use Rattle.std.specs.Cmp.Lexicographic.{pointwise, bytes_decides}
use Rattle.std.proofs.lemmas.Bool.{lt-ltb, ltb-true}
use Rattle.std.proofs.lemmas.List.Sums.{position_or_len_is}
use Rattle.std.proofs.lemmas.List.Elements.{All-append}
use Rattle.word_monoid.specs.Monoid.{IsMonoid}
use Rattle.word_monoid.specs.Laws.Folds.{get_below}
use Rattle.state_monoid.specs.Image.{compose, image, IsReached, IsNumbering}
use Rattle.state_monoid.specs.Numbering.{Numbering, function_of, number_of, composition}
use Rattle.state_monoid.specs.Places.{value_get, get_value, equal_lists}
use Rattle.state_monoid.specs.Words.{image_append}
use Rattle.state_monoid.specs.Reached.{reached_length, reached_assoc, reached_identity, identity_reached}

not_equal : (b : Bool) → (b ≡ true → ⊥) → b ≡ false
not_equal true h = absurd (h refl)
not_equal false h = refl

pub number_at : (fs : List (List ℕ)) → AllPairs (λ f g. f ≢ g) fs → (c : ℕ) (f : List ℕ) → slice_get fs c ≡ Some f → position_or_len (pointwise nat_eq f) fs ≡ c
number_at fs apart c f at =
    let inside : c < length fs = get_below fs c f at in
    let here : slice_index_or fs c [] ≡ f = get_value fs c f [] at in
    position_or_len_is (pointwise nat_eq f) fs c [] (omega arith)
    (λ k h. not_equal (pointwise nat_eq f (slice_index_or fs k [])) (λ e. apart k c [] h inside (sym (equal_lists f (slice_index_or fs k []) e) ∙ sym here)))
    (λ _. ap (pointwise nat_eq f) here ∙ (bytes_decides f f).1 refl)

-- a member of a numbering has its place
contained : (fs : List (List ℕ)) (f : List ℕ) → Contains fs f → (c : ℕ) × (slice_get fs c ≡ Some f)
contained fs f h = (h.0, value_get fs h.0 f h.1 ∙ ap Some h.2)

-- the laws, where the numbering is given
module _ (m : Numbering) (all : IsNumbering m.automaton m.functions) where
  reached_at : (c : ℕ) → c < length m.functions → IsReached m.automaton (function_of m c)
  reached_at c h = all.reached c [] h

  pub member_at : (f : List ℕ) → IsReached m.automaton f → slice_get m.functions (number_of m f) ≡ Some f
  member_at f r =
      let there = contained m.functions f (subst (Contains m.functions) r.2 (all.complete r.0 r.1)) in
      ap (slice_get m.functions) (number_at m.functions all.distinct there.0 f there.1) ∙ there.1

  function_at : (f : List ℕ) → IsReached m.automaton f → function_of m (number_of m f) ≡ f
  function_at f r = get_value m.functions (number_of m f) f [] (member_at f r)

  number_below : (f : List ℕ) → IsReached m.automaton f → number_of m f < length m.functions
  number_below f r = get_below m.functions (number_of m f) f (member_at f r)

  own_number : (c : ℕ) → c < length m.functions → number_of m (function_of m c) ≡ c
  own_number c h = number_at m.functions all.distinct c (function_of m c) (value_get m.functions c [] h)

  reached_none : IsReached m.automaton (image m.automaton [])
  reached_none = ([], (λ k e h. absurd (omega arith)), refl)

  reached_compose : (f g : List ℕ) → IsReached m.automaton f → IsReached m.automaton g → IsReached m.automaton (compose f g)
  reached_compose f g r s = (
    r.0 ++ s.0,
    All-append (λ b. b < 256) r.0 s.0 r.1 s.1,
    image_append m.automaton m.is_automaton r.0 s.0 r.1 ∙ (λ i. compose (r.2 i) (s.2 i)),
  )

  join_reached : (a b : ℕ) → a < length m.functions → b < length m.functions → IsReached m.automaton (compose (function_of m a) (function_of m b))
  join_reached a b h k = reached_compose (function_of m a) (function_of m b) (reached_at a h) (reached_at b k)

  item : (c : ℕ) → nat_lt c (length m.functions) ≡ true → c < length m.functions
  item c h = ltb-true c (length m.functions) h

  is_item : (c : ℕ) → c < length m.functions → nat_lt c (length m.functions) ≡ true
  is_item c h = lt-ltb c (length m.functions) h

  joined : (a b : ℕ) → a < length m.functions → b < length m.functions → function_of m (number_of m (compose (function_of m a) (function_of m b))) ≡ compose (function_of m a) (function_of m b)
  joined a b h k = function_at (compose (function_of m a) (function_of m b)) (join_reached a b h k)

  associates : (a b c : ℕ) → a < length m.functions → b < length m.functions → c < length m.functions
      → number_of m (compose (function_of m (number_of m (compose (function_of m a) (function_of m b)))) (function_of m c))
      ≡ number_of m (compose (function_of m a) (function_of m (number_of m (compose (function_of m b) (function_of m c)))))
  associates a b c h k l = ap (number_of m)
      (ap (λ (f : List ℕ). compose f (function_of m c)) (joined a b h k)
      ∙ (reached_assoc m.automaton m.is_automaton (function_of m a) (function_of m b) (function_of m c) (reached_at a h) (reached_at b k)
      ∙ ap (compose (function_of m a)) (sym (joined b c k l))))

  unit_function : function_of m (number_of m (image m.automaton [])) ≡ image m.automaton []
  unit_function = function_at (image m.automaton []) reached_none

  left_unit : (a : ℕ) → a < length m.functions → number_of m (compose (function_of m (number_of m (image m.automaton []))) (function_of m a)) ≡ a
  left_unit a h = ap (λ (f : List ℕ). number_of m (compose f (function_of m a))) unit_function
      ∙ (ap (number_of m) (identity_reached m.automaton m.is_automaton (function_of m a) (reached_at a h)) ∙ own_number a h)

  right_unit : (a : ℕ) → a < length m.functions → number_of m (compose (function_of m a) (function_of m (number_of m (image m.automaton [])))) ≡ a
  right_unit a h = ap (λ (f : List ℕ). number_of m (compose (function_of m a) f)) unit_function
      ∙ (ap (number_of m) (reached_identity m.automaton m.is_automaton (function_of m a) (reached_at a h)) ∙ own_number a h)

  small : (a : ℕ) → a < length m.functions → a < 2 ^ 62
  small a h = let few = m.few in omega arith

  composition_laws : IsMonoid (composition m)
  composition_laws = record {
    unit_is_item = is_item (number_of m (image m.automaton [])) (number_below (image m.automaton []) reached_none);
    join_is_item = λ a b h k. is_item (number_of m (compose (function_of m a) (function_of m b))) (number_below (compose (function_of m a) (function_of m b)) (join_reached a b (item a h) (item b k)));
    associative = λ a b c h k l. associates a b c (item a h) (item b k) (item c l);
    unit_left = λ a h. left_unit a (item a h);
    unit_right = λ a h. right_unit a (item a h);
    decodes = λ a h. refl;
    fits = λ a h. small a (item a h);
  }

monoid_prop : (m : Numbering) → IsProp (IsMonoid (composition m))
monoid_prop m = hlevel (Bool-set, ℕ_set, le_prop)

pub composition_is_monoid : (m : Numbering) → IsMonoid (composition m)
composition_is_monoid m = ∥∥₁_elim m.numbers_all (monoid_prop m) (λ all. composition_laws m all)

-- ---- what callers of a numbering need

pub numbers_distinct : (m : Numbering) → AllPairs (λ f g. f ≢ g) m.functions
numbers_distinct m i j d h k e = let none : IsProp ⊥ = hlevel in ∥∥₁_elim m.numbers_all none (λ all. all.distinct i j d h k e)

pub number_is : (m : Numbering) (c : ℕ) (f : List ℕ) → slice_get m.functions c ≡ Some f → c ≡ number_of m f
number_is m c f at = sym (number_at m.functions (numbers_distinct m) c f at)

pub function_length : (m : Numbering) (c : ℕ) → c < length m.functions → length (function_of m c) ≡ m.automaton.states
function_length m c h = ∥∥₁_elim m.numbers_all (ℕ_set _ _) (λ all. reached_length m.automaton (function_of m c) (all.reached c [] h))

pub join_is : (v m : Numbering) → v ≡ m → (a b c : ℕ) → slice_get v.functions c ≡ Some (compose (function_of v a) (function_of v b)) → c ≡ number_of m (compose (function_of m a) (function_of m b))
join_is v m e a b c at = subst (λ (n : Numbering). c ≡ number_of n (compose (function_of n a) (function_of n b))) e (number_is v c (compose (function_of v a) (function_of v b)) at)

pub word_is : (v m : Numbering) → v ≡ m → (word : List ℕ) (c : ℕ) → slice_get v.functions c ≡ Some (image v.automaton word) → c ≡ number_of m (image m.automaton word)
word_is v m e word c at = subst (λ (n : Numbering). c ≡ number_of n (image n.automaton word)) e (number_is v c (image v.automaton word) at)
