-- Places that are added, and lists of marks that grow.
use Rattle.std.proofs.Common.{◌≡◌, ◌≢◌, ℕ, ◌+◌, ◌<◌, ◌≤◌, ◌⊎◌, inl, inr, zero, suc, List, [], ◌∷◌, ◌++◌, length, take, drop, Bool, true, false, Some, slice_get, slice_index_or, refl, sym, ap, ◌∙◌, subst, arith}
use Rattle.std.proofs.lemmas.Bool.{cases_lt, true≢false}
use Rattle.std.proofs.lemmas.Option.{same_Some}
use Rattle.grammar_file.specs.declared.symbols.Symbol.{Symbol}
use Rattle.grammar_file.specs.declared.symbols.Symbol.TheVariants.{Nonterminal}
use Rattle.grammar_file.specs.Grammar.{Grammar, Production}
use Rattle.grammar_file.specs.Marks.{AreMarksOf}
use Rattle.llp_wide.specs.declared.endings.LastMarks.{LastMarks}
use Rattle.llp_wide.specs.declared.places.Entrance.{Entrance}
use Rattle.llp_wide.specs.Added.{Adds}
use Rattle.llp_wide.specs.Endings.{IsLast, is_reached, marks_in, marks_at}
use Rattle.llp_wide.specs.Places.{Spot, IsSpotAt, IsSpotIn, IsSpotBy, IsGathering}
use Rattle.llp_wide.proofs.Additions.{adds_one, adds_none, adds_as}

pub get_front : {A : Type 0} (xs : List A) (x : A) (k : ℕ) → k < length xs → slice_get (xs ++ x ∷ []) k ≡ slice_get xs k
get_front [] x k l = absurd (omega arith)
get_front (y ∷ xs) x zero l = refl
get_front (y ∷ xs) x (suc k) l = get_front xs x k (omega arith)

pub get_last : {A : Type 0} (xs : List A) (x : A) → slice_get (xs ++ x ∷ []) (length xs) ≡ Some x
get_last [] x = refl
get_last (y ∷ xs) x = get_last xs x

pub none_pushed : (xs : List (List Spot)) → ((n : ℕ) → slice_index_or xs n [] ≡ []) → (n : ℕ) → slice_index_or (xs ++ [] ∷ []) n [] ≡ []
none_pushed [] h zero = refl
none_pushed [] h (suc n) = refl
none_pushed (x ∷ xs) h zero = h 0
none_pushed (x ∷ xs) h (suc n) = none_pushed xs (λ k. h (suc k)) n

pub length_more : {A : Type 0} (xs ys : List A) (x : A) (n : ℕ) → length xs ≡ n → ys ≡ xs ++ x ∷ [] → length ys ≡ n + 1
length_more {A} xs ys x n len grown = ap (λ (zs : List A). length zs) grown ∙ Rattle.std.proofs.lemmas.List.length-append xs (x ∷ []) ∙ ap (λ m. m + 1) len

pub marks_more : (g : Grammar) (all : List LastMarks) (e : LastMarks) (y : ℕ) → length all ≡ y → ((k : ℕ) → k < y → AreMarksOf g (λ a. IsLast g (Nonterminal a ∷ []) k) (marks_at all k))
    → AreMarksOf g (λ a. IsLast g (Nonterminal a ∷ []) y) e.marks.items → (k : ℕ) → k < y + 1 → AreMarksOf g (λ a. IsLast g (Nonterminal a ∷ []) k) (marks_at (all ++ e ∷ []) k)
marks_more g all e y len before here k l = go (cases_lt k y)
  where
    go : (k < y) ⊎ (y ≤ k) → AreMarksOf g (λ a. IsLast g (Nonterminal a ∷ []) k) (marks_at (all ++ e ∷ []) k)
    go (inl i) = subst (λ (marks : List Bool). AreMarksOf g (λ a. IsLast g (Nonterminal a ∷ []) k) marks) (sym (ap marks_in (get_front all e k (omega arith)))) (before k i)
    go (inr i) =
        let same : k ≡ y = omega arith in
        let there : marks_at (all ++ e ∷ []) k ≡ e.marks.items = ap (λ n. marks_in (slice_get (all ++ e ∷ []) n)) (same ∙ sym len) ∙ ap marks_in (get_last all e) in
        subst (λ (n : ℕ). AreMarksOf g (λ a. IsLast g (Nonterminal a ∷ []) n) (marks_at (all ++ e ∷ []) k)) (sym same)
        (subst (λ (marks : List Bool). AreMarksOf g (λ a. IsLast g (Nonterminal a ∷ []) y) marks) (sym there) here)

module _ (nullable : List Bool) (all : List LastMarks) (owner : Entrance) where
  pub no_spot : (right : List Symbol) (k y : ℕ) (old : List Spot) → is_reached nullable all owner.before y (take k right) ≡ false → Adds (IsSpotAt nullable all owner right k y) old old
  no_spot right k y old e = adds_none (IsSpotAt nullable all owner right k y) old (λ x h. true≢false (sym h.0 ∙ e))

  pub spot_added : (right : List Symbol) (k y : ℕ) (symbol : Symbol) (after : List Symbol) (old new : List Spot) → is_reached nullable all owner.before y (take k right) ≡ true → slice_get right k ≡ Some symbol → after ≡ drop (k + 1) right
      → new ≡ old ++ (record { before = y; symbol = symbol; owner = owner; after = after }) ∷ [] → Adds (IsSpotAt nullable all owner right k y) old new
  spot_added right k y symbol after old new e is after_is grown =
      let it : Spot = record { before = y; symbol = symbol; owner = owner; after = after } in
      subst (λ (xs : List Spot). Adds (IsSpotAt nullable all owner right k y) old xs) (sym grown)
      (adds_as (λ (x : Spot). x ≡ it) (IsSpotAt nullable all owner right k y) old (old ++ it ∷ [])
      (λ x h. (e, is ∙ ap Some (ap (λ (s : Spot). s.symbol) (sym h)), ap (λ (s : Spot). s.before) h, ap (λ (s : Spot). s.owner) h, ap (λ (s : Spot). s.after) h ∙ after_is))
      (λ x h. λ i. record { before = h.2 i; symbol = same_Some x.symbol symbol (sym h.1 ∙ is) i; owner = h.3 i; after = (h.4 ∙ sym after_is) i })
      (adds_one old it))

  pub other_rule : (productions : List Production) (i : ℕ) (rule : Production) (old : List Spot) → slice_get productions i ≡ Some rule → rule.left ≢ owner.nonterminal → Adds (IsSpotBy nullable all owner productions i) old old
  other_rule productions i rule old is ne = adds_none (IsSpotBy nullable all owner productions i) old (λ x h. ne (ap (λ (r : Production). r.left) (same_Some rule h.0 (sym is ∙ h.1)) ∙ h.2))

  pub own_rule : (productions : List Production) (i : ℕ) (rule : Production) (old new : List Spot) → slice_get productions i ≡ Some rule → rule.left ≡ owner.nonterminal → Adds (IsSpotIn nullable all owner rule.right) old new → Adds (IsSpotBy nullable all owner productions i) old new
  own_rule productions i rule old new is left h =
      adds_as (IsSpotIn nullable all owner rule.right) (IsSpotBy nullable all owner productions i) old new (λ x m. (rule, is, left, m))
      (λ x m. subst (λ (r : Production). IsSpotIn nullable all owner r.right x) (same_Some m.0 rule (sym m.1 ∙ is)) m.3) h

  pub gathering_added : (old new : List Spot) → owner.before ≢ length all → new ≡ old ++ (record { before = length all; symbol = Nonterminal owner.nonterminal; owner = owner; after = [] }) ∷ [] → Adds (IsGathering all owner) old new
  gathering_added old new ne grown =
      let it : Spot = record { before = length all; symbol = Nonterminal owner.nonterminal; owner = owner; after = [] } in
      subst (λ (xs : List Spot). Adds (IsGathering all owner) old xs) (sym grown)
      (adds_as (λ (x : Spot). x ≡ it) (IsGathering all owner) old (old ++ it ∷ []) (λ x h. (ne, h)) (λ x h. h.1) (adds_one old it))

  pub not_gathered : (old : List Spot) → owner.before ≡ length all → Adds (IsGathering all owner) old old
  not_gathered old is = adds_none (IsGathering all owner) old (λ x h. h.0 is)
