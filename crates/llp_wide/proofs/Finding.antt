-- Entrances that are found.
use Rattle.std.proofs.Common.{◌≡◌, ◌≢◌, ℕ, zero, suc, ◌+◌, ◌*◌, ◌<◌, ◌≤◌, ◌⊎◌, inl, inr, ⊎_elim, List, [], ◌∷◌, ◌++◌, length, set, length-set, get_or, get_or-set_other, get_or-set_same, Bool, true, false, eqb, eqb-true, eq-eqb, Some, slice_get, refl, sym, ap, ◌∙◌, subst, arith}
use Rattle.std.proofs.Math.Nat.{mul-le-mul_left}
use Rattle.std.proofs.lemmas.Bool.{cases_lt, true≢false}
use Rattle.std.proofs.lemmas.List.{length-append}
use Rattle.std.proofs.lemmas.Option.{slice_get-get_or, same_Some}
use Rattle.grammar_file.specs.declared.symbols.Symbol.TheVariants.{Terminal, Nonterminal}
use Rattle.llp_wide.specs.declared.places.Entrance.{Entrance}
use Rattle.llp_wide.specs.Added.{IsIn, SomeBelow}
use Rattle.llp_wide.specs.Places.{Spot}
use Rattle.llp_wide.specs.Surveys.{place_of, IsFound, unfound, Finds, Opens}
use Rattle.llp_wide.proofs.Additions.{in_parts, in_still, in_last}

pub within_product : (w n a b : ℕ) → a < w → b < n → a * n + b < w * n
within_product w n a b h k = let m : n * (a + 1) ≤ n * w = mul-le-mul_left n (let l : a + 1 ≤ w = omega arith in l) in omega arith

not_less : (n a b c d : ℕ) → b < n → a * n + b ≡ c * n + d → a < c → ⊥
not_less n a b c d h e l = let m : n * (a + 1) ≤ n * c = mul-le-mul_left n (let k : a + 1 ≤ c = omega arith in k) in omega arith

-- an entrance is known by the place of its mark
pub same_place : (n a b c d : ℕ) → b < n → d < n → a * n + b ≡ c * n + d → (a ≡ c) × (b ≡ d)
same_place n a b c d h k e = ⊎_elim (λ (l : a < c). absurd (not_less n a b c d h e l)) (λ (l : c ≤ a). ⊎_elim (λ (m : c < a). absurd (not_less n c d a b k (sym e) m)) (λ (m : a ≤ c). by (let q : a ≡ c = omega arith in q)) (cases_lt c a)) (cases_lt a c)
  where
    by : a ≡ c → (a ≡ c) × (b ≡ d)
    by q = (q, let t : a * n ≡ c * n = ap (λ x. x * n) q in omega arith)

pub other_default : {A : Type 0} (xs : List A) (i : ℕ) (x y : A) → i < length xs → get_or xs i x ≡ get_or xs i y
other_default {A} xs i x y l = same_Some (get_or xs i x) (get_or xs i y) (sym (slice_get-get_or xs i x l) ∙ slice_get-get_or xs i y l)

pub unfound-set : (marks : List Bool) (a : ℕ) → a < length marks → get_or marks a false ≡ false → unfound (set marks a true) < unfound marks
unfound-set [] a lt h = absurd (omega arith)
unfound-set (true ∷ marks) zero lt h = absurd (cc)
unfound-set (false ∷ marks) zero lt h = omega arith
unfound-set (m ∷ marks) (suc a) lt h = let less = unfound-set marks a (omega arith) h in omega arith

module _ (count : ℕ) where
  pub finds_known : (e0 : Entrance) (marks : List Bool) (waiting : List Entrance) → IsFound count marks e0 → Finds count (λ e. e ≡ e0) marks waiting marks waiting
  finds_known e0 marks waiting found =
      record {
        size = refl;
        room = omega arith;
        keeps = λ e h. h;
        still = λ e h. h;
        from = λ e h. inl h;
        opens = λ e l h. inl h;
        meets = λ e h. subst (IsFound count marks) (sym h) found;
      }

  pub finds_none : (asked : Entrance → Type 0) (marks : List Bool) (waiting : List Entrance) → ((e : Entrance) → asked e → ⊥) → Finds count asked marks waiting marks waiting
  finds_none asked marks waiting none =
      record {
        size = refl;
        room = omega arith;
        keeps = λ e h. h;
        still = λ e h. h;
        from = λ e h. inl h;
        opens = λ e l h. inl h;
        meets = λ e h. absurd (none e h);
      }

  marked_stays : (marks : List Bool) (a x : ℕ) → a < length marks → get_or marks x false ≡ true → get_or (set marks a true) x false ≡ true
  marked_stays marks a x lt h = go (eqb x a) refl
    where
      go : (b : Bool) → eqb x a ≡ b → get_or (set marks a true) x false ≡ true
      go true e = ap (λ n. get_or (set marks a true) n false) (eqb-true x a e) ∙ get_or-set_same marks a true false lt
      go false e = let ne : x ≢ a = λ same. true≢false (sym (eq-eqb x a same) ∙ e) in get_or-set_other marks a x true false ne ∙ h

  pub finds_new : (e0 : Entrance) (marks : List Bool) (waiting : List Entrance) → e0.nonterminal < count → place_of count e0 < length marks → get_or marks (place_of count e0) false ≡ false → Finds count (λ e. e ≡ e0) marks waiting (set marks (place_of count e0) true) (waiting ++ e0 ∷ [])
  finds_new e0 marks waiting low within new =
      record {
        size = length-set marks (place_of count e0) true;
        room = let less = unfound-set marks (place_of count e0) within new in let len = length-append waiting (e0 ∷ []) in omega arith;
        keeps = λ e h. marked_stays marks (place_of count e0) (place_of count e) within h;
        still = λ e h. in_still waiting e0 e h;
        from = λ e h. in_parts waiting e0 e h;
        opens = λ e l h. at e l h (eqb (place_of count e) (place_of count e0)) refl;
        meets = λ e h. subst (IsFound count (set marks (place_of count e0) true)) (sym h) (get_or-set_same marks (place_of count e0) true false within);
      }
    where
      at : (e : Entrance) → e.nonterminal < count → IsFound count (set marks (place_of count e0) true) e → (b : Bool) → eqb (place_of count e) (place_of count e0) ≡ b → IsFound count marks e ⊎ IsIn (waiting ++ e0 ∷ []) e
      at e l h true k =
          let s = same_place count e.before e.nonterminal e0.before e0.nonterminal l low (eqb-true (place_of count e) (place_of count e0) k) in
          inr (in_last waiting e0 e (λ i. record { before = s.0 i; nonterminal = s.1 i }))
      at e l h false k =
          let ne : place_of count e ≢ place_of count e0 = λ same. true≢false (sym (eq-eqb (place_of count e) (place_of count e0) same) ∙ k) in
          inl (sym (get_or-set_other marks (place_of count e0) (place_of count e) true false ne) ∙ h)

  pub finds_as : (one two : Entrance → Type 0) (m0 : List Bool) (o0 : List Entrance) (m1 : List Bool) (o1 : List Entrance) → ((e : Entrance) → one e → two e) → ((e : Entrance) → two e → one e) → Finds count one m0 o0 m1 o1 → Finds count two m0 o0 m1 o1
  finds_as one two m0 o0 m1 o1 there back h =
      record {
        size = h.size;
        room = h.room;
        keeps = h.keeps;
        still = h.still;
        from = λ e k. ⊎_elim (λ (m : IsIn o0 e). inl m) (λ (m : one e). inr (there e m)) (h.from e k);
        opens = h.opens;
        meets = λ e k. h.meets e (back e k);
      }

  pub finds_start : (asked : ℕ → Entrance → Type 0) (marks : List Bool) (waiting : List Entrance) → Finds count (SomeBelow 0 asked) marks waiting marks waiting
  finds_start asked marks waiting = finds_none (SomeBelow 0 asked) marks waiting (λ e h. let l : h.0 < 0 = h.1 in omega arith)

  pub finds_next : (asked : ℕ → Entrance → Type 0) (k : ℕ) (m0 : List Bool) (o0 : List Entrance) (m1 : List Bool) (o1 : List Entrance) (m2 : List Bool) (o2 : List Entrance)
      → Finds count (SomeBelow k asked) m0 o0 m1 o1 → Finds count (asked k) m1 o1 m2 o2 → Finds count (SomeBelow (k + 1) asked) m0 o0 m2 o2
  finds_next asked k m0 o0 m1 o1 m2 o2 h n =
      record {
        size = n.size ∙ h.size;
        room = let a = h.room in let b = n.room in omega arith;
        keeps = λ e f. n.keeps e (h.keeps e f);
        still = λ e i. n.still e (h.still e i);
        from = λ e i. ⊎_elim (λ (j : IsIn o1 e). ⊎_elim (λ (q : IsIn o0 e). inl q) (λ (q : SomeBelow k asked e). inr (q.0, (let l : q.0 < k = q.1 in omega arith), q.2)) (h.from e j)) (λ (j : asked k e). inr (k, omega arith, j)) (n.from e i);
        opens = λ e l f. ⊎_elim (λ (q : IsFound count m1 e). ⊎_elim (λ (r : IsFound count m0 e). inl r) (λ (r : IsIn o1 e). inr (n.still e r)) (h.opens e l q)) (λ (q : IsIn o2 e). inr q) (n.opens e l f);
        meets = λ e s. ⊎_elim (λ (i : s.0 < k). n.keeps e (h.meets e (s.0, i, s.2))) (λ (i : k ≤ s.0). n.meets e (let q : s.0 ≡ k = (let l : s.0 < k + 1 = s.1 in omega arith) in subst (λ j. asked j e) q s.2)) (cases_lt s.0 k);
      }

  pub terminal_opens : (spot : Spot) (c : ℕ) → spot.symbol ≡ Terminal c → (e : Entrance) → Opens spot e → ⊥
  terminal_opens spot c is e h = let k : Terminal c ≡ Nonterminal e.nonterminal = sym is ∙ h.0 in cc

  pub nonterminal_opens : (spot : Spot) (a : ℕ) (m0 : List Bool) (o0 : List Entrance) (m1 : List Bool) (o1 : List Entrance) → spot.symbol ≡ Nonterminal a → Finds count (λ e. e ≡ record { before = spot.before; nonterminal = a }) m0 o0 m1 o1 → Finds count (Opens spot) m0 o0 m1 o1
  nonterminal_opens spot a m0 o0 m1 o1 is h =
      finds_as (λ e. e ≡ record { before = spot.before; nonterminal = a }) (Opens spot) m0 o0 m1 o1
      (λ e k. (is ∙ ap Nonterminal (sym (ap (λ (x : Entrance). x.nonterminal) k)), sym (ap (λ (x : Entrance). x.before) k)))
      (λ e k. λ i. record { before = sym k.1 i; nonterminal = same a e.nonterminal (sym is ∙ k.0) i }) h
    where
      same : (x y : ℕ) → Nonterminal x ≡ Nonterminal y → y ≡ x
      same x y h = cc

pub in_at : {A : Type 0} (xs : List A) (k : ℕ) (x : A) → slice_get xs k ≡ Some x → IsIn xs x
in_at {A} [] k x h = absurd (cc)
in_at {A} (y ∷ xs) zero x h = inl (let e : y ≡ x = cc in sym e)
in_at {A} (y ∷ xs) (suc k) x h = inr (in_at xs k x h)

pub at_in : {A : Type 0} (xs : List A) (x : A) → IsIn xs x → (k : ℕ) × (k < length xs) × (slice_get xs k ≡ Some x)
at_in {A} [] x h = absurd h
at_in {A} (y ∷ xs) x (inl h) = (0, omega arith, ap Some (sym h))
at_in {A} (y ∷ xs) x (inr h) = let r = at_in xs x h in (suc r.0, (let l : r.0 < length xs = r.1 in omega arith), r.2)
