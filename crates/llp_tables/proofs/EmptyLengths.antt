-- How many productions derive nothing, symbol by symbol and nonterminal by nonterminal.
use Rattle.std.proofs.Common.{◌≡◌, ◌≢◌, ℕ, suc, ◌+◌, ◌-◌, ◌^◌, ◌<◌, List, [], ◌∷◌, ◌++◌, length, take, take-suc, set, get_or, min, Bool, true, false, ◌&&◌, eqb, eqb-true, eq-eqb, Option, Some, None, is_some, slice_get, refl, sym, ap, ◌∙◌, subst, append-nil, length-append, get_or-set_other, get_or-set_same, arith}
use Rattle.std.proofs.lemmas.Bool.{true≢false}
use Rattle.std.proofs.Math.ListN.{get_or-map}
use Rattle.std.proofs.lemmas.List.{length-map, map-set}
use Rattle.std.proofs.lemmas.Option.{none-some, same_Some, slice_get-get_or}
use Rattle.std.proofs.lemmas.List.Folds.{list_all-append, list_all_at}
use Rattle.grammar_file.specs.declared.symbols.Symbol.{Symbol}
use Rattle.grammar_file.specs.declared.symbols.Symbol.TheVariants.{Terminal, Nonterminal}
use Rattle.grammar_file.specs.Grammar.{Grammar, Production, IsWellFormed}
use Rattle.grammar_file.specs.Derivation.{Derives}
use Rattle.grammar_file.specs.Laws.Derives.{derives_step}
use Rattle.grammar_file.specs.Laws.Derivations.{derives-append, derives-rest}
use Rattle.grammar_file.specs.Laws.Marks.{unmarked}
use Rattle.ll1_sets.specs.Predict.{IsNullable}
use Rattle.ll1_sets.specs.Marking.{vanishes, all_vanish, IsClosedBy}
use Rattle.ll1_sets.specs.Laws.FormTests.{and, rule_of, nullable_turn, nullable_marked}
use Rattle.llp_tables.specs.Lengths.{saturated, IsEmptyLength, AreCounts, counted, AreEmptyLengths, length_of, IsSum, IsNextLength}

-- ---- counts that stop

pub saturated_sum : (x y m n : ℕ) → m ≡ saturated x → n ≡ saturated y → min (m + n) (2 ^ 64 - 1) ≡ saturated (x + y)
saturated_sum x y m n h k = rw (h, k) omega arith

-- ---- sums

pub get_or-counted : (lengths : List (Option ℕ)) (a : ℕ) → get_or (counted lengths) a false ≡ is_some (get_or lengths a None)
get_or-counted lengths a = get_or-map is_some lengths a None

pub vanishes_counted : (lengths : List (Option ℕ)) (s : Symbol) → vanishes (counted lengths) s ≡ is_some (length_of lengths s)
vanishes_counted lengths (Terminal c) = refl
vanishes_counted lengths (Nonterminal a) = get_or-counted lengths a

pub sum_nil : (lengths : List (Option ℕ)) → IsSum lengths [] 0
sum_nil lengths = record { vanish = refl; count = λ g h. ([], refl, refl) }

count_both : (g : Grammar) (u v : List Symbol) (m n : ℕ) → IsEmptyLength g u m → IsEmptyLength g v n → IsEmptyLength g (u ++ v) (min (m + n) (2 ^ 64 - 1))
count_both g u v m n h k =
    (h.0 ++ k.0, derives-append g h.0 k.0 (u ++ v) v [] (derives-rest g h.0 u [] v h.1) k.1, saturated_sum (length h.0) (length k.0) m n h.2 k.2 ∙ ap saturated (sym (length-append h.0 k.0)))

pub sum_more : (lengths : List (Option ℕ)) (form : List Symbol) (s : Symbol) (m n : ℕ) → IsSum lengths form m → length_of lengths s ≡ Some n
    → IsSum lengths (form ++ s ∷ []) (min (m + n) (2 ^ 64 - 1))
sum_more lengths form (Terminal c) m n h is = absurd (none-some n is)
sum_more lengths form (Nonterminal a) m n h is =
    record {
      vanish = list_all-append (vanishes (counted lengths)) form (Nonterminal a ∷ [])
          ∙ and (all_vanish (counted lengths) form) (vanishes (counted lengths) (Nonterminal a) && true) h.vanish
          (and (vanishes (counted lengths) (Nonterminal a)) true (get_or-counted lengths a ∙ ap is_some is) refl);
      count = λ g counts. count_both g form (Nonterminal a ∷ []) m n (h.count g counts) (counts a n is);
    }

module _ (lengths : List (Option ℕ)) (form : List Symbol) (i : ℕ) (d : Symbol) (within : i < length form) where
  -- a symbol has no count
  pub sum_none : length_of lengths (get_or form i d) ≡ None → all_vanish (counted lengths) form ≡ false
  sum_none h = list_all_at (vanishes (counted lengths)) form i d within (vanishes_counted lengths (get_or form i d) ∙ ap is_some h)

  -- one symbol more
  pub sum_step : (m n r : ℕ) → IsSum lengths (take i form) m → length_of lengths (get_or form i d) ≡ Some n → r ≡ min (m + n) (2 ^ 64 - 1) → IsSum lengths (take (i + 1) form) r
  sum_step m n r h is sum_is =
      let next : suc i ≡ i + 1 = omega arith in
      subst (λ f. IsSum lengths f r) (sym (take-suc form i d within) ∙ ap (λ k. take k form) next)
      (subst (IsSum lengths (take i form ++ get_or form i d ∷ [])) (sym sum_is) (sum_more lengths (take i form) (get_or form i d) m n h is))

-- ---- rounds

pub rule_at : (productions : List Production) (n : ℕ) (rule : Production) → n < length productions → rule ≡ get_or productions n rule → Some rule ≡ slice_get productions n
rule_at productions n rule within is = ap Some is ∙ sym (slice_get-get_or productions n rule within)

pub none_of : (o : Option ℕ) → is_some o ≡ false → o ≡ None
none_of None h = refl
none_of (Some n) h = absurd (true≢false h)

pub next_sum : (productions : List Production) (lengths : List (Option ℕ)) (place : ℕ) (rule : Production) (n : ℕ) → slice_get productions place ≡ Some rule
    → get_or lengths rule.left None ≡ None → IsSum lengths rule.right n → IsNextLength productions lengths rule.left (min (n + 1) (2 ^ 64 - 1))
next_sum productions lengths place rule n is new h =
    record {
      next = record { place = place; rule = rule; rule_is = is; left_is = refl; right_is = h.vanish; is_new = get_or-counted lengths rule.left ∙ ap is_some new };
      count = λ g same counts. let k = h.count g counts in
          let at = rule_of g place rule rule.left (ap (λ ps. slice_get ps place) same ∙ is) refl in (
            suc place ∷ k.0,
            derives_step g (suc place) rule.left rule.right [] k.0 [] at (subst (λ f. Derives g f k.0 []) (sym (append-nil rule.right)) k.1),
            saturated_sum (length k.0) 1 n 1 k.2 refl ∙ ap saturated (let e : length k.0 + 1 ≡ suc (length k.0) = omega arith in e),
          );
    }

-- none of the first n productions has a right side whose symbols have their counts, and a left side that has none
abbrev pub IsClosedBelow : List Production → List (Option ℕ) → ℕ → Type 0
IsClosedBelow productions lengths n =
    (place : ℕ) (rule : Production) → place < n → slice_get productions place ≡ Some rule → all_vanish (counted lengths) rule.right ≡ true → get_or (counted lengths) rule.left false ≡ true

pub closed_step : (productions : List Production) (lengths : List (Option ℕ)) (n : ℕ) (rule : Production) → n < length productions → rule ≡ get_or productions n rule
    → IsClosedBelow productions lengths n → (all_vanish (counted lengths) rule.right ≡ true → get_or (counted lengths) rule.left false ≡ true) → IsClosedBelow productions lengths (n + 1)
closed_step productions lengths n rule within is below here place other lt at = go (eqb place n) refl
  where
    go : (b : Bool) → eqb place n ≡ b → all_vanish (counted lengths) other.right ≡ true → get_or (counted lengths) other.left false ≡ true
    go true e = subst (λ (r : Production). all_vanish (counted lengths) r.right ≡ true → get_or (counted lengths) r.left false ≡ true)
        (same_Some rule other (rule_at productions n rule within is ∙ (ap (slice_get productions) (sym (eqb-true place n e)) ∙ at))) here
    go false e = below place other (let ne : place ≢ n = λ same. true≢false (sym (eq-eqb place n same) ∙ e) in omega arith) at

-- one count more
counts_more : (g : Grammar) (lengths : List (Option ℕ)) (a n : ℕ) → a < length lengths → IsEmptyLength g (Nonterminal a ∷ []) n → AreCounts g lengths → AreCounts g (set lengths a (Some n))
counts_more g lengths a n within here counts x m h = go (eqb x a) refl
  where
    go : (b : Bool) → eqb x a ≡ b → IsEmptyLength g (Nonterminal x ∷ []) m
    go true e =
        let same = eqb-true x a e in
        let number : n ≡ m = same_Some n m (sym (get_or-set_same lengths a (Some n) None within) ∙ (ap (λ i. get_or (set lengths a (Some n)) i None) (sym same) ∙ h)) in
        subst (λ i. IsEmptyLength g (Nonterminal i ∷ []) m) (sym same) (subst (IsEmptyLength g (Nonterminal a ∷ [])) number here)
    go false e = let ne : x ≢ a = λ same. true≢false (sym (eq-eqb x a same) ∙ e) in counts x m (sym (get_or-set_other lengths a x (Some n) None ne) ∙ h)

module _ (g : Grammar) (lengths : List (Option ℕ)) (so_far : AreCounts g lengths) where
  is_counted : (a : ℕ) → get_or (counted lengths) a false ≡ true → IsNullable g (Nonterminal a ∷ [])
  is_counted a h = go (get_or lengths a None) refl
    where
      go : (o : Option ℕ) → get_or lengths a None ≡ o → IsNullable g (Nonterminal a ∷ [])
      go None is = absurd (true≢false (sym h ∙ (get_or-counted lengths a ∙ ap is_some is)))
      go (Some n) is = let c = so_far a n is in (c.0, c.1)

  -- one round: a count for a nonterminal of the grammar that had none
  pub record IsRound (a n : ℕ) : Type 0 where
    pub within : a < length lengths
    pub less : unmarked (counted (set lengths a (Some n))) < unmarked (counted lengths)
    pub counts : AreCounts g (set lengths a (Some n))

  pub round : IsWellFormed g → (a n : ℕ) → length lengths ≡ length g.nonterminals → IsNextLength g.productions lengths a n → IsRound a n
  round well a n len h =
      let t = nullable_turn g well (counted lengths) a (length-map lengths is_some ∙ len) is_counted h.next in
      let within : a < length lengths = subst (λ k. a < k) (length-map lengths is_some) t.within in
      record {
        within = within;
        less = subst (λ marks. unmarked marks < unmarked (counted lengths)) (sym (map-set is_some lengths a (Some n))) t.less;
        counts = counts_more g lengths a n within (h.count g refl so_far) so_far;
      }

  pub counts_all : length lengths ≡ length g.nonterminals → IsClosedBy (all_vanish (counted lengths)) g.productions (counted lengths) → AreEmptyLengths g lengths
  counts_all len closed =
      record {
        which = record { len = length-map lengths is_some ∙ len; sound = is_counted; complete = nullable_marked g (counted lengths) closed };
        counts = so_far;
      }
