-- One step of the search: a function with one letter more gets its number.
use Rattle.std.proofs.Common.{◌≡◌, ◌≢◌, ℕ, zero, suc, ◌+◌, ◌<◌, ◌≤◌, List, [], ◌∷◌, ◌++◌, length, All, Some, slice_get, refl, sym, ap, subst, ◌∙◌, arith, ⊎_elim}
use Rattle.std.specs.Prelude.{nat_eq, slice_index, slice_index_or, AllPairs}
use Rattle.std.specs.List.{IsDistinct}
use Rattle.std.specs.Cmp.Lexicographic.{pointwise, bytes_decides}
use Rattle.std.proofs.lemmas.Bool.{cases_lt}
use Rattle.std.proofs.lemmas.List.Elements.{All-append}
use Rattle.std.proofs.lemmas.Map.Made.{AllPairs-from_IsDistinct}
use Rattle.word_monoid.specs.Laws.Folds.{get_below, all_at}
use Rattle.state_monoid.specs.Automaton.{Automaton, IsAutomaton, IsWord}
use Rattle.state_monoid.specs.Image.{compose, image, IsReached, HasMoreThan}
use Rattle.state_monoid.specs.declared.explore.Origin.{Origin}
use Rattle.state_monoid.specs.declared.fault.BuildFault.{BuildFault}
use Rattle.std.specs.Prelude.{Result, Err}
use Rattle.state_monoid.specs.Letters.{IsLetter}
use Rattle.state_monoid.specs.Explored.{StaysIn, IsNumbered, IsMade, AreExplored, IsRow, AreRows}
use Rattle.state_monoid.specs.Places.{get_append, get_last, get_pushed, all_pushed, length_pushed, pushed_below, pushed_last, value_get, get_value, some_inj, no_item}
use Rattle.state_monoid.specs.Words.{length-image, image_append}
use Rattle.state_monoid.specs.Laws.Prefixes.{one_byte}
use Rattle.state_monoid.specs.Reached.{reached_length}

pub distinct_functions : (fs : List (List ℕ)) → IsDistinct (pointwise nat_eq) fs → AllPairs (λ f g. f ≢ g) fs
distinct_functions fs h = AllPairs-from_IsDistinct bytes_decides fs h

module _ (d : Automaton) where
  pub letter_length : (f : List ℕ) → IsLetter d f → length f ≡ d.states
  letter_length f r = ap (λ (l : List ℕ). length l) (sym r.2) ∙ length-image d (r.0 ∷ [])

  pub reached_next : IsAutomaton d → (f g : List ℕ) → IsReached d f → IsLetter d g → IsReached d (compose f g)
  reached_next valid f g r l = (
    r.0 ++ l.0 ∷ [],
    All-append (λ b. b < 256) r.0 (l.0 ∷ []) r.1 (one_byte l.0 l.1),
    image_append d valid r.0 (l.0 ∷ []) r.1 ∙ (λ i. compose (r.2 i) (l.2 i)),
  )

  pub more_than : (fs : List (List ℕ)) (f : List ℕ) (new : List (List ℕ)) → All (IsReached d) fs → IsReached d f → new ≡ fs ++ f ∷ [] → length new ≡ 4097
      → IsDistinct (pointwise nat_eq) new → HasMoreThan d 4096
  more_than fs f new all r e len apart = record {
    functions = new;
    count = len;
    distinct = distinct_functions new apart;
    reached = subst (All (IsReached d)) (sym e) (all_pushed (IsReached d) fs f all r);
  }

-- a new function, with its origin
explored_new : (d : Automaton) (letters fs : List (List ℕ)) (os : List Origin) (f : List ℕ) (o : Origin) → AreExplored d letters fs os → length (fs ++ f ∷ []) ≤ 4096
    → IsReached d f → o.before < length fs → o.letter < length letters → f ≡ compose (slice_index_or fs o.before []) (slice_index_or letters o.letter [])
    → AreExplored d letters (fs ++ f ∷ []) (os ++ o ∷ [])
explored_new d letters fs os f o so few reached before letter is = record {
  reached = all_pushed (IsReached d) fs f so.reached reached;
  few = few;
  first = get_append fs (f ∷ []) 0 (image d []) so.first;
  one_for_each = length_pushed os o ∙ (ap (λ (n : ℕ). n + 1) so.one_for_each ∙ sym (length_pushed fs f));
  origins = λ c p above at. ⊎_elim
      (λ (e : slice_get os c ≡ Some p).
      let made : IsMade letters fs c p = so.origins c p above e in
      let below : c < length os = get_below os c p e in
      let below_fs : c < length fs = (let len = so.one_for_each in omega arith) in
      let earlier = made.earlier in
      record {
        earlier = made.earlier;
        letter = made.letter;
        made = get_append fs (f ∷ []) c _ made.made ∙ ap (λ (g : List ℕ). Some (compose g (slice_index_or letters p.letter []))) (sym (pushed_below fs f [] p.before (omega arith)));
      })
      (λ (e : (c ≡ length os) × (o ≡ p)). subst (λ (q : Origin). IsMade letters (fs ++ f ∷ []) c q) e.1
      (let here : c ≡ length fs = e.0 ∙ so.one_for_each in
      record {
        earlier = omega arith;
        letter = letter;
        made = ap (slice_get (fs ++ f ∷ [])) here ∙ (get_last fs f ∙ ap Some (is ∙ ap (λ (g : List ℕ). compose g (slice_index_or letters o.letter [])) (sym (pushed_below fs f [] o.before before))));
      }))
      (get_pushed os o c p at);
}

pub both : {A B : Type 0} (P : A → B → Type 0) {a a' : A} {b b' : B} → a ≡ a' → b ≡ b' → P a b → P a' b'
both P {a} {a'} {b} {b'} e h p = subst (λ x. P x b') e (subst (P a) h p)

module _ (fs : List (List ℕ)) (os : List Origin) (f : List ℕ) (o : Origin) (fs' : List (List ℕ)) (os' : List Origin) (c : ℕ) (step : IsNumbered fs os f o fs' os' c) where
  pub numbered_stays : StaysIn fs fs'
  numbered_stays i g h = ⊎_elim
      (λ (e : (fs' ≡ fs) × (os' ≡ os)). subst (λ (l : List (List ℕ)). slice_get l i ≡ Some g) (sym e.0) h)
      (λ (e : (fs' ≡ fs ++ f ∷ []) × (os' ≡ os ++ o ∷ [])). subst (λ (l : List (List ℕ)). slice_get l i ≡ Some g) (sym e.0) (get_append fs (f ∷ []) i g h))
      step.known_or_new

  pub row_more : (letters : List (List ℕ)) (from row : List ℕ) (n : ℕ) → f ≡ compose from (slice_index_or letters n []) → IsRow letters fs from row n → IsRow letters fs' from (row ++ c ∷ []) (n + 1)
  row_more letters from row n is so = record {
    one_for_each = length_pushed row c ∙ (let len = so.one_for_each in omega arith);
    each_letter = λ g h. ⊎_elim
        (λ (below : g < n). ap (slice_get fs') (pushed_below row c 0 g (let len = so.one_for_each in omega arith)) ∙ numbered_stays (slice_index row g) _ (so.each_letter g below))
        (λ (above : n ≤ g).
        let here : g ≡ n = omega arith in
        ap (slice_get fs') (pushed_last row c 0 g (let len = so.one_for_each in omega arith))
        ∙ (step.found ∙ ap Some (is ∙ ap (λ (k : ℕ). compose from (slice_index_or letters k [])) (sym here))))
        (cases_lt g n);
  }

  pub explored_more : (d : Automaton) (letters : List (List ℕ)) → AreExplored d letters fs os → IsReached d f → o.before < length fs → o.letter < length letters
      → f ≡ compose (slice_index_or fs o.before []) (slice_index_or letters o.letter []) → AreExplored d letters fs' os'
  explored_more d letters so reached before letter is = ⊎_elim
      (λ (e : (fs' ≡ fs) × (os' ≡ os)). both (AreExplored d letters) (sym e.0) (sym e.1) so)
      (λ (e : (fs' ≡ fs ++ f ∷ []) × (os' ≡ os ++ o ∷ [])). both (AreExplored d letters) (sym e.0) (sym e.1)
      (explored_new d letters fs os f o so (subst (λ (l : List (List ℕ)). length l ≤ 4096) e.0 step.few) reached before letter is))
      step.known_or_new

-- a function and a letter that are read, while the search has grown from old to fs
pub record Reads (d : Automaton) (letters old fs : List (List ℕ)) (os : List Origin) (before letter : ℕ) (f g : List ℕ) : Type 0 where
  pub same_length : length f ≡ length g
  pub reached : IsReached d (compose f g)
  pub made : compose f g ≡ compose (slice_index_or fs before []) (slice_index_or letters letter [])
  pub from_old : compose f g ≡ compose (slice_index_or old before []) (slice_index_or letters letter [])

pub reads : (d : Automaton) (letters old fs : List (List ℕ)) (os : List Origin) (before letter : ℕ) (f g : List ℕ) → IsAutomaton d → All (IsLetter d) letters → AreExplored d letters fs os → StaysIn old fs
    → before < length old → slice_get fs before ≡ Some f → slice_get letters letter ≡ Some g → Reads d letters old fs os before letter f g
reads d letters old fs os before letter f g valid all so stays h at lat =
    let old_at : slice_get fs before ≡ Some (slice_index_or old before []) = stays before _ (value_get old before [] h) in
    let old_is : slice_index_or old before [] ≡ f = some_inj (slice_index_or old before []) f (sym old_at ∙ at) in
    let letter_is : slice_index_or letters letter [] ≡ g = get_value letters letter g [] lat in
    let f_is : slice_index_or fs before [] ≡ f = get_value fs before f [] at in
    let fr : IsReached d f = all_at (IsReached d) fs before f so.reached at in
    let gl : IsLetter d g = all_at (IsLetter d) letters letter g all lat in
    record {
      same_length = reached_length d f fr ∙ sym (letter_length d g gl);
      reached = reached_next d valid f g fr gl;
      made = λ i. compose (sym f_is i) (sym letter_is i);
      from_old = λ i. compose (sym old_is i) (sym letter_is i);
    }

module _ (letters fs new : List (List ℕ)) (stays : StaysIn fs new) where
  stays_at : (c : ℕ) → c < length fs → slice_index_or new c [] ≡ slice_index_or fs c []
  stays_at c h = get_value new c (slice_index_or fs c []) [] (stays c (slice_index_or fs c []) (value_get fs c [] h))

  row_stays : (f row : List ℕ) (n : ℕ) → IsRow letters fs f row n → IsRow letters new f row n
  row_stays f row n so = record {
    one_for_each = so.one_for_each;
    each_letter = λ g h. stays (slice_index row g) (compose f (slice_index_or letters g [])) (so.each_letter g h);
  }

  pub rows_more : (rows : List (List ℕ)) (row : List ℕ) → length rows < length fs → AreRows letters fs rows → IsRow letters new (slice_index_or fs (length rows) []) row (length letters)
      → AreRows letters new (rows ++ row ∷ [])
  rows_more rows row h so last c r at = ⊎_elim
      (λ (e : slice_get rows c ≡ Some r).
      let below : c < length rows = get_below rows c r e in
      subst (λ (f : List ℕ). IsRow letters new f r (length letters)) (sym (stays_at c (omega arith))) (row_stays (slice_index_or fs c []) r (length letters) (so c r e)))
      (λ (e : (c ≡ length rows) × (row ≡ r)).
      let here : slice_index_or new c [] ≡ slice_index_or fs (length rows) [] = ap (λ (k : ℕ). slice_index_or new k []) e.0 ∙ stays_at (length rows) h in
      both (λ f l. IsRow letters new f l (length letters)) (sym here) e.1 last)
      (get_pushed rows row c r at)

  pub stays_below : (c : ℕ) → c < length fs → c < length new
  stays_below c h = get_below new c (slice_index_or fs c []) (stays c (slice_index_or fs c []) (value_get fs c [] h))

pub same_fault : {T : Type 0} (r : Result T BuildFault) (y e fault : BuildFault) → r ≡ Err y → y ≡ e → r ≡ Err fault → e ≡ fault
same_fault r y e fault h k is = cc

-- the identity is numbered first
one_function : (d : Automaton) (letters : List (List ℕ)) (o : Origin) → AreExplored d letters (image d [] ∷ []) (o ∷ [])
one_function d letters o = record {
  reached = all_pushed (IsReached d) [] (image d []) (λ k e h. absurd (omega arith)) ([], (λ k e h. absurd (omega arith)), refl);
  few = omega arith;
  first = refl;
  one_for_each = refl;
  origins = none;
}
  where
    none : (c : ℕ) (p : Origin) → 0 < c → slice_get (o ∷ []) c ≡ Some p → IsMade letters (image d [] ∷ []) c p
    none zero p h at = absurd (omega arith)
    none (suc c) p h at = absurd cc

pub explored_first : (d : Automaton) (letters fs : List (List ℕ)) (os : List Origin) (f : List ℕ) (o : Origin) (fs' : List (List ℕ)) (os' : List Origin) (c : ℕ)
    → fs ≡ [] → os ≡ [] → f ≡ image d [] → IsNumbered fs os f o fs' os' c → AreExplored d letters fs' os'
explored_first d letters fs os f o fs' os' c e h is step = ⊎_elim
    (λ (k : (fs' ≡ fs) × (os' ≡ os)). absurd (no_item c f (subst (λ (l : List (List ℕ)). slice_get l c ≡ Some f) (k.0 ∙ e) step.found)))
    (λ (k : (fs' ≡ fs ++ f ∷ []) × (os' ≡ os ++ o ∷ [])).
    both (AreExplored d letters) (sym (k.0 ∙ (λ i. e i ++ is i ∷ []))) (sym (k.1 ∙ ap (λ (l : List Origin). l ++ o ∷ []) h)) (one_function d letters o))
    step.known_or_new
