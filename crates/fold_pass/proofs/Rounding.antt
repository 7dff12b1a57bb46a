-- What a round makes of what is known.
use Rattle.std.proofs.Common.{◌≡◌, ◌≢◌, ℕ, zero, suc, ◌+◌, ◌<◌, ◌≤◌, ◌⊎◌, inl, inr, Bool, true, false, not, List, [], ◌∷◌, ◌++◌, length, map, get_or, set, take, drop, Option, Some, None, refl, sym, ap, ◌∙◌, subst, arith}
use Rattle.std.specs.Prelude.{◌&&◌, if◌then◌else◌, is_some, nat_eq}
use Rattle.std.proofs.lemmas.Bool.Decides.{nat_tests}
use Rattle.std.specs.List.{range_with_len, filter}
use Rattle.std.proofs.lemmas.Bool.{cases_lt, cases_eq}
use Rattle.std.proofs.lemmas.List.{ext_get_or, get_or-map, length-map, length-set, length-append, get_or-set_same, get_or-set_other, get_or_append_left, get_or_past}
use Rattle.std.proofs.Math.Seq.{get_or-append_seam}
use Rattle.std.proofs.lemmas.List.FromFn.{get_or-map-range_with_len, length-map-range_with_len, length-range_with_len}
use Rattle.source_meaning.specs.declared.kinds.Kind.{Kind}
use Rattle.source_meaning.specs.declared.kinds.Kind.TheVariants.{Program as ProgramKind, And, Or, Binary, Unary, Num, Truth}
use Rattle.folded_rows.specs.Columns.{Columns, constant_by, is_literal, number_in, value_in, many, kind_in, left_of, right_of, AreConstants}
use Rattle.folded_rows.specs.Levels.{AreLinked, is_operator, has_left, is_foldable}
use Rattle.fold_pass.specs.Rounds.{IsBounded, unknown, constant_at, known_after, HasChild, AreRounds, told_by, AreTold}

-- ---- constants of kinds
-- what is known stays, as more is known of the children
pub grows : (k : Kind) (a b a' b' : Option ℕ) (x : ℕ) → ((y : ℕ) → a ≡ Some y → a' ≡ Some y) → ((y : ℕ) → b ≡ Some y → b' ≡ Some y) → constant_by k a b ≡ Some x → constant_by k a' b' ≡ Some x
grows (Num v) a b a' b' x f g e = e
grows (Truth v) a b a' b' x f g e = e
grows (Unary op) a None a' b' x f g e = absurd (cc)
grows (Unary op) a (Some y) a' b' x f g e = ap (constant_by (Unary op) a') (g y refl) ∙ e
grows (Binary op) None b a' b' x f g e = absurd (cc)
grows (Binary op) (Some y) None a' b' x f g e = absurd (cc)
grows (Binary op) (Some y) (Some z) a' b' x f g e = (λ i. constant_by (Binary op) (f y refl i) (g z refl i)) ∙ e
grows And None b a' b' x f g e = absurd (cc)
grows And (Some zero) b a' b' x f g e = ap (λ q. constant_by And q b') (f zero refl) ∙ e
grows And (Some (suc n)) b a' b' x f g e = ap (λ q. constant_by And q b') (f (suc n) refl) ∙ g x e
grows Or None b a' b' x f g e = absurd (cc)
grows Or (Some zero) b a' b' x f g e = ap (λ q. constant_by Or q b') (f zero refl) ∙ g x e
grows Or (Some (suc n)) b a' b' x f g e = ap (λ q. constant_by Or q b') (f (suc n) refl) ∙ e
grows k a b a' b' x f g e = absurd (cc)

-- a row becomes a constant since one of its operands has changed
depends : (k : Kind) (a b a' b' : Option ℕ) (x : ℕ) (D E : Type 0) → constant_by k a b ≡ None → constant_by k a' b' ≡ Some x → (a' ≡ a) ⊎ D → (b' ≡ b) ⊎ E → ((is_operator k ≡ true) × E) ⊎ ((has_left k ≡ true) × D)
depends k a b a' b' x D E e f (inl g) (inl h) = absurd (let z : constant_by k a' b' ≡ constant_by k a b = (λ i. constant_by k (g i) (h i)) in let y : Some x ≡ None = sym f ∙ z ∙ e in cc)
depends (Num v) a b a' b' x D E e f (inl g) (inr h) = absurd (cc)
depends (Truth v) a b a' b' x D E e f (inl g) (inr h) = absurd (cc)
depends (Unary op) a b a' b' x D E e f (inl g) (inr h) = inl (refl, h)
depends (Binary op) a b a' b' x D E e f (inl g) (inr h) = inl (refl, h)
depends And a b a' b' x D E e f (inl g) (inr h) = inl (refl, h)
depends Or a b a' b' x D E e f (inl g) (inr h) = inl (refl, h)
depends k a b a' b' x D E e f (inl g) (inr h) = absurd (cc)
depends (Num v) a b a' b' x D E e f (inr g) (inr h) = absurd (cc)
depends (Truth v) a b a' b' x D E e f (inr g) (inr h) = absurd (cc)
depends (Unary op) a b a' b' x D E e f (inr g) (inr h) = inl (refl, h)
depends (Binary op) a b a' b' x D E e f (inr g) (inr h) = inl (refl, h)
depends And a b a' b' x D E e f (inr g) (inr h) = inl (refl, h)
depends Or a b a' b' x D E e f (inr g) (inr h) = inl (refl, h)
depends k a b a' b' x D E e f (inr g) (inr h) = absurd (cc)
depends (Num v) a b a' b' x D E e f (inr g) (inl h) = absurd (cc)
depends (Truth v) a b a' b' x D E e f (inr g) (inl h) = absurd (cc)
depends (Unary op) a b a' b' x D E e f (inr g) (inl h) = absurd (let z : constant_by (Unary op) a' b' ≡ constant_by (Unary op) a b = ap (constant_by (Unary op) a') h in let y : Some x ≡ None = sym f ∙ z ∙ e in cc)
depends (Binary op) a b a' b' x D E e f (inr g) (inl h) = inr (refl, g)
depends And a b a' b' x D E e f (inr g) (inl h) = inr (refl, g)
depends Or a b a' b' x D E e f (inr g) (inl h) = inr (refl, g)
depends k a b a' b' x D E e f (inr g) (inl h) = absurd (cc)

some_operator : (k : Kind) (a b : Option ℕ) → is_some (constant_by k a b) ≡ true → is_literal k ≡ false → is_operator k ≡ true
some_operator (Num v) a b e f = absurd (cc)
some_operator (Truth v) a b e f = absurd (cc)
some_operator (Unary op) a b e f = refl
some_operator (Binary op) a b e f = refl
some_operator And a b e f = refl
some_operator Or a b e f = refl
some_operator k a b e f = absurd (cc)

literal_some : (k : Kind) (a b : Option ℕ) → is_literal k ≡ true → is_some (constant_by k a b) ≡ true
literal_some (Num v) a b e = refl
literal_some (Truth v) a b e = refl
literal_some k a b e = absurd (cc)

leaf_literal : (k : Kind) → is_some (constant_by k None None) ≡ true → is_literal k ≡ true
leaf_literal (Num v) e = refl
leaf_literal (Truth v) e = refl
leaf_literal k e = absurd (cc)

literal_foldable : (k : Kind) → is_literal k ≡ true → is_foldable k ≡ true
literal_foldable (Num v) e = refl
literal_foldable (Truth v) e = refl
literal_foldable k e = absurd (cc)

-- ---- options
some_is : (o : Option ℕ) → is_some o ≡ true → (x : ℕ) × (o ≡ Some x)
some_is None e = absurd (cc)
some_is (Some x) e = (x, refl)

known_or : (o : Option ℕ) → (o ≡ None) ⊎ ((x : ℕ) × (o ≡ Some x))
known_or None = inl refl
known_or (Some x) = inr (x, refl)

pub bool_or : (b : Bool) → (b ≡ true) ⊎ (b ≡ false)
bool_or true = inl refl
bool_or false = inr refl

value_within : (values : List (Option ℕ)) (k : ℕ) → is_some (value_in values k) ≡ true → k < length values
value_within values k e = elim (cases_lt k (length values)) [
  | inl l ↦ l
  | inr g ↦ absurd (let f = ap is_some (get_or_past values k None g) in cc)
]

-- ---- numbers that pass a test
pub filter_has : (test : ℕ → Bool) (i n k : ℕ) → i ≤ k → k < i + n → test k ≡ true → (m : ℕ) × (m < length (filter test (range_with_len i n))) × (get_or (filter test (range_with_len i n)) m 0 ≡ k)
filter_has test i zero k a b e = absurd (omega arith)
filter_has test i (suc n) k a b e = elim (cases_eq i k) [
  | inl z ↦ here (test i) refl (ap test z ∙ e) z
  | inr d ↦ more (test i) refl (filter_has test (i + 1) n k (let q : i ≢ k = d in omega arith) (omega arith) e)
]
  where
    here : (b : Bool) → test i ≡ b → test i ≡ true → i ≡ k → (m : ℕ) × (m < length (filter test (range_with_len i (suc n)))) × (get_or (filter test (range_with_len i (suc n))) m 0 ≡ k)
    here b q q' z = subst (λ b. (m : ℕ) × (m < length (if b then i ∷ filter test (range_with_len (i + 1) n) else filter test (range_with_len (i + 1) n)))
        × (get_or (if b then i ∷ filter test (range_with_len (i + 1) n) else filter test (range_with_len (i + 1) n)) m 0 ≡ k)) (sym q') (0, omega arith, z)

    more : (b : Bool) → test i ≡ b → (m : ℕ) × (m < length (filter test (range_with_len (i + 1) n))) × (get_or (filter test (range_with_len (i + 1) n)) m 0 ≡ k)
        → (m : ℕ) × (m < length (filter test (range_with_len i (suc n)))) × (get_or (filter test (range_with_len i (suc n))) m 0 ≡ k)
    more true q r = subst (λ b. (m : ℕ) × (m < length (if b then i ∷ filter test (range_with_len (i + 1) n) else filter test (range_with_len (i + 1) n)))
        × (get_or (if b then i ∷ filter test (range_with_len (i + 1) n) else filter test (range_with_len (i + 1) n)) m 0 ≡ k)) (sym q) (suc r.0, let l = r.1 in omega arith, r.2)
    more false q r = subst (λ b. (m : ℕ) × (m < length (if b then i ∷ filter test (range_with_len (i + 1) n) else filter test (range_with_len (i + 1) n)))
        × (get_or (if b then i ∷ filter test (range_with_len (i + 1) n) else filter test (range_with_len (i + 1) n)) m 0 ≡ k)) (sym q) r

filter_is : (test : ℕ → Bool) (i n m : ℕ) → m < length (filter test (range_with_len i n))
    → (i ≤ get_or (filter test (range_with_len i n)) m 0) × (get_or (filter test (range_with_len i n)) m 0 < i + n) × (test (get_or (filter test (range_with_len i n)) m 0) ≡ true)
filter_is test i zero m l = absurd (omega arith)
filter_is test i (suc n) m l = by (test i) refl m l (λ m l. let r = filter_is test (i + 1) n m l in (let a = r.0 in omega arith, let b = r.1 in omega arith, r.2))
  where
    by : (b : Bool) → test i ≡ b → (m : ℕ) → m < length (filter test (range_with_len i (suc n)))
        → ((m : ℕ) → m < length (filter test (range_with_len (i + 1) n)) → (i ≤ get_or (filter test (range_with_len (i + 1) n)) m 0) × (get_or (filter test (range_with_len (i + 1) n)) m 0 < i + suc n) × (test (get_or (filter test (range_with_len (i + 1) n)) m 0) ≡ true))
        → (i ≤ get_or (filter test (range_with_len i (suc n))) m 0) × (get_or (filter test (range_with_len i (suc n))) m 0 < i + suc n) × (test (get_or (filter test (range_with_len i (suc n))) m 0) ≡ true)
    by b e m l rest = go b e (subst (λ b. m < length (if b then i ∷ filter test (range_with_len (i + 1) n) else filter test (range_with_len (i + 1) n))) e l)
      where
        go : (b : Bool) → test i ≡ b → m < length (if b then i ∷ filter test (range_with_len (i + 1) n) else filter test (range_with_len (i + 1) n))
            → (i ≤ get_or (filter test (range_with_len i (suc n))) m 0) × (get_or (filter test (range_with_len i (suc n))) m 0 < i + suc n) × (test (get_or (filter test (range_with_len i (suc n))) m 0) ≡ true)
        go b e l = subst (λ b. (i ≤ get_or (if b then i ∷ filter test (range_with_len (i + 1) n) else filter test (range_with_len (i + 1) n)) m 0)
            × (get_or (if b then i ∷ filter test (range_with_len (i + 1) n) else filter test (range_with_len (i + 1) n)) m 0 < i + suc n)
            × (test (get_or (if b then i ∷ filter test (range_with_len (i + 1) n) else filter test (range_with_len (i + 1) n)) m 0) ≡ true)) (sym e) (last b e m l)
          where
            last : (b : Bool) → test i ≡ b → (m : ℕ) → m < length (if b then i ∷ filter test (range_with_len (i + 1) n) else filter test (range_with_len (i + 1) n))
                → (i ≤ get_or (if b then i ∷ filter test (range_with_len (i + 1) n) else filter test (range_with_len (i + 1) n)) m 0)
                × (get_or (if b then i ∷ filter test (range_with_len (i + 1) n) else filter test (range_with_len (i + 1) n)) m 0 < i + suc n)
                × (test (get_or (if b then i ∷ filter test (range_with_len (i + 1) n) else filter test (range_with_len (i + 1) n)) m 0) ≡ true)
            last true e zero l = (omega arith, omega arith, e)
            last true e (suc m) l = rest m (omega arith)
            last false e m l = rest m l

-- ---- one fresh row tells
unknown_set : (values : List (Option ℕ)) (k x : ℕ) → k < length values → value_in values k ≡ None → unknown (set values k (Some x)) + 1 ≡ unknown values
unknown_set [] k x l e = absurd (omega arith)
unknown_set (v ∷ vs) zero x l e = ap (λ n. n + 1) (let z : (if is_some (Some x) then 0 else 1) + unknown vs ≡ unknown vs = omega arith in z) ∙ (let z : unknown vs + 1 ≡ 1 + unknown vs = omega arith in z) ∙ ap (λ o. (if is_some o then 0 else 1) + unknown vs) (sym e)
unknown_set (v ∷ vs) (suc k) x l e = let h = unknown_set vs k x (omega arith) e in omega arith

module _ (c : Columns) (fresh : List ℕ) (told : List (Option ℕ)) where
  abbrev parent : ℕ → ℕ
  parent j = number_in c.parents (number_in fresh j)

  pub none_told : (values : List (Option ℕ)) → AreTold c fresh told 0 values values []
  none_told values = record {
    as_many = refl;
    kept = λ k x e. e;
    changed = λ k. inl refl;
    next_of = λ i l. absurd (omega arith);
    put = λ j x l e. absurd (omega arith);
    fewer = omega arith;
  }

  -- where it is known already, or there is nothing to tell
  told_nothing : (n : ℕ) (old new : List (Option ℕ)) (next : List ℕ) → AreTold c fresh told n old new next → ((x : ℕ) → value_in told n ≡ Some x → is_some (value_in new (parent n)) ≡ true) → AreTold c fresh told (n + 1) old new next
  told_nothing n old new next h e = record {
    as_many = h.as_many;
    kept = h.kept;
    changed = h.changed;
    next_of = λ i l. let r = h.next_of i l in (r.0, (r.1.0, let s = r.1.1 in omega arith, r.1.2, r.1.3, r.1.4));
    put = λ j x l t. elim (cases_lt j n) [
      | inl s ↦ h.put j x s t
      | inr s ↦
          let z : n ≡ j = omega arith in
          subst (λ m. is_some (value_in new (parent m)) ≡ true) z (e x (ap (value_in told) z ∙ t))
    ];
    fewer = h.fewer;
  }

  told_new : (n x : ℕ) (old new : List (Option ℕ)) (next : List ℕ) → AreTold c fresh told n old new next → value_in told n ≡ Some x → value_in new (parent n) ≡ None → parent n < length new
      → AreTold c fresh told (n + 1) old (set new (parent n) (Some x)) (next ++ parent n ∷ [])
  told_new n x old new next h t e l =
      let p = parent n in
      let same : value_in (set new p (Some x)) p ≡ Some x = get_or-set_same new p (Some x) None l in
      let other : (k : ℕ) → (k ≡ p → ⊥) → value_in (set new p (Some x)) k ≡ value_in new k = (λ k d. get_or-set_other new p k (Some x) None d) in
      let lens : length (next ++ p ∷ []) ≡ length next + 1 = length-append next (p ∷ []) in
      record {
        as_many = length-set new p (Some x) ∙ h.as_many;
        kept = λ k y q. elim (cases_eq k p) [
          | inl z ↦ absurd (let f = sym e ∙ ap (value_in new) (sym z) ∙ h.kept k y q in cc)
          | inr d ↦ other k d ∙ h.kept k y q
        ];
        changed = λ k. elim (cases_eq k p) [
          | inl z ↦ inr (length next, omega arith, get_or-append_seam next p [] 0 ∙ sym z)
          | inr d ↦ elim (h.changed k) [
            | inl q ↦ inl (other k d ∙ q)
            | inr q ↦ inr (q.0, let s = q.1 in omega arith, get_or_append_left next (p ∷ []) 0 q.0 q.1 ∙ q.2)
          ]
        ];
        next_of = λ i m. elim (cases_lt i (length next)) [
          | inl s ↦
              let r = h.next_of i s in
              let z : number_in (next ++ p ∷ []) i ≡ number_in next i = get_or_append_left next (p ∷ []) 0 i s in
              let apart : number_in next i ≡ p → ⊥ = (λ q. absurd (let f = sym e ∙ ap (value_in new) (sym q) ∙ r.1.3 in let g = ap is_some f ∙ r.1.4 in cc)) in (
                ap (value_in old) z ∙ r.0,
                (r.1.0, let w = r.1.1 in omega arith, r.1.2 ∙ sym z, ap (value_in (set new p (Some x))) z ∙ other (number_in next i) apart ∙ r.1.3, r.1.4),
              )
          | inr s ↦
              let q : i ≡ length next = omega arith in
              let z : number_in (next ++ p ∷ []) i ≡ p = ap (number_in (next ++ p ∷ [])) q ∙ get_or-append_seam next p [] 0 in
              let was : value_in old p ≡ None = elim (known_or (value_in old p)) [
                | inl o ↦ o
                | inr o ↦ absurd (let f = sym e ∙ h.kept p o.0 o.1 in cc)
              ] in (
                ap (value_in old) z ∙ was,
                (n, omega arith, sym z, ap (value_in (set new p (Some x))) z ∙ same ∙ sym t, ap is_some t),
              )
        ];
        put = λ j y m q. elim (cases_eq (parent j) p) [
          | inl z ↦ ap is_some (ap (value_in (set new p (Some x))) z ∙ same)
          | inr d ↦ elim (cases_lt j n) [
            | inl s ↦ ap is_some (other (parent j) d) ∙ h.put j y s q
            | inr s ↦ absurd (d (ap parent (let w : j ≡ n = omega arith in w)))
          ]
        ];
        fewer = let u = unknown_set new p x l e in let f = h.fewer in omega arith;
      }

  -- as the code puts it
  pub told_more : (n : ℕ) (old new : List (Option ℕ)) (next : List ℕ) (b : Bool) → AreTold c fresh told n old new next → (is_some (value_in told n) ≡ true → parent n < length new) → (is_some (value_in told n) && not (is_some (value_in new (parent n)))) ≡ b
      → AreTold c fresh told (n + 1) old (if b then set new (parent n) (value_in told n) else new) (if b then next ++ parent n ∷ [] else next)
  told_more n old new next true h l e =
      let both = parts (is_some (value_in told n)) (is_some (value_in new (parent n))) e in
      let t = some_is (value_in told n) both.0 in
      let z = none_is (value_in new (parent n)) both.1 in
      subst (λ o. AreTold c fresh told (n + 1) old (set new (parent n) o) (next ++ parent n ∷ [])) (sym t.1) (told_new n t.0 old new next h t.1 z (l both.0))
    where
      parts : (a b : Bool) → (a && not b) ≡ true → (a ≡ true) × (b ≡ false)
      parts true true e = absurd (cc)
      parts true false e = (refl, refl)
      parts false b e = absurd (cc)

      none_is : (o : Option ℕ) → is_some o ≡ false → o ≡ None
      none_is None e = refl
      none_is (Some x) e = absurd (cc)
  told_more n old new next false h l e =
      told_nothing n old new next h (λ x t. by (is_some (value_in new (parent n))) (sym (ap (λ a. a && not (is_some (value_in new (parent n)))) (ap is_some t)) ∙ e))
    where
      by : (a : Bool) → not a ≡ false → a ≡ true
      by true e = refl
      by false e = absurd (cc)

pub told_step : (c : Columns) (fresh : List ℕ) (told : List (Option ℕ)) (n : ℕ) (old new new' : List (Option ℕ)) (next next' : List ℕ) (p : ℕ) (b : Bool) → p ≡ number_in c.parents (number_in fresh n)
    → b ≡ (is_some (value_in told n) && not (is_some (value_in new p))) → new' ≡ (if b then set new p (value_in told n) else new) → next' ≡ (if b then next ++ p ∷ [] else next) → (is_some (value_in told n) ≡ true → p < length new)
    → AreTold c fresh told n old new next → AreTold c fresh told (n + 1) old new' next'
told_step c fresh told n old new new' next next' p b e f g h l t =
    subst (λ q. AreTold c fresh told (n + 1) old q next') (sym (g ∙ ap (λ q. if b then set new q (value_in told n) else new) e))
    (subst (λ q. AreTold c fresh told (n + 1) old (if b then set new (number_in c.parents (number_in fresh n)) (value_in told n) else new) q) (sym (h ∙ ap (λ q. if b then next ++ q ∷ [] else next) e))
    (told_more c fresh told n old new next b t (λ o. subst (λ q. q < length new) e (l o)) (sym (f ∙ ap (λ q. is_some (value_in told n) && not (is_some (value_in new q))) e))))

pub told_as : (c : Columns) (f f' : List ℕ) (t t' o o' n : List (Option ℕ)) (x : List ℕ) → f ≡ f' → t ≡ t' → o ≡ o' → AreTold c f t (length f) o n x → AreTold c f' t' (length f') o' n x
told_as c f f' t t' o o' n x e g h a = subst (λ q. AreTold c q t' (length q) o' n x) e (subst (λ q. AreTold c f q (length f) o' n x) g (subst (λ q. AreTold c f t (length f) q n x) h a))

unknown_few : (xs : List (Option ℕ)) → unknown xs ≤ length xs
unknown_few [] = omega arith
unknown_few (None ∷ xs) = let h = unknown_few xs in omega arith
unknown_few (Some x ∷ xs) = let h = unknown_few xs in omega arith

pub next_few : (c : Columns) (f : List ℕ) (t o n : List (Option ℕ)) (x : List ℕ) (m : ℕ) → AreTold c f t m o n x → length x ≤ length o
next_few c f t o n x m a = let h = a.fewer in let u = unknown_few o in omega arith

pub kept_whole : (n : ℕ) (xs ys : List (Option ℕ)) → n ≡ length xs → take n (xs ++ drop (length xs) ys) ≡ xs
kept_whole n xs ys e = ap (λ m. take m (xs ++ drop (length xs) ys)) e ∙ go xs (drop (length xs) ys)
  where
    go : (xs zs : List (Option ℕ)) → take (length xs) (xs ++ zs) ≡ xs
    go [] zs = refl
    go (x ∷ xs) zs = ap (λ l. x ∷ l) (go xs zs)

-- where there is no row there is no constant
pub constant_within : (c : Columns) (values : List (Option ℕ)) (k : ℕ) → is_some (constant_at c values k) ≡ true → k < many c
constant_within c values k e = elim (cases_lt k (many c)) [
  | inl l ↦ l
  | inr g ↦
      let z : kind_in c k ≡ ProgramKind = get_or_past c.kinds k ProgramKind g in
      absurd (let f = sym (ap (λ q. is_some (constant_by q (value_in values (left_of c k)) (value_in values (right_of c k)))) z) ∙ e in cc)
]

pub filter_few : (test : ℕ → Bool) (xs : List ℕ) → length (filter test xs) ≤ length xs
filter_few test [] = omega arith
filter_few test (x ∷ xs) = by (test x) (filter_few test xs)
  where
    by : (b : Bool) → length (filter test xs) ≤ length xs → length (if b then x ∷ filter test xs else filter test xs) ≤ suc (length xs)
    by true h = omega arith
    by false h = omega arith

pub set_many : (b : Bool) (new new' : List (Option ℕ)) (p : ℕ) (t : Option ℕ) → new' ≡ (if b then set new p t else new) → length new' ≡ length new
set_many true new new' p t e = ap length e ∙ length-set new p t
set_many false new new' p t e = ap length e

-- ---- a round
module _ (c : Columns) where
  pub round_on : (rounds : ℕ) (fresh next : List ℕ) (told old new : List (Option ℕ)) → AreRounds c rounds old fresh → told ≡ told_by c old fresh → AreTold c fresh told (length fresh) old new next → AreRounds c (rounds + 1) new next
  round_on rounds fresh next told old new h is t = record {
    as_many = many_is;
    known = known;
    literals = λ k l e. let r = some_is (value_in old k) (h.literals k l e) in ap is_some (t.kept k r.0 r.1);
    waiting = waiting;
    same = λ linked.
        let z : suc rounds ≡ rounds + 1 = omega arith in
        ext_get_or None new (known_after c (suc (rounds + 1))) (many_is ∙ sym (length-map-range_with_len (constant_at c (known_after c (rounds + 1))) 0 (many c))) (λ k l.
        let m : k < many c = (let q = many_is in omega arith) in
        here linked k m
        ∙ ap (λ v. constant_at c v k) (h.same linked ∙ ap (known_after c) z)
        ∙ sym (get_or-map-range_with_len (constant_at c (known_after c (rounds + 1))) 0 (many c) k k None m (omega arith)));
    within = λ i l. let w = value_within new (number_in next i) (next_known i l) in omega arith;
    found = next_known;
    high = λ n height heights i l.
        let r = t.next_of i l in
        let j = r.1.0 in
        let up = r.1.2 in
        let m = h.within j r.1.1 in
        let here : constant_at c old (number_in next i) ≡ value_in told j = ap (constant_at c old) (sym up) ∙ sym (told_there j r.1.1) in
        let some : is_some (constant_at c old (number_in next i)) ≡ true = ap is_some here ∙ r.1.4 in
        let w = value_within new (number_in next i) (next_known i l) in
        let literal : is_literal (kind_in c (number_in next i)) ≡ false = elim (bool_or (is_literal (kind_in c (number_in next i)))) [
          | inl q ↦ absurd (let f = sym (ap is_some r.0) ∙ h.literals (number_in next i) (let q' = many_is in omega arith) q in cc)
          | inr q ↦ q
        ] in
        let operator : is_operator (kind_in c (number_in next i)) ≡ true = some_operator (kind_in c (number_in next i)) (value_in old (left_of c (number_in next i))) (value_in old (right_of c (number_in next i))) some literal in
        let rise = heights.rises (number_in fresh j) m (ap (λ q. is_operator (kind_in c q)) up ∙ operator) in
        let at = ap height up in
        let low = h.high n height heights j r.1.1 in
        omega arith;
  }
    where
      many_is : length new ≡ many c
      many_is = t.as_many ∙ h.as_many

      told_there : (j : ℕ) → j < length fresh → value_in told j ≡ constant_at c old (number_in c.parents (number_in fresh j))
      told_there j l = ap (λ q. get_or q j None) is ∙ get_or-map (λ k. constant_at c old (number_in c.parents k)) fresh j 0 None l

      next_known : (i : ℕ) → i < length next → is_some (value_in new (number_in next i)) ≡ true
      next_known i l = let r = t.next_of i l in ap is_some r.1.3 ∙ r.1.4

      more : (k x : ℕ) → constant_at c old k ≡ Some x → constant_at c new k ≡ Some x
      more k x e = grows (kind_in c k) (value_in old (left_of c k)) (value_in old (right_of c k)) (value_in new (left_of c k)) (value_in new (right_of c k)) x (t.kept (left_of c k)) (t.kept (right_of c k)) e

      known : (k x : ℕ) → k < many c → value_in new k ≡ Some x → constant_at c new k ≡ Some x
      known k x l e = elim (t.changed k) [
        | inl q ↦ more k x (h.known k x l (sym q ∙ e))
        | inr q ↦
            let r = t.next_of q.0 q.1 in
            let j = r.1.0 in
            more k x (ap (constant_at c old) (sym (r.1.2 ∙ q.2)) ∙ sym (told_there j r.1.1) ∙ sym r.1.3 ∙ ap (value_in new) q.2 ∙ e)
      ]

      here : AreLinked c → (k : ℕ) → k < many c → value_in new k ≡ constant_at c old k
      here linked k l = elim (known_or (value_in new k)) [
        | inr o ↦ elim (t.changed k) [
          | inl q ↦ o.1 ∙ sym (h.known k o.0 l (sym q ∙ o.1))
          | inr q ↦
              let r = t.next_of q.0 q.1 in
              let j = r.1.0 in
              ap (value_in new) (sym q.2) ∙ r.1.3 ∙ told_there j r.1.1 ∙ ap (constant_at c old) (r.1.2 ∙ q.2)
        ]
        | inl o ↦ elim (known_or (constant_at c old k)) [
          | inl y ↦ o ∙ sym y
          | inr y ↦ elim (known_or (value_in old k)) [
            | inr u ↦ absurd (let g = sym o ∙ t.kept k u.0 u.1 in cc)
            | inl u ↦
                let w = h.waiting linked k y.0 l u y.1 in
                let told_y : value_in told w.0 ≡ Some y.0 = told_there w.0 w.1 ∙ ap (constant_at c old) w.2 ∙ y.1 in
                let some = t.put w.0 y.0 w.1 told_y in
                absurd (let g = sym (ap is_some (ap (value_in new) w.2 ∙ o)) ∙ some in cc)
          ]
        ]
      ]

      waiting : AreLinked c → (k x : ℕ) → k < many c → value_in new k ≡ None → constant_at c new k ≡ Some x → HasChild c next k
      waiting linked k x l e f = elim (known_or (value_in old k)) [
        | inr o ↦ absurd (let g = sym e ∙ t.kept k o.0 o.1 in cc)
        | inl o ↦ elim (known_or (constant_at c old k)) [
          | inr y ↦
              let w = h.waiting linked k y.0 l o y.1 in
              let told_y : value_in told w.0 ≡ Some y.0 = told_there w.0 w.1 ∙ ap (constant_at c old) w.2 ∙ y.1 in
              let some = t.put w.0 y.0 w.1 told_y in
              absurd (let g = sym (ap is_some (ap (value_in new) w.2 ∙ e)) ∙ some in cc)
          | inl y ↦ elim (depends (kind_in c k) (value_in old (left_of c k)) (value_in old (right_of c k)) (value_in new (left_of c k)) (value_in new (right_of c k)) x _ _ y f (t.changed (left_of c k)) (t.changed (right_of c k))) [
            | inl r ↦ (r.1.0, r.1.1, ap (number_in c.parents) r.1.2 ∙ (linked k l).0 r.0)
            | inr r ↦ (r.1.0, r.1.1, ap (number_in c.parents) r.1.2 ∙ (linked k l).1 r.0)
          ]
        ]
      ]

  -- ---- the end
  pub all_found : (rounds : ℕ) (values : List (Option ℕ)) (fresh : List ℕ) → AreRounds c rounds values fresh → length fresh ≡ 0 → AreLinked c → AreConstants c values
  all_found rounds values fresh h e linked k l = elim (known_or (value_in values k)) [
    | inr o ↦ o.1 ∙ sym (h.known k o.0 l o.1)
    | inl o ↦ elim (known_or (constant_at c values k)) [
      | inl y ↦ o ∙ sym y
      | inr y ↦ absurd (let w = h.waiting linked k y.0 l o y.1 in let q = w.1 in omega arith)
    ]
  ]

  -- ---- the beginning
  module _ (values : List (Option ℕ)) (fresh : List ℕ) (are : values ≡ map (λ k. constant_by k None None) c.kinds) (literal : fresh ≡ filter (λ k. is_literal (kind_in c k)) (range_with_len 0 (many c))) where
    value_there : (k : ℕ) → k < many c → value_in values k ≡ constant_by (kind_in c k) None None
    value_there k l = ap (λ q. get_or q k None) are ∙ get_or-map (λ k. constant_by k None None) c.kinds k ProgramKind None l

    first_many : length values ≡ many c
    first_many = ap length are ∙ length-map c.kinds (λ k. constant_by k None None)

    there : (k : ℕ) → k < many c → is_literal (kind_in c k) ≡ true → (i : ℕ) × (i < length fresh) × (number_in fresh i ≡ k)
    there k l e = let r = filter_has (λ k. is_literal (kind_in c k)) 0 (many c) k (omega arith) (omega arith) e in (r.0, subst (λ q. r.0 < length q) (sym literal) r.1, ap (λ q. number_in q r.0) literal ∙ r.2)

    of_fresh : (i : ℕ) → i < length fresh → (number_in fresh i < many c) × (is_literal (kind_in c (number_in fresh i)) ≡ true)
    of_fresh i l =
        let r = filter_is (λ k. is_literal (kind_in c k)) 0 (many c) i (subst (λ q. i < length q) literal l) in
        let z : number_in fresh i ≡ number_in (filter (λ k. is_literal (kind_in c k)) (range_with_len 0 (many c))) i = ap (λ q. number_in q i) literal in
        (let w = r.1 in omega arith, ap (λ q. is_literal (kind_in c q)) z ∙ r.2)

    literal_known : (k : ℕ) → k < many c → is_literal (kind_in c k) ≡ true → is_some (value_in values k) ≡ true
    literal_known k l e = ap is_some (value_there k l) ∙ literal_some (kind_in c k) None None e

    -- what is known of a row, if anything, is that it is a literal
    unknown_or : (k : ℕ) → (value_in values k ≡ None) ⊎ ((i : ℕ) × (i < length fresh) × (number_in fresh i ≡ k))
    unknown_or k = elim (known_or (value_in values k)) [
      | inl o ↦ inl o
      | inr o ↦
          let l = value_within values k (ap is_some o.1) in
          let m = first_many in
          inr (there k (omega arith) (leaf_literal (kind_in c k) (ap is_some (sym (value_there k (omega arith)) ∙ o.1))))
    ]

    none_there : (j : ℕ) → value_in (known_after c 0) j ≡ None
    none_there j = elim (cases_lt j (many c)) [
      | inl l ↦ get_or-map-range_with_len (λ k. None) 0 (many c) j j None l (omega arith)
      | inr g ↦ get_or_past (known_after c 0) j None (let n = length-map-range_with_len {X = Option ℕ} (λ k. None) 0 (many c) in omega arith)
    ]

    pub first_round : AreRounds c 0 values fresh
    first_round = record {
      as_many = first_many;
      known = λ k x l e. grows (kind_in c k) None None (value_in values (left_of c k)) (value_in values (right_of c k)) x (λ y q. absurd (cc)) (λ y q. absurd (cc)) (sym (value_there k l) ∙ e);
      literals = literal_known;
      waiting = λ linked k x l e f. elim (depends (kind_in c k) None None (value_in values (left_of c k)) (value_in values (right_of c k)) x _ _ (sym (value_there k l) ∙ e) f (unknown_or (left_of c k)) (unknown_or (right_of c k))) [
        | inl r ↦ (r.1.0, r.1.1, ap (number_in c.parents) r.1.2 ∙ (linked k l).0 r.0)
        | inr r ↦ (r.1.0, r.1.1, ap (number_in c.parents) r.1.2 ∙ (linked k l).1 r.0)
      ];
      same = λ linked. ext_get_or None values (known_after c 1) (first_many ∙ sym (length-map-range_with_len (constant_at c (known_after c 0)) 0 (many c))) (λ k l.
          let m : k < many c = (let q = first_many in omega arith) in
          value_there k m
          ∙ sym (λ j. constant_by (kind_in c k) (none_there (left_of c k) j) (none_there (right_of c k) j))
          ∙ sym (get_or-map-range_with_len (constant_at c (known_after c 0)) 0 (many c) k k None m (omega arith)));
      within = λ i l. (of_fresh i l).0;
      found = λ i l. let r = of_fresh i l in literal_known (number_in fresh i) r.0 r.1;
      high = λ n height heights i l. let r = of_fresh i l in heights.stands (number_in fresh i) r.0 (literal_foldable (kind_in c (number_in fresh i)) r.1);
    }

  -- ---- how many rounds there are
  some_foldable : (k : Kind) (a b : Option ℕ) → is_some (constant_by k a b) ≡ true → is_foldable k ≡ true
  some_foldable (Num v) a b e = refl
  some_foldable (Truth v) a b e = refl
  some_foldable (Unary op) a b e = refl
  some_foldable (Binary op) a b e = refl
  some_foldable And a b e = refl
  some_foldable Or a b e = refl
  some_foldable k a b e = absurd (cc)

  pub one_more : (rounds : ℕ) (values : List (Option ℕ)) (fresh : List ℕ) → AreRounds c rounds values fresh → 0 < length fresh → IsBounded c (rounds + 1)
  one_more rounds values fresh h l n height heights =
      let k = number_in fresh 0 in
      let o = some_is (value_in values k) (h.found 0 l) in
      let w = h.within 0 l in
      let low = h.high n height heights 0 l in
      let high = heights.bounded k w (some_foldable (kind_in c k) (value_in values (left_of c k)) (value_in values (right_of c k)) (ap is_some (h.known k o.0 w o.1))) in
      omega arith

  pub first_few : (fresh : List ℕ) → fresh ≡ filter (λ k. is_literal (kind_in c k)) (range_with_len 0 (many c)) → length fresh ≤ many c
  first_few fresh e =
      let a = ap length e in
      let b = filter_few (λ k. is_literal (kind_in c k)) (range_with_len 0 (many c)) in
      let d = length-range_with_len 0 (many c) in
      omega arith

  pub told_some : (values : List (Option ℕ)) (fresh : List ℕ) (told : List (Option ℕ)) (i : ℕ) → told ≡ told_by c values fresh → i < length fresh → is_some (value_in told i) ≡ true → number_in c.parents (number_in fresh i) < many c
  told_some values fresh told i e l o =
      let there : value_in told i ≡ constant_at c values (number_in c.parents (number_in fresh i)) = ap (λ q. get_or q i None) e ∙ get_or-map (λ k. constant_at c values (number_in c.parents k)) fresh i 0 None l in
      constant_within c values (number_in c.parents (number_in fresh i)) (sym (ap is_some there) ∙ o)

pub some_left : (b : Bool) (n : ℕ) → b ≡ nat_eq n 0 → b ≡ false → 0 < n
some_left b zero e h = absurd (cc)
some_left b (suc n) e h = omega arith

pub none_left : (b : Bool) (n : ℕ) → b ≡ nat_eq n 0 → b ≡ true → n ≡ 0
none_left b zero e h = refl
none_left b (suc n) e h = absurd (let f : nat_eq (suc n) 0 ≡ false = grind (arith, nat_tests) in let g = sym h ∙ e ∙ f in cc)
