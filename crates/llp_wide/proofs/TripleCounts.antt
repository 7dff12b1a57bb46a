-- The number of members, and that of entries, is the number of triples with a member.
use Rattle.std.proofs.Common.{◌≡◌, ℕ, zero, suc, ◌+◌, ◌*◌, ◌<◌, List, [], ◌∷◌, length, map, get_or, Bool, cond, true, false, ◌&&◌, nat_lt, if◌then◌else◌, Option, Some, None, slice_get, refl, sym, ap, ◌∙◌, subst, arith}
use Rattle.std.specs.Prelude.{count_by, fold, is_some}
use Rattle.std.specs.List.{AllByRecursion}
use Rattle.std.proofs.lemmas.Bool.{lt-ltb}
use Rattle.std.proofs.lemmas.List.{length-map}
use Rattle.std.proofs.Math.ListN.{get_or-map}
use Rattle.grammar_file.specs.Grammar.{Grammar}
use Rattle.ll1_sets.specs.Width.{width_of}
use Rattle.ll1_sets.specs.Laws.FormTests.{and}
use Rattle.llp_wide.specs.Wide.{HasWideEntry}
use Rattle.llp_wide.specs.WideEntries.{WideTable, triple_place, AreWideTablesOf, HasWideMember, CountsTriples}
use Rattle.llp_wide.specs.WideLookbacks.{HasWideLookback, WideLookbackTable, item_at, IsNumberOf, AreWideLookbacksOf}

counted_from : {A : Type 0} (f : A → Bool) (n : ℕ) (xs : List A) → fold (λ a x. a + cond (f x) 1 0) n xs ≡ fold (λ a mark. a + cond mark 1 0) n (map f xs)
counted_from f n [] = refl
counted_from f n (x ∷ xs) = counted_from f (n + cond (f x) 1 0) xs

marks_counted : {A : Type 0} (f : A → Bool) (xs : List A) → count_by f xs ≡ count_by (λ mark. mark) (map f xs)
marks_counted f xs = counted_from f 0 xs

some_at : {A : Type 0} (items : List A) (k : Option ℕ) → IsNumberOf (length items) k → is_some (item_at items k) ≡ is_some k
some_at {A} items None h = refl
some_at {A} items (Some n) h = go items n h
  where
    go : (xs : List A) (n : ℕ) → n < length xs → is_some (slice_get xs n) ≡ true
    go [] n l = absurd (omega arith)
    go (x ∷ xs) zero l = refl
    go (x ∷ xs) (suc n) l = go xs n (omega arith)

counted_at : {A : Type 0} (items : List A) (n : ℕ) (numbers : List (Option ℕ)) → AllByRecursion (IsNumberOf (length items)) numbers → fold (λ a k. a + cond (is_some k) 1 0) n numbers ≡ fold (λ a e. a + cond (is_some e) 1 0) n (map (item_at items) numbers)
counted_at items n [] h = refl
counted_at items n (k ∷ numbers) h =
    ap (λ (m : Bool). fold (λ (a : ℕ) (j : Option ℕ). a + cond (is_some j) 1 0) (n + cond m 1 0) numbers) (sym (some_at items k h.0)) ∙ counted_at items (n + cond (is_some (item_at items k)) 1 0) numbers h.1

pub numbers_counted : {A : Type 0} (items : List A) (numbers : List (Option ℕ)) → AllByRecursion (IsNumberOf (length items)) numbers → count_by is_some numbers ≡ count_by is_some (map (item_at items) numbers)
numbers_counted items numbers h = counted_at items 0 numbers h

-- a table in which there is something for the triples with a member
module _ {E : Type 0} (g : Grammar) (P : ℕ → ℕ → ℕ → Option E → Type 0) (some : (z a b : ℕ) (e : E) → P z a b (Some e) → HasWideMember g z a b)
    (none : (z a b : ℕ) → P z a b None → HasWideMember g z a b → ⊥) (w : ℕ) (es : List (Option E)) (width_is : w ≡ width_of g) (size : length es ≡ w * w * w)
    (told : (z a b : ℕ) → P z a b (if nat_lt z w && (nat_lt a w && nat_lt b w) then get_or es (triple_place w z a b) None else None)) where
  within : (n : ℕ) → n < width_of g → nat_lt n w ≡ true
  within n l = lt-ltb n w (subst (λ (k : ℕ). n < k) (sym width_is) l)

  at_triple : (z a b : ℕ) → z < width_of g → a < width_of g → b < width_of g → P z a b (get_or es (triple_place (width_of g) z a b) None)
  at_triple z a b p q r =
      subst (λ (n : ℕ). P z a b (get_or es (triple_place n z a b) None)) width_is
      (subst (λ (c : Bool). P z a b (if c then get_or es (triple_place w z a b) None else None))
      (and (nat_lt z w) (nat_lt a w && nat_lt b w) (within z p) (and (nat_lt a w) (nat_lt b w) (within a q) (within b r))) (told z a b))

  mark_at : (z a b : ℕ) → get_or (map is_some es) (triple_place (width_of g) z a b) false ≡ is_some (get_or es (triple_place (width_of g) z a b) None)
  mark_at z a b = get_or-map is_some es (triple_place (width_of g) z a b) None

  has_member : (z a b : ℕ) (e : Option E) → P z a b e → is_some e ≡ true → HasWideMember g z a b
  has_member z a b (Some e) has h = some z a b e has
  has_member z a b None has h = cc

  has_none : (z a b : ℕ) (e : Option E) → P z a b e → is_some e ≡ false → HasWideMember g z a b → ⊥
  has_none z a b (Some e) has h m = cc
  has_none z a b None has h m = none z a b has m

  counted : CountsTriples g (count_by is_some es)
  counted = record {
    marks = map is_some es;
    size = length-map es is_some ∙ size ∙ ap (λ (w : ℕ). w * w * w) width_is;
    marked = λ z a b p q r h. has_member z a b (get_or es (triple_place (width_of g) z a b) None) (at_triple z a b p q r) (sym (mark_at z a b) ∙ h);
    unmarked = λ z a b p q r h. has_none z a b (get_or es (triple_place (width_of g) z a b) None) (at_triple z a b p q r) (sym (mark_at z a b) ∙ h);
    count = marks_counted is_some es;
  }

pub triples_counted : (g : Grammar) (t : WideTable) → AreWideTablesOf g t → CountsTriples g (count_by is_some t.entries)
triples_counted g t h =
    counted g (HasWideEntry g) (λ z a b e is. (e.closes, is.member)) (λ z a b is m. is m.0 m.1) t.width t.entries h.width_is h.size_is h.tables.entries

pub lookbacks_counted : (g : Grammar) (t : WideLookbackTable) → AreWideLookbacksOf g t → CountsTriples g (count_by is_some t.numbers)
lookbacks_counted g t h =
    subst (CountsTriples g) (sym (numbers_counted t.stacks t.numbers h.numbers_are))
    (counted g (HasWideLookback g) (λ z a b c is. (c.closes, is.1)) (λ z a b is m. is m.0 m.1) t.width (map (item_at t.stacks) t.numbers) h.width_is
    (length-map t.numbers (item_at t.stacks) ∙ h.size_is) h.lookbacks)
