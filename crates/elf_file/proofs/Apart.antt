-- Stretches of addresses in order: the last that begins below an address decides.
use Rattle.std.proofs.Common.{◌≡◌, ℕ, suc, ◌+◌, ◌<◌, ◌≤◌, ◌⊎◌, inl, inr, Bool, true, false, ◌||◌, List, [], ◌∷◌, ◌++◌, length, refl, sym, ap, ◌∙◌, subst, arith, length-append}
use Rattle.std.proofs.lemmas.Grind.{common_steps}
use Rattle.std.specs.Prelude.{nat_lt, sum_by}
use Rattle.std.specs.List.{list_any}
use Rattle.std.specs.Ordering.{nat_cmp, match_ordering}
use Rattle.std.specs.declared.cmp.Ordering.{Ordering}
use Rattle.std.specs.declared.cmp.Ordering.TheVariants.{Less, Greater}
use Rattle.std.specs.declared.ops.Bound.TheVariants.{Excluded, Unbounded}
use Rattle.std.specs.BTreeMap.{insert_entry}
use Rattle.std.specs.BTreeMap.Range.{entries_between, range_contains}
use Rattle.std.proofs.lemmas.Bool.{cases_lt, cases_order, lt-ltb, le-ltb, ltb-false, eq-eqb, ne_eqb, or_parts, or_from, or_right, and_cases, and_left, and_right, cond-true, cond-false}
use Rattle.elf_file.specs.Load.{Loaded, overlap, most}
use Rattle.elf_file.specs.Earlier.{AreApart, touches, touches_segment, Keeps}

-- the stretches that begin below b
abbrev below : ℕ → List (ℕ × ℕ) → List (ℕ × ℕ)
below b es = entries_between nat_cmp Unbounded (Excluded b) es

abbrev begins_below : ℕ → ℕ → Bool
begins_below b q = range_contains nat_cmp Unbounded (Excluded b) q

begins_is : (b q : ℕ) → begins_below b q ≡ nat_lt q b
begins_is b q = by (cases_lt q b) (cases_lt b q)
  where
    by : (q < b) ⊎ (b ≤ q) → (b < q) ⊎ (q ≤ b) → begins_below b q ≡ nat_lt q b
    by (inl lt) any = rw (le-ltb b q (omega arith), ne_eqb b q (λ e. omega arith), lt-ltb q b lt)
    by (inr le) (inl more) = rw (lt-ltb b q more, le-ltb q b le)
    by (inr le) (inr up) = let e : b ≡ q = omega arith in rw (le-ltb b q up, eq-eqb b q e, le-ltb q b le)

-- whether the first is among them
taken : (b : ℕ) (e : ℕ × ℕ) (es : List (ℕ × ℕ)) → e.0 < b → below b (e ∷ es) ≡ e ∷ below b es
taken b e es lt = cond-true (begins_below b e.0) (e ∷ below b es) (below b es) (begins_is b e.0 ∙ lt-ltb e.0 b lt)

left : (b : ℕ) (e : ℕ × ℕ) (es : List (ℕ × ℕ)) → b ≤ e.0 → below b (e ∷ es) ≡ below b es
left b e es le = cond-false (begins_below b e.0) (e ∷ below b es) (below b es) (begins_is b e.0 ∙ le-ltb e.0 b le)

no_first : (e : ℕ × ℕ) (es : List (ℕ × ℕ)) → e ∷ es ≡ [] → ⊥
no_first e es h = let n : suc (length es) ≡ 0 = ap (λ (xs : List (ℕ × ℕ)). length xs) h in omega arith

no_last : (t : List (ℕ × ℕ)) (e : ℕ × ℕ) → [] ≡ t ++ e ∷ [] → ⊥
no_last t e h =
    let n : 0 ≡ length (t ++ e ∷ []) = ap (λ (xs : List (ℕ × ℕ)). length xs) h in
    omega (arith, length-append t (e ∷ []))

abbrev rest_of : List (ℕ × ℕ) → List (ℕ × ℕ)
rest_of [] = []
rest_of (x ∷ xs) = xs

abbrev end_of : List (ℕ × ℕ) → ℕ
end_of [] = 0
end_of (x ∷ xs) = x.1

-- where none begins below b, none touches
pub none_touches : (a b : ℕ) (es : List (ℕ × ℕ)) → below b es ≡ [] → touches es a b ≡ false
none_touches a b [] h = refl
none_touches a b (e ∷ es) h = by (cases_lt e.0 b) (none_touches a b es)
  where
    by : (e.0 < b) ⊎ (b ≤ e.0) → (below b es ≡ [] → touches es a b ≡ false) → touches (e ∷ es) a b ≡ false
    by (inl lt) others = absurd (no_first e (below b es) (sym (taken b e es lt) ∙ h))
    by (inr le) others = or_from (overlap a b e.0 e.1) (touches es a b) (and_right (nat_lt a e.1) (nat_lt e.0 b) (le-ltb e.0 b le)) (others (sym (left b e es le) ∙ h))

-- what the last of them decides
abbrev Decided : ℕ → ℕ → ℕ → List (ℕ × ℕ) → ℕ × ℕ → Type 0
Decided a b low es e = (touches es a b ≡ nat_lt a e.1) × (low ≤ e.1)

-- where the first stretch begins below b and the last decides of the others
decided_more : (a b low : ℕ) (x e : ℕ × ℕ) (es : List (ℕ × ℕ)) → low ≤ x.0 → x.0 < x.1 → Decided a b x.1 es e → Decided a b low (x ∷ es) e
decided_more a b low x e es late some rest = (by (cases_lt a e.1), (let r = rest.1 in omega arith))
  where
    by : (a < e.1) ⊎ (e.1 ≤ a) → touches (x ∷ es) a b ≡ nat_lt a e.1
    by (inl lt) = or_right (overlap a b x.0 x.1) (touches es a b) (rest.0 ∙ lt-ltb a e.1 lt) ∙ sym (lt-ltb a e.1 lt)
    by (inr le) =
        let r = rest.1 in
        or_from (overlap a b x.0 x.1) (touches es a b) (and_left (nat_lt a x.1) (nat_lt x.0 b) (le-ltb a x.1 (omega arith))) (rest.0 ∙ le-ltb a e.1 le) ∙ sym (le-ltb a e.1 le)

decided_alone : (a b low : ℕ) (x e : ℕ × ℕ) (es : List (ℕ × ℕ)) → low ≤ x.0 → x.0 < x.1 → x.0 < b → x.1 ≡ e.1 → touches es a b ≡ false → Decided a b low (x ∷ es) e
decided_alone a b low x e es late some lt is none = (by (cases_lt a e.1), omega arith)
  where
    by : (a < e.1) ⊎ (e.1 ≤ a) → touches (x ∷ es) a b ≡ nat_lt a e.1
    by (inl less) = rw (lt-ltb a x.1 (omega arith), lt-ltb x.0 b lt, lt-ltb a e.1 less)
    by (inr le) = rw (le-ltb a x.1 (omega arith), none, le-ltb a e.1 le)

pub last_decides : (a b low : ℕ) (es t : List (ℕ × ℕ)) (e : ℕ × ℕ) → AreApart low es → below b es ≡ t ++ e ∷ [] → Decided a b low es e
last_decides a b low [] t e apart h = absurd (no_last t e h)
last_decides a b low (x ∷ es) t e apart h = by (cases_lt x.0 b) t h (λ s. last_decides a b x.1 es s e apart.others)
  where
    by : (x.0 < b) ⊎ (b ≤ x.0) → (t : List (ℕ × ℕ)) → below b (x ∷ es) ≡ t ++ e ∷ [] → ((s : List (ℕ × ℕ)) → below b es ≡ s ++ e ∷ [] → Decided a b x.1 es e) → Decided a b low (x ∷ es) e
    by (inl lt) [] h others =
        let is : x ∷ below b es ≡ e ∷ [] = sym (taken b x es lt) ∙ h in
        decided_alone a b low x e es apart.late apart.some lt (ap end_of is) (none_touches a b es (ap rest_of is))
    by (inl lt) (y ∷ s) h others =
        let is : x ∷ below b es ≡ y ∷ (s ++ e ∷ []) = sym (taken b x es lt) ∙ h in
        decided_more a b low x e es apart.late apart.some (others s (ap rest_of is))
    by (inr le) t h others =
        let rest = others t (sym (left b x es le) ∙ h) in
        let late = apart.late in
        let some = apart.some in
        let up = rest.1 in
        (or_from_left (overlap a b x.0 x.1) (touches es a b) (and_right (nat_lt a x.1) (nat_lt x.0 b) (le-ltb x.0 b le)) ∙ rest.0, omega arith)
      where
        or_from_left : (p q : Bool) → p ≡ false → (p || q) ≡ q
        or_from_left p q is = rw is

-- ---- one stretch more

clear_of : (a b c d : ℕ) → overlap a b c d ≡ false → (d ≤ a) ⊎ (b ≤ c)
clear_of a b c d h = by (and_cases (nat_lt a d) (nat_lt c b) h)
  where
    by : (nat_lt a d ≡ false) ⊎ (nat_lt c b ≡ false) → (d ≤ a) ⊎ (b ≤ c)
    by (inl e) = inl (ltb-false a d e)
    by (inr e) = inr (ltb-false c b e)

swapped : (x y z : Bool) → (x || (y || z)) ≡ (y || (x || z))
swapped true true z = refl
swapped true false z = refl
swapped false true z = refl
swapped false false z = refl

-- xs has the stretches of es and that from c up to d
abbrev Has : ℕ → ℕ → ℕ → List (ℕ × ℕ) → List (ℕ × ℕ) → Type 0
Has c d low es xs = AreApart low xs × ((a b : ℕ) → touches xs a b ≡ (overlap a b c d || touches es a b))

pub inserted : (c d low : ℕ) (es : List (ℕ × ℕ)) → low ≤ c → c < d → AreApart low es → touches es c d ≡ false → Has c d low es (insert_entry nat_cmp es c d)
inserted c d low [] late some apart clear = (record { late = late; some = some; others = tt }, λ a b. refl)
inserted c d low (e ∷ es) late some apart clear =
    let parts = or_parts (overlap c d e.0 e.1) (touches es c d) clear in
    by (cases_order c e.0) (clear_of c d e.0 e.1 parts.0) (λ after. inserted c d e.1 es after some apart.others parts.1)
  where
    by_order : (o : Ordering) → nat_cmp c e.0 ≡ o → Has c d low (e ∷ es) (match_ordering o ((c, d) ∷ e ∷ es) ((e.0, d) ∷ es) (e ∷ insert_entry nat_cmp es c d)) → Has c d low (e ∷ es) (insert_entry nat_cmp (e ∷ es) c d)
    by_order o is = subst (λ (o : Ordering). Has c d low (e ∷ es) (match_ordering o ((c, d) ∷ e ∷ es) ((e.0, d) ∷ es) (e ∷ insert_entry nat_cmp es c d))) (sym is)

    by : (c ≡ e.0) ⊎ ((c < e.0) ⊎ (e.0 < c)) → (e.1 ≤ c) ⊎ (d ≤ e.0) → (e.1 ≤ c → Has c d e.1 es (insert_entry nat_cmp es c d)) → Has c d low (e ∷ es) (insert_entry nat_cmp (e ∷ es) c d)
    by (inl same) (inl after) others = let s = apart.some in absurd (omega arith)
    by (inl same) (inr before) others = absurd (omega arith)
    by (inr (inl less)) (inl after) others = let s = apart.some in absurd (omega arith)
    by (inr (inl less)) (inr before) others =
        by_order Less (rw (lt-ltb c e.0 less)) (record { late = late; some = some; others = record { late = before; some = apart.some; others = apart.others } }, λ a b. refl)
    by (inr (inr more)) (inr before) others = absurd (omega arith)
    by (inr (inr more)) (inl after) others =
        let rest = others after in
        by_order Greater (rw (le-ltb c e.0 (omega arith), ne_eqb c e.0 (λ q. omega arith))) (
          record { late = apart.late; some = apart.some; others = rest.0 },
          λ a b. ap (λ (t : Bool). overlap a b e.0 e.1 || t) (rest.1 a b) ∙ swapped (overlap a b e.0 e.1) (overlap a b c d) (touches es a b),
        )

any_added : (test : Loaded → Bool) (ss : List Loaded) (s : Loaded) → list_any test (ss ++ s ∷ []) ≡ (test s || list_any test ss)
any_added test [] s = refl
any_added test (x ∷ xs) s = ap (λ (t : Bool). test x || t) (any_added test xs s) ∙ swapped (test x) (test s) (list_any test xs)

sum_added : (size : Loaded → ℕ) (ss : List Loaded) (s : Loaded) → sum_by size (ss ++ s ∷ []) ≡ sum_by size ss + size s
sum_added size ss s = grind (arith, common_steps)

pub keeps_more : (segments : List Loaded) (stretches : List (ℕ × ℕ)) (total : ℕ) (s : Loaded) → Keeps segments stretches total
    → 0 < length s.bytes → touches_segment segments s.start (s.start + length s.bytes) ≡ false → sum_by (λ s. length s.bytes) segments + length s.bytes ≤ most
    → Keeps (segments ++ s ∷ []) (insert_entry nat_cmp stretches s.start (s.start + length s.bytes)) (total + length s.bytes)
keeps_more segments stretches total s keeps some clear few =
    let has = inserted s.start (s.start + length s.bytes) 0 stretches (omega arith) (omega arith) keeps.apart (keeps.same s.start (s.start + length s.bytes) ∙ clear) in
    let is = keeps.total_is in
    record {
      apart = has.0;
      same = λ a b. has.1 a b ∙ (ap (λ (t : Bool). overlap a b s.start (s.start + length s.bytes) || t) (keeps.same a b) ∙ sym (any_added (λ s. overlap a b s.start (s.start + length s.bytes)) segments s));
      total_is = ap (λ (n : ℕ). n + length s.bytes) is ∙ sym (sum_added (λ s. length s.bytes) segments s);
      few = omega arith;
    }
