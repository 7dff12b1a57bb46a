-- Each step of a status board keeps its rule.
use Rattle.std.proofs.Common.{◌≡◌, ◌≢◌, ◌⊎◌, ℕ, ◌+◌, ◌*◌, ◌<◌, ◌≤◌, List, [], ◌∷◌, ◌++◌, length, get_or, set, refl, sym, ap, ◌∙◌, subst, ⊎_elim, arith, inl, inr, length-set, lt_of_not-le}
use Rattle.std.proofs.lemmas.List.{get_or-set_same, get_or-set_other, set-get_or}
use mathlib.Core.Logic.{dite}
use mathlib.Core.Option.{none, some}
use native.Mathlib.Decide.{dec_le, ℕ_discrete}
use lib.ListN.{get_elem?}
use Rattle.atomic_table.specs.Table.{State, step, keeps, Allows, Splits, Joins, Seen, Final}
use Rattle.atomic_table.proofs.Lists.{at_set}
use Rattle.chunk_seats.specs.Tallies.{total, times, Every}
use Rattle.chunk_seats.specs.Laws.Totals.{total_set, total_snoc, total_part, total_alone, every_set, every_snoc, one_same, one_other, times-append, times_snoc}
use Rattle.scan_lookback.specs.declared.views.LookView.{LookView}
use Rattle.std.specs.Prelude.{All}
use Rattle.std.proofs.lemmas.List.Elements.{All-append, All-push}
use Rattle.scan_lookback.specs.Views.{blank, showing, sealing, looking, leaving, uniting}
use Rattle.scan_lookback.specs.Posting.{Says, Status, Sees, Posted}
use Rattle.scan_lookback.specs.LookSteps.{Looker, Shows, Seals, Finds}

all_map : {A : Type 0} (P Q : A → Type 0) (xs : List A) → ((x : A) → P x → Q x) → All P xs → All Q xs
all_map P Q xs f all k d h = f (get_or xs k d) (all k d h)

none_yet : {A : Type 0} (P : A → Type 0) → All P []
none_yet P k d h = absurd (omega arith)

abbrev St : Type 0
St = State (Unit {0}) LookView

set_positive : (ws : List ℕ) (i j x : ℕ) → i < length ws → 0 < x → 0 < get_or ws j 0 → 0 < get_or (set ws i x) j 0
set_positive ws i j x near pos was = dite (ℕ_discrete j i)
    (λ e. subst (λ (k : ℕ). 0 < get_or (set ws i x) k 0) (sym e) (omega (arith, get_or-set_same ws i x 0 near)))
    (λ ne. omega (arith, get_or-set_other ws i j x 0 ne))

-- a number that stands in a longer list is the last, or stood there
there_snoc : (c d : ℕ) (xs : List ℕ) → 0 < times c (xs ++ d ∷ []) → (c ≡ d) ⊎ (0 < times c xs)
there_snoc c d xs p = dite (ℕ_discrete d c) (λ e. inl (sym e)) (λ ne. inr (omega (arith, times_snoc c xs d, one_other c d ne)))

there_append : (c : ℕ) (xs ys : List ℕ) → 0 < times c (xs ++ ys) → (0 < times c xs) ⊎ (0 < times c ys)
there_append c xs ys p = dite (dec_le (times c xs) 0) (λ none_left. inr (omega (arith, times-append c xs ys))) (λ some_left. inl (lt_of_not-le some_left))

module _ (sums prefixes : List ℕ) where
  -- what is kept of a load
  abbrev Noted : List ℕ → ℕ × ℕ → Type 0
  Noted ws p = 0 < p.1 → (p.0 < length sums) × Says sums prefixes p.0 p.1 × (0 < get_or ws p.0 0)

  sees_later : (ws : List ℕ) (i x : ℕ) (v : LookView) → i < length ws → 0 < x → Sees sums prefixes ws v → Sees sums prefixes (set ws i x) v
  sees_later ws i x v near pos s = record {
    shown = λ c p. let t = s.shown c p in (t.0, set_positive ws i c x near pos t.1);
    sealed = s.sealed;
    idle = s.idle;
    looked = all_map (Noted ws) (Noted (set ws i x)) v.looked (λ (p : ℕ × ℕ) f h. let t = f h in (t.0, t.1, set_positive ws i p.0 x near pos t.2)) s.looked;
  }

  pub sees_blank : (ws : List ℕ) (n : ℕ) → Sees sums prefixes ws (blank n)
  sees_blank ws n = record { shown = λ c p. absurd (omega arith); sealed = λ c p. p; idle = λ q. refl; looked = none_yet (Noted ws) }

  sees_unite : (ws : List ℕ) (v w : LookView) → 0 < v.share → Sees sums prefixes ws v → Sees sums prefixes ws w → Sees sums prefixes ws (uniting v w)
  sees_unite ws v w some_part f g = record {
    shown = λ c p. ⊎_elim (λ (h : 0 < times c v.shown). f.shown c h) (λ (h : 0 < times c w.shown). g.shown c h) (there_append c v.shown w.shown p);
    sealed = λ c p. ⊎_elim (λ (h : 0 < times c v.sealed). let t = f.sealed c h in omega (arith, times-append c v.shown w.shown)) (λ (h : 0 < times c w.sealed). let t = g.sealed c h in omega (arith, times-append c v.shown w.shown)) (there_append c v.sealed w.sealed p);
    idle = λ q. absurd (omega arith);
    looked = All-append (Noted ws) v.looked w.looked f.looked g.looked;
  }

  module _ (seats slots id : ℕ) (me : Looker) (some_part : 0 < me.0.share) where
    -- a word of the chunk is stored, and the seat knows more
    stores : (c word : ℕ) (w : LookView) → c < length sums → 0 < word → Says sums prefixes c word → w.share ≡ me.0.share → ((k : ℕ) → times k me.0.shown ≤ times k w.shown) → 0 < times c w.shown
        → ((ws : List ℕ) → Sees sums prefixes ws me.0 → 0 < get_or ws c 0 → Sees sums prefixes ws w)
        → Allows (Posted sums prefixes seats) slots id me c (λ _. word) (λ _ m'. (m'.1 ≡ me.1) × (m'.0 ≡ w))
    stores c word w near pos says share more_shown there more s r _ at small =
        let v : LookView = me.0 in
        let wide = r.wide in
        let inside : c < length s.words = omega arith in
        let ws : List ℕ = set s.words c word in
        let shares' = total_set (λ (u : LookView). u.share) s.views id v w at in let shared = r.shared in
        let each' : Every (Sees sums prefixes ws) s.views = λ i u e. sees_later s.words c word u inside pos (r.each i u e) in (
          w,
          keeps,
          tt,
          record {
            wide = length-set s.words c word ∙ wide;
            status = λ k h. dite (ℕ_discrete k c)
                (λ e. subst (λ (x : ℕ). Status sums prefixes x (get_or ws x 0)) (sym e) (subst (λ (x : ℕ). Status sums prefixes c x) (sym (get_or-set_same s.words c word 0 inside)) (inr says)))
                (λ ne. subst (λ (x : ℕ). Status sums prefixes k x) (sym (get_or-set_other s.words c k word 0 ne)) (r.status k h));
            shown_by = λ k h. let part = total_part (λ (u : LookView). times k u.shown) s.views id v at in let t = total_set (λ (u : LookView). times k u.shown) s.views id v w at in
                dite (ℕ_discrete k c)
                (λ e. let here : 0 < times k w.shown = subst (λ (x : ℕ). 0 < times x w.shown) (sym e) there in omega arith)
                (λ ne. let same = get_or-set_other s.words c k word 0 ne in let was = r.shown_by k (omega arith) in omega (arith, more_shown k));
            shared = omega arith;
            each = every_set (Sees sums prefixes ws) s.views id w (more ws (each' id v at) (omega (arith, get_or-set_same s.words c word 0 inside))) each';
          },
          (refl, refl),
        )

    pub shows : (c code : ℕ) → c < length sums → code ≡ get_or sums c 0 → Allows (Posted sums prefixes seats) slots id me c (λ _. 4 * code + 1) (λ _. Shows (step slots c (4 * code + 1) 0 none) me (4 * code + 1))
    shows c code near is = let v : LookView = me.0 in stores c (4 * code + 1) (showing v c) near (omega arith) (inl (ap (λ (x : ℕ). 4 * x + 1) is)) refl (λ k. omega (arith, times_snoc k v.shown c)) (omega (arith, times_snoc c v.shown c, one_same c))
        (λ ws f pos. record {
          shown = λ k p. ⊎_elim (λ (e : k ≡ c). subst (λ (x : ℕ). (x < length sums) × (0 < get_or ws x 0)) (sym e) (near, pos)) (λ (h : 0 < times k v.shown). f.shown k h) (there_snoc k c v.shown p);
          sealed = λ k p. let t = f.sealed k p in omega (arith, times_snoc k v.shown c);
          idle = λ q. absurd (omega arith);
          looked = f.looked;
        })

    pub seals : (c code : ℕ) → c < length sums → code ≡ get_or prefixes c 0 → 0 < times c me.0.shown
        → Allows (Posted sums prefixes seats) slots id me c (λ _. 4 * code + 2) (λ _. Seals (step slots c (4 * code + 2) 0 none) me (4 * code + 2))
    seals c code near is was = let v : LookView = me.0 in stores c (4 * code + 2) (sealing v c) near (omega arith) (inr (ap (λ (x : ℕ). 4 * x + 2) is)) refl (λ k. omega arith) was
        (λ ws f pos. record {
          shown = f.shown;
          sealed = λ k p. ⊎_elim (λ (e : k ≡ c). subst (λ (x : ℕ). 0 < times x v.shown) (sym e) was) (λ (h : 0 < times k v.sealed). f.sealed k h) (there_snoc k c v.sealed p);
          idle = f.idle;
          looked = f.looked;
        })

    pub finds : (j : ℕ) → j < length sums → Allows (Posted sums prefixes seats) slots id me j (λ n. n) (Finds sums prefixes (step slots j 0 0 none) me)
    finds j near s r _ at small =
        let v : LookView = me.0 in
        let n : ℕ = get_or s.words j 0 in
        let w : LookView = looking v j n in
        let mine = r.each id v at in
        let st : Status sums prefixes j n = r.status j near in
        let note : 0 < n → (j < length sums) × Says sums prefixes j n × (0 < get_or s.words j 0) = λ pos. (near, ⊎_elim (λ (e : n ≡ 0). absurd (omega arith)) (λ (h : Says sums prefixes j n). h) st, pos) in
        let w_sees : Sees sums prefixes s.words w = record { shown = mine.shown; sealed = mine.sealed; idle = mine.idle; looked = All-push (Noted s.words) v.looked (j, n) mine.looked note } in
        let shares' = total_set (λ (u : LookView). u.share) s.views id v w at in let shared = r.shared in
        let after : Posted sums prefixes seats record { words = s.words; homes = s.homes; views = set s.views id w } =
        record { wide = r.wide; status = r.status; shown_by = λ k h. let t = total_set (λ (u : LookView). times k u.shown) s.views id v w at in let was = r.shown_by k h in omega arith; shared = omega arith; each = every_set (Sees sums prefixes s.words) s.views id w w_sees r.each } in (
          w,
          keeps,
          tt,
          subst (λ (ws : List ℕ). Posted sums prefixes seats record { words = ws; homes = s.homes; views = set s.views id w }) (sym (set-get_or s.words j 0)) after,
          (
            refl,
            refl,
            st,
            λ zero_found. (
              dite (dec_le (times j v.shown) 0) (λ none_left. omega arith) (λ some_left. absurd (let t = mine.shown j (lt_of_not-le some_left) in omega (arith, t.1))),
              all_map (Noted s.words) (λ (p : ℕ × ℕ). p.0 ≡ j → p.1 ≡ 0) v.looked
                  (λ (p : ℕ × ℕ) f e. dite (dec_le p.1 0) (λ none_left. omega arith)
                  (λ some_left. absurd (let t = f (lt_of_not-le some_left) in let t2 : 0 < get_or s.words j 0 = subst (λ (x : ℕ). 0 < get_or s.words x 0) e t.2 in omega arith)))
                  mine.looked,
            ),
          ),
        )

  pub leaves : (seats id : ℕ) (v : LookView) (n told : ℕ) → told ≡ n → 1 ≤ n → n < v.share → Splits (Posted sums prefixes seats) id v (leaving v told) (blank told)
  leaves seats id v n told is some_part less s r at =
      let w : LookView = leaving v told in let u : LookView = blank told in let vs : List LookView = set s.views id w in
      let mine = r.each id v at in
      let shares' = total_set (λ (u : LookView). u.share) s.views id v w at in let shares'' = total_snoc (λ (u : LookView). u.share) vs u in let shared = r.shared in
      record {
        wide = r.wide;
        status = r.status;
        shown_by = λ k h. let t = total_set (λ (u : LookView). times k u.shown) s.views id v w at in let t' = total_snoc (λ (u : LookView). times k u.shown) vs u in let was = r.shown_by k h in omega arith;
        shared = omega arith;
        each = every_snoc (Sees sums prefixes s.words) vs u (sees_blank s.words told)
            (every_set (Sees sums prefixes s.words) s.views id w (record { shown = mine.shown; sealed = mine.sealed; idle = λ q. absurd (omega arith); looked = mine.looked }) r.each);
      }

  pub unites : (seats id : ℕ) (v : LookView) (other : ℕ) (w : LookView) → 0 < v.share → Joins (Posted sums prefixes seats) id v other w (uniting v w) (blank 0)
  unites seats id v other w some_part s r at apart at' =
      let b : LookView = uniting v w in let z : LookView = blank 0 in let vs : List LookView = set s.views id b in
      let was : get_elem? s.views other ≡ some w = ⊎_elim (λ (t : (other ≡ id) × (b ≡ w)). absurd (apart t.0)) (λ (t : (other ≢ id) × (get_elem? s.views other ≡ some w)). t.1) (at_set s.views id other b w at') in
      let shares' = total_set (λ (u : LookView). u.share) s.views id v b at in let shares'' = total_set (λ (u : LookView). u.share) vs other w z at' in let shared = r.shared in
      record {
        wide = r.wide;
        status = r.status;
        shown_by = λ k h. let t = total_set (λ (u : LookView). times k u.shown) s.views id v b at in let t' = total_set (λ (u : LookView). times k u.shown) vs other w z at' in let both = times-append k v.shown w.shown in let was = r.shown_by k h in omega arith;
        shared = omega arith;
        each = every_set (Sees sums prefixes s.words) vs other z (sees_blank s.words 0)
            (every_set (Sees sums prefixes s.words) s.views id b (sees_unite s.words v w some_part (r.each id v at) (r.each other w was)) r.each);
      }

  -- what holds of a seat when the board is taken apart
  module _ (seats id : ℕ) (v : LookView) (ws : List ℕ) (xs : List (Unit {0})) (final : Final (Seen (Posted sums prefixes seats) id v) ws xs) where
    pub sees_last : Sees sums prefixes final.0.words v
    sees_last = final.1.0.each id v final.1.1

    pub says_last : (n : ℕ) → length sums ≡ n → All (λ p. 0 < p.1 → (p.0 < n) × Says sums prefixes p.0 p.1) v.looked
    says_last n is = all_map (Noted final.0.words) (λ (p : ℕ × ℕ). 0 < p.1 → (p.0 < n) × Says sums prefixes p.0 p.1) v.looked (λ (p : ℕ × ℕ) f h. let t = f h in (subst (λ (m : ℕ). p.0 < m) is t.0, t.1)) sees_last.looked

    pub found_shown : v.share ≡ seats → All (λ p. 0 < p.1 → 0 < times p.0 v.shown) v.looked
    found_shown whole =
        let s = final.0 in let r = final.1.0 in
        let alone : (c : ℕ) → total (λ (u : LookView). times c u.shown) s.views ≡ times c v.shown = λ c. total_alone (λ (u : LookView). times c u.shown) (λ (u : LookView). u.share) s.views id v (λ i u e none_left. ap (times c) ((r.each i u e).idle none_left)) final.1.1 (r.shared ∙ sym whole) in
        all_map (Noted s.words) (λ (p : ℕ × ℕ). 0 < p.1 → 0 < times p.0 v.shown) v.looked (λ (p : ℕ × ℕ) f h. let t = f h in omega (arith, alone p.0, r.shown_by p.0 t.2)) sees_last.looked
