-- Each step of a table of cells keeps its rule.
use Rattle.std.proofs.Common.{◌≡◌, ◌≢◌, ◌⊎◌, ℕ, zero, suc, ◌+◌, ◌-◌, ◌<◌, ◌≤◌, List, [], ◌∷◌, ◌++◌, length, map, get_or, set, replicate, refl, sym, ap, ◌∙◌, subst, ⊎_elim, arith, inl, inr, length-set, lt_of_not-le, EachIndex}
use Rattle.std.proofs.lemmas.List.{get_or-set_same, get_or-set_other, get_or-replicate, get_or_past, length-replicate}
use Rattle.std.specs.List.{range_with_len}
use Rattle.std.proofs.lemmas.List.FromFn.{length-map-range_with_len, get_or-map-range_with_len}
use mathlib.Core.Logic.{dite}
use mathlib.Core.Option.{none, some, some-injective, some-ne-none}
use native.Mathlib.Decide.{dec_le, ℕ_discrete}
use lib.ListN.{get_elem?}
use Rattle.atomic_table.specs.Table.{step, keeps, opening, Allows, Splits, Joins, Seen, Final}
use Rattle.atomic_table.proofs.Lists.{at_set}
use Rattle.chunk_seats.specs.Tallies.{times, Every}
use Rattle.chunk_seats.specs.Laws.Totals.{total_set, total_snoc, every_set, every_snoc, one_other, times-append, times_snoc, at_get}
use Rattle.scatter_rows.specs.declared.views.PutView.{PutView}
use Rattle.scatter_rows.specs.Scattered.{AreDistinct}
use Rattle.scatter_rows.specs.Rule.{idle, putting, parting, uniting, Putter, Puts, IsCell, HasPut, Celled}
use Rattle.scatter_rows.specs.Worked.{IsReadOut}

set_positive : (ws : List ℕ) (i j x : ℕ) → i < length ws → 0 < x → 0 < get_or ws j 0 → 0 < get_or (set ws i x) j 0
set_positive ws i j x near pos was = dite (ℕ_discrete j i)
    (λ e. subst (λ (k : ℕ). 0 < get_or (set ws i x) k 0) (sym e) (omega (arith, get_or-set_same ws i x 0 near)))
    (λ ne. omega (arith, get_or-set_other ws i j x 0 ne))

-- a number that stands in a longer list is the last, or stood there
there_snoc : (c d : ℕ) (xs : List ℕ) → 0 < times c (xs ++ d ∷ []) → (c ≡ d) ⊎ (0 < times c xs)
there_snoc c d xs p = dite (ℕ_discrete d c) (λ e. inl (sym e)) (λ ne. inr (omega (arith, times_snoc c xs d, one_other c d ne)))

there_append : (c : ℕ) (xs ys : List ℕ) → 0 < times c (xs ++ ys) → (0 < times c xs) ⊎ (0 < times c ys)
there_append c xs ys p = dite (dec_le (times c xs) 0) (λ none_left. inr (omega (arith, times-append c xs ys))) (λ some_left. inl (lt_of_not-le some_left))

zero_everywhere : (n c : ℕ) → let zeros : List ℕ = replicate n 0 in get_or zeros c 0 ≡ 0
zero_everywhere n c = dite (dec_le n c)
    (λ past. get_or_past (replicate n 0) c 0 (subst (λ (k : ℕ). k ≤ c) (sym (length-replicate n 0)) past))
    (λ inside. get_or-replicate n c 0 0 (lt_of_not-le inside))

-- one word more is read
pub read_more : (out ws : List ℕ) (c x y : ℕ) → c < length out → get_elem? ws c ≡ some x → y ≡ x - 1 → ((k : ℕ) → k < c → get_or out k 0 ≡ get_or ws k 0 - 1)
    → (k : ℕ) → k < c + 1 → get_or (set out c y) k 0 ≡ get_or ws k 0 - 1
read_more out ws c x y near at is so_far k h = dite (ℕ_discrete k c)
    (λ e. let here : get_or ws k 0 ≡ x = ap (λ (m : ℕ). get_or ws m 0) e ∙ at_get ws c x at in
    let there : get_or (set out c y) k 0 ≡ y = ap (λ (m : ℕ). get_or (set out c y) m 0) e ∙ get_or-set_same out c y 0 near in omega arith)
    (λ ne. get_or-set_other out c k y 0 ne ∙ so_far k (omega arith))

module _ (places values : List ℕ) (limit : ℕ) where
  idle_has : (ws : List ℕ) (n : ℕ) → HasPut places ws (idle n)
  idle_has ws n i p = absurd (omega arith)

  has_later : (ws : List ℕ) (cell x : ℕ) (v : PutView) → cell < length ws → 0 < x → HasPut places ws v → HasPut places (set ws cell x) v
  has_later ws cell x v near pos h i p = let t = h i p in (t.0, set_positive ws cell (get_or places i 0) x near pos t.1)

  idle_only : (ws : List ℕ) (seats : ℕ) → Every (HasPut places ws) (idle seats ∷ [])
  idle_only ws seats zero x e = subst (HasPut places ws) (some-injective (idle seats) x e) (idle_has ws seats)
  idle_only ws seats (suc i) x e = absurd (some-ne-none x (sym e))

  -- the table at the start
  pub opens : (seats : ℕ) (ws : List ℕ) → ws ≡ replicate (length ws) 0 → ((i : ℕ) → i < length places → get_or places i 0 < length ws) → Celled places values limit seats (opening ws [] (idle seats))
  opens seats ws blank inside = record {
    inside = inside;
    cells = λ c. inl (ap (λ (l : List ℕ). get_or l c 0) blank ∙ zero_everywhere (length ws) c);
    shared = omega arith;
    each = idle_only ws seats;
  }

  pub puts : (seats slots id : ℕ) (me : Putter) (i cell value : ℕ) → (i < length places) × (get_or places i 0 ≡ cell) × (get_or values i 0 ≡ value) → value < limit
      → Allows (Celled places values limit seats) slots id me cell (λ _. value + 1) (λ _. Puts i (step slots cell (value + 1) 0 none) me (value + 1))
  puts seats slots id me i cell value pair below s r _ at small =
      let v : PutView = me.0 in
      let w : PutView = putting v i in
      let near : cell < length s.words = subst (λ (c : ℕ). c < length s.words) pair.1 (r.inside i pair.0) in
      let ws : List ℕ = set s.words cell (value + 1) in
      let here : get_or ws cell 0 ≡ value + 1 = get_or-set_same s.words cell (value + 1) 0 near in
      let later : Every (HasPut places ws) s.views = λ j u e. has_later s.words cell (value + 1) u near (omega arith) (r.each j u e) in
      let shares' = total_set (λ (u : PutView). u.share) s.views id v w at in let shared = r.shared in (
        w,
        keeps,
        tt,
        record {
          inside = λ k h. omega (arith, r.inside k h, length-set s.words cell (value + 1));
          cells = λ c. dite (ℕ_discrete c cell)
              (λ e. inr (i, pair.0, pair.1 ∙ sym e, ap (λ (k : ℕ). get_or ws k 0) e ∙ (here ∙ ap (λ (k : ℕ). k + 1) (sym pair.2)), subst (λ (k : ℕ). k < limit) (sym pair.2) below))
              (λ ne. subst (IsCell places values limit c) (sym (get_or-set_other s.words cell c (value + 1) 0 ne)) (r.cells c));
          shared = omega arith;
          each = every_set (HasPut places ws) s.views id w
              (λ k p. ⊎_elim
              (λ (e : k ≡ i). subst (λ (m : ℕ). (m < length places) × (0 < get_or ws (get_or places m 0) 0)) (sym e) (pair.0, subst (λ (c : ℕ). 0 < get_or ws c 0) (sym pair.1) (omega arith)))
              (λ (h : 0 < times k v.put). later id v at k h)
              (there_snoc k i v.put p))
              later;
        },
        (refl, refl),
      )

  pub puts_as : (seats slots id : ℕ) (me : Putter) (told i cell value : ℕ) → told ≡ i → (i < length places) × (get_or places i 0 ≡ cell) × (get_or values i 0 ≡ value) → value < limit
      → Allows (Celled places values limit seats) slots id me cell (λ _. value + 1) (λ _. Puts told (step slots cell (value + 1) 0 none) me (value + 1))
  puts_as seats slots id me told i cell value is pair below = subst (λ (x : ℕ). Allows (Celled places values limit seats) slots id me cell (λ _. value + 1) (λ _. Puts x (step slots cell (value + 1) 0 none) me (value + 1))) (sym is) (puts seats slots id me i cell value pair below)

  pub parts : (seats id : ℕ) (v : PutView) (n told : ℕ) → told ≡ n → 1 ≤ n → n < v.share → Splits (Celled places values limit seats) id v (parting v told) (idle told)
  parts seats id v n told is some_part less s r at =
      let w : PutView = parting v told in let u : PutView = idle told in let vs : List PutView = set s.views id w in
      let shares' = total_set (λ (u : PutView). u.share) s.views id v w at in let shares'' = total_snoc (λ (u : PutView). u.share) vs u in let shared = r.shared in
      record {
        inside = r.inside;
        cells = r.cells;
        shared = omega arith;
        each = every_snoc (HasPut places s.words) vs u (idle_has s.words told) (every_set (HasPut places s.words) s.views id w (r.each id v at) r.each);
      }

  pub unites : (seats id : ℕ) (v : PutView) (other : ℕ) (w : PutView) → Joins (Celled places values limit seats) id v other w (uniting v w) (idle 0)
  unites seats id v other w s r at apart at' =
      let b : PutView = uniting v w in let z : PutView = idle 0 in let vs : List PutView = set s.views id b in
      let was : get_elem? s.views other ≡ some w = ⊎_elim (λ (t : (other ≡ id) × (b ≡ w)). absurd (apart t.0)) (λ (t : (other ≢ id) × (get_elem? s.views other ≡ some w)). t.1) (at_set s.views id other b w at') in
      let shares' = total_set (λ (u : PutView). u.share) s.views id v b at in let shares'' = total_set (λ (u : PutView). u.share) vs other w z at' in let shared = r.shared in
      record {
        inside = r.inside;
        cells = r.cells;
        shared = omega arith;
        each = every_set (HasPut places s.words) vs other z (idle_has s.words 0)
            (every_set (HasPut places s.words) s.views id b
            (λ i p. ⊎_elim (λ (h : 0 < times i v.put). r.each id v at i h) (λ (h : 0 < times i w.put). r.each other w was i h) (there_append i v.put w.put p))
            r.each);
      }

  -- what is one less than each word at the end
  pub reads : (seats id : ℕ) (v : PutView) (ws : List ℕ) (xs : List (Unit {0})) (out : List ℕ) → Final (Seen (Celled places values limit seats) id v) ws xs
      → length out ≡ length ws → EachIndex out (λ k. get_or out k 0 ≡ get_or ws k 0 - 1) → AreDistinct places → IsReadOut places values v.put out
  reads seats id v ws xs out final wide less distinct =
      let s = final.0 in let r = final.1.0 in
      let cell : (c : ℕ) → IsCell places values limit c (get_or ws c 0) = λ c. subst (λ (l : List ℕ). IsCell places values limit c (get_or l c 0)) final.2 (r.cells c) in
      record {
        placed = λ i p.
            let has = r.each id v final.1.1 i p in
            let place : ℕ = get_or places i 0 in
            let full : 0 < get_or ws place 0 = subst (λ (l : List ℕ). 0 < get_or l place 0) final.2 has.1 in
            let near : place < length out = omega (arith, r.inside i has.0, ap length final.2) in
            ⊎_elim
            (λ (e : get_or ws place 0 ≡ 0). absurd (omega arith))
            (λ (t : (j : ℕ) × (j < length places) × (get_or places j 0 ≡ place) × (get_or ws place 0 ≡ get_or values j 0 + 1) × (get_or values j 0 < limit)).
            let same : t.0 ≡ i = distinct t.0 i t.1 has.0 t.2 in
            let is : get_or values t.0 0 ≡ get_or values i 0 = ap (λ (k : ℕ). get_or values k 0) same in
            omega (arith, less place near, t.3, is))
            (cell place);
        free = λ c none_here. dite (dec_le (length out) c)
            (λ past. get_or_past out c 0 past)
            (λ inside. ⊎_elim
            (λ (e : get_or ws c 0 ≡ 0). omega (arith, less c (lt_of_not-le inside)))
            (λ (t : (j : ℕ) × (j < length places) × (get_or places j 0 ≡ c) × (get_or ws c 0 ≡ get_or values j 0 + 1) × (get_or values j 0 < limit)). absurd (none_here t.0 t.1 t.2))
            (cell c));
      }

  -- no word is above the limit
  pub bounded : (seats id : ℕ) (v : PutView) (ws : List ℕ) (xs : List (Unit {0})) → Final (Seen (Celled places values limit seats) id v) ws xs → (c : ℕ) → get_or ws c 0 ≤ limit
  bounded seats id v ws xs final c = ⊎_elim
      (λ (e : get_or ws c 0 ≡ 0). omega arith)
      (λ (t : (j : ℕ) × (j < length places) × (get_or places j 0 ≡ c) × (get_or ws c 0 ≡ get_or values j 0 + 1) × (get_or values j 0 < limit)). omega (arith, t.3, t.4))
      (subst (λ (l : List ℕ). IsCell places values limit c (get_or l c 0)) final.2 (final.1.0.cells c))

  -- the same as a list
  pub lists : (seats id : ℕ) (v : PutView) (ws : List ℕ) (xs : List (Unit {0})) (len : ℕ) (out : List ℕ) → Final (Seen (Celled places values limit seats) id v) ws xs → len ≡ length ws
      → out ≡ map (λ k. get_or ws k 0 - 1) (range_with_len 0 len) → AreDistinct places → (length out ≡ len) × IsReadOut places values v.put out
  lists seats id v ws xs len out final many is distinct =
      let f : ℕ → ℕ = λ k. get_or ws k 0 - 1 in
      let wide : length out ≡ len = ap length is ∙ length-map-range_with_len f 0 len in (
        wide,
        reads seats id v ws xs out final (wide ∙ many)
            (λ k near. ap (λ (l : List ℕ). get_or l k 0) is ∙ get_or-map-range_with_len f 0 len k k 0 (omega arith) (omega arith))
            distinct,
      )
