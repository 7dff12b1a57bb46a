-- Each step of a board keeps its rule.
use Rattle.std.proofs.Common.{◌≡◌, ◌⊎◌, ℕ, zero, suc, ◌+◌, ◌%◌, ◌<◌, ◌≤◌, ◌^◌, min, List, [], ◌∷◌, ◌++◌, length, get_or, set, Bool, true, false, Some, None, slice_get, slice_index_or, IfSome, refl, sym, ap, ◌∙◌, subst, ⊎_elim, arith, inl, inr, length-append, length-set, lt_of_not-le}
use Rattle.std.proofs.lemmas.List.{length-map}
use Rattle.std.proofs.lemmas.Option.{none-some}
use mathlib.Core.Logic.{dite}
use mathlib.Core.Option.{Option, none, some, some-injective, some-ne-none}
use native.Mathlib.Decide.{dec_le, ℕ_discrete}
use lib.ListN.{get_elem?}
use Rattle.atomic_table.specs.Table.{State, Me, step, takes, gives, chain, put_back, rest, opening, Allows, Splits, Joins, Seen, Final}
use Rattle.atomic_table.proofs.Lists.{set_here, set_else, at_map}
use Rattle.chunk_seats.specs.declared.views.ClaimView.{ClaimView}
use Rattle.chunk_seats.specs.declared.views.Deal.{Deal}
use Rattle.chunk_seats.specs.Tallies.{total, one, times, OnceBelow, Every}
use Rattle.chunk_seats.specs.Claims.{fresh, claiming, spending, giving, joining}
use Rattle.chunk_seats.specs.Dealing.{Fits, Dealt}
use Rattle.chunk_seats.specs.Laws.Dealing.{cuts, joins}
use Rattle.chunk_seats.specs.Laws.Totals.{total_set, total_snoc, total_part, total_alone, total_le, every_set, one_same, one_other, times-append, times_snoc}
use Rattle.deal_board.specs.Held.{settled, in_hand}
use Rattle.deal_board.specs.Returned.{AreLeft}
use Rattle.deal_board.specs.Rule.{claim_board, Served, Carries, Deals}

as_slice : {T : Type 0} (l : List T) (k : ℕ) (x : T) → get_elem? l k ≡ some x → slice_get l k ≡ Some x
as_slice [] k x e = absurd (some-ne-none x (sym e))
as_slice (y ∷ l) zero x e = ap Some (some-injective y x e)
as_slice (y ∷ l) (suc k) x e = as_slice l k x e

there : {T : Type 0} (l : List T) (k : ℕ) → k < length l → (x : T) × (get_elem? l k ≡ some x)
there [] k h = absurd (omega arith)
there (y ∷ l) zero h = (y, refl)
there (y ∷ l) (suc k) h = there l k (omega arith)

within : {T : Type 0} (l : List T) (k : ℕ) (x : T) → get_elem? l k ≡ some x → k < length l
within [] k x e = absurd (some-ne-none x (sym e))
within (y ∷ l) zero x e = omega arith
within (y ∷ l) (suc k) x e = let r = within l k x e in omega arith

-- what the rule of a claim board says, by the counter of the board
record Numbers (d : Deal) (counter : ℕ) (views : List ClaimView) : Type 0 where
  pub small : (d.chunks < 2 ^ 62) × (d.seats < 2 ^ 32)
  pub room : counter + total (λ v. v.share) views ≤ d.chunks + d.seats
  pub weights : total (λ v. v.weight) views ≡ d.seats
  pub once : OnceBelow (min counter d.chunks) (λ n. total (λ v. times n v.claimed) views)
  pub lengths : total (λ v. length v.claimed) views ≡ min counter d.chunks
  pub each : Every (Fits d counter) views

numbers : (d : Deal) (counter : ℕ) (views : List ClaimView) → Dealt d (claim_board counter views) → Numbers d counter views
numbers d counter views r =
    let e : r.counter ≡ counter = sym (ap (λ (ws : List ℕ). get_or ws 0 0) r.words) in
    record {
      small = r.small;
      room = omega (arith, r.room, e);
      weights = r.weights;
      once = subst (λ (x : ℕ). OnceBelow (min x d.chunks) (λ n. total (λ (v : ClaimView). times n v.claimed) views)) e r.once;
      lengths = omega (arith, r.lengths, e);
      each = subst (λ (x : ℕ). Every (Fits d x) views) e r.each;
    }

-- each number that was claimed was drawn
below : (d : Deal) (counter : ℕ) (views : List ClaimView) → Numbers d counter views → (k : ℕ) → 0 < total (λ (u : ClaimView). times k u.claimed) views → k < min counter d.chunks
below d counter views ns k h = dite (dec_le (min counter d.chunks) k) (λ over. absurd (omega (arith, (ns.once k).1 over))) (λ under. lt_of_not-le under)

-- the item came back before, or comes back with this draw
abbrev Comes : List ClaimView → ClaimView → ℕ → Type 0
Comes views v k = (0 < total (λ (u : ClaimView). times k u.done) views) ⊎ (0 < times k v.claimed)

comes_below : (d : Deal) (counter : ℕ) (views : List ClaimView) → Numbers d counter views → (id : ℕ) (v : ClaimView) → get_elem? views id ≡ some v → (k : ℕ) → Comes views v k → k < min counter d.chunks
comes_below d counter views ns id v at k h =
    let fewer = total_le (λ (u : ClaimView). times k u.done) (λ (u : ClaimView). times k u.claimed) views (λ i u e. (ns.each i u e).within k) in
    let part = total_part (λ (u : ClaimView). times k u.claimed) views id v at in
    below d counter views ns k (⊎_elim (λ (p : 0 < total (λ (u : ClaimView). times k u.done) views). omega arith) (λ (p : 0 < times k v.claimed). omega arith) h)

comes : (views : List ClaimView) (id : ℕ) (v w : ClaimView) → get_elem? views id ≡ some v → w.done ≡ v.claimed → (k : ℕ) → 0 < total (λ (u : ClaimView). times k u.done) (set views id w) → Comes views v k
comes views id v w at is k h =
    dite (dec_le 1 (total (λ (u : ClaimView). times k u.done) views)) (λ before. inl before)
    (λ no. inr (omega (arith, lt_of_not-le no, total_set (λ (u : ClaimView). times k u.done) views id v w at, ap (times k) is)))

later : (d : Deal) (c c' : ℕ) (v : ClaimView) → c ≤ c' → Fits d c v → Fits d c' v
later d c c' v le f = record { share_is = f.share_is; spent = λ p q. let h = f.spent p q in omega arith; idle = f.idle; within = f.within }

-- a number more in one list of claims
once_more : (k n : ℕ) (views : List ClaimView) (id : ℕ) (v : ClaimView) → get_elem? views id ≡ some v → n < k
    → OnceBelow (min n k) (λ m. total (λ u. times m u.claimed) views) → OnceBelow (min (n + 1) k) (λ m. total (λ u. times m u.claimed) (set views id (claiming (settled v) n)))
once_more k n views id v at under once m =
    let t = total_set (λ (u : ClaimView). times m u.claimed) views id v (claiming (settled v) n) at in
    let a = times_snoc m v.claimed n in let old = once m in
    dite (ℕ_discrete n m)
    (λ e. let same : one m n ≡ 1 = ap (one m) e ∙ one_same m in let none_yet = old.1 (omega arith) in ((λ h. omega arith), λ h. omega arith))
    (λ ne. let other : one m n ≡ 0 = one_other m n ne in ((λ h. let was = old.0 (omega arith) in omega arith), λ h. let was = old.1 (omega arith) in omega arith))

dealt_over : (d : Deal) (n : ℕ) (views : List ClaimView) → Numbers d n views → (id : ℕ) (v : ClaimView) → get_elem? views id ≡ some v → 0 < v.share → d.chunks ≤ n
    → Dealt d (claim_board (n + 1) (set views id (spending (settled v))))
dealt_over d n views ns id v at unspent over =
    let w : ClaimView = spending (settled v) in
    let mine : Fits d n v = ns.each id v at in
    let shares' = total_set (λ (u : ClaimView). u.share) views id v w at in
    let weights' = total_set (λ (u : ClaimView). u.weight) views id v w at in
    let lengths' = total_set (λ (u : ClaimView). length u.claimed) views id v w at in
    let room = ns.room in let weights = ns.weights in let lengths = ns.lengths in
    record {
      counter = n + 1;
      finished = total (λ (u : ClaimView). length u.done) (set views id w);
      words = refl;
      small = ns.small;
      room = omega arith;
      weights = omega arith;
      once = λ m. let t = total_set (λ (u : ClaimView). times m u.claimed) views id v w at in let old = ns.once m in
          ((λ h. let was = old.0 (omega arith) in omega arith), λ h. let was = old.1 (omega arith) in omega arith);
      lengths = omega arith;
      all_done = refl;
      each = every_set (Fits d (n + 1)) views id w (record { share_is = inl refl; spent = λ p q. omega arith; idle = λ q. ((mine.idle q).0, (mine.idle q).0); within = λ m. omega arith })
          (λ i u e. later d n (n + 1) u (omega arith) (ns.each i u e));
    }

dealt_under : (d : Deal) (n : ℕ) (views : List ClaimView) → Numbers d n views → (id : ℕ) (v : ClaimView) → get_elem? views id ≡ some v → 0 < v.share → n < d.chunks
    → Dealt d (claim_board (n + 1) (set views id (claiming (settled v) n)))
dealt_under d n views ns id v at unspent under =
    let w : ClaimView = claiming (settled v) n in
    let mine : Fits d n v = ns.each id v at in
    let shares' = total_set (λ (u : ClaimView). u.share) views id v w at in
    let weights' = total_set (λ (u : ClaimView). u.weight) views id v w at in
    let lengths' = total_set (λ (u : ClaimView). length u.claimed) views id v w at in
    let longer = length-append v.claimed (n ∷ []) in
    let lighter = total_le (λ (u : ClaimView). u.share) (λ (u : ClaimView). u.weight) views (λ i u e. ⊎_elim (λ (h : u.share ≡ 0). omega arith) (λ (h : u.share ≡ u.weight). omega arith) (ns.each i u e).share_is) in
    let room = ns.room in let weights = ns.weights in let lengths = ns.lengths in
    record {
      counter = n + 1;
      finished = total (λ (u : ClaimView). length u.done) (set views id w);
      words = refl;
      small = ns.small;
      room = omega arith;
      weights = omega arith;
      once = once_more d.chunks n views id v at under ns.once;
      lengths = omega arith;
      all_done = refl;
      each = every_set (Fits d (n + 1)) views id w
          (record { share_is = mine.share_is; spent = λ p q. absurd (omega arith); idle = λ q. absurd (⊎_elim (λ (e : v.share ≡ 0). omega arith) (λ (e : v.share ≡ v.weight). omega arith) mine.share_is); within = λ m. omega (arith, times_snoc m v.claimed n) })
          (λ i u e. later d n (n + 1) u (omega arith) (ns.each i u e));
    }

first_fits : (d : Deal) → Every (Fits d 0) (fresh d.seats ∷ [])
first_fits d zero u e = subst (Fits d 0) (some-injective (fresh d.seats) u e) (record { share_is = inr refl; spent = λ p q. absurd (omega arith); idle = λ q. (refl, refl); within = λ m. omega arith })
first_fits d (suc i) u e = absurd (some-ne-none u (sym e))

module _ {T : Type 0} where
  rest_none : (v : ClaimView) (cs : List (ℕ × T)) → Carries v cs → rest cs ≡ []
  rest_none v [] carried = refl
  rest_none v (x ∷ []) carried = refl
  rest_none v (x ∷ y ∷ cs) carried = absurd carried

  -- the homes, with what was in the seat's hand
  record Given (items : List T) (good : ℕ → T → Type 0) (counter : ℕ) (views : List ClaimView) (v : ClaimView) (hs : List (Option T)) : Type 0 where
    pub len : length hs ≡ length items
    pub waiting : (k : ℕ) (x : T) → counter ≤ k → get_elem? items k ≡ some x → get_elem? hs k ≡ some (some x)
    pub back : (k : ℕ) → Comes views v k → (x : T) × (get_elem? hs k ≡ some (some x)) × good k x

  gives_back : (items : List T) (good : ℕ → T → Type 0) (d : Deal) (s : State T ClaimView) (r : Served items good d s) (id : ℕ) (v : ClaimView) → get_elem? s.views id ≡ some v
      → (cs : List (ℕ × T)) → Carries v cs → IfSome (in_hand cs) (λ h. good h.0 h.1) → Given items good r.counter s.views v (put_back s.homes cs)
  gives_back items good d s r id v at [] carried fine =
      record {
        len = r.slots.1;
        waiting = r.waiting;
        back = λ k h. let part = total_part (λ (u : ClaimView). times k u.done) s.views id v at in let e : times k v.done ≡ times k v.claimed = ap (times k) carried in
            r.back k (⊎_elim (λ (p : 0 < total (λ (u : ClaimView). times k u.done) s.views). p) (λ (p : 0 < times k v.claimed). omega arith) h);
      }
  gives_back items good d s r id v at (x ∷ []) carried fine =
      let c : ℕ = x.0 in let y : T = x.1 in
      let ns : Numbers d r.counter s.views = numbers d r.counter s.views r.dealt in
      let one_more : times c v.claimed ≡ times c v.done + one c c = ap (times c) carried ∙ times_snoc c v.done c in let same = one_same c in
      let part = total_part (λ (u : ClaimView). times c u.claimed) s.views id v at in
      let drawn : c < min r.counter d.chunks = below d r.counter s.views ns c (omega arith) in
      let here : c < length s.homes = omega (arith, drawn, r.slots.0, r.slots.1) in
      record {
        len = length-set s.homes c (some y) ∙ r.slots.1;
        waiting = λ k z le e. set_else s.homes c k (some y) (λ q. absurd (omega arith)) ∙ r.waiting k z le e;
        back = λ k h. dite (ℕ_discrete k c)
            (λ e. (y, ap (get_elem? (set s.homes c (some y))) e ∙ set_here s.homes c (some y) here, subst (λ (m : ℕ). good m y) (sym e) fine))
            (λ ne. let part' = total_part (λ (u : ClaimView). times k u.done) s.views id v at in
            let same' : times k v.claimed ≡ times k v.done + one k c = ap (times k) carried ∙ times_snoc k v.done c in let other = one_other k c (λ q. ne (sym q)) in
            let old = r.back k (⊎_elim (λ (p : 0 < total (λ (u : ClaimView). times k u.done) s.views). p) (λ (p : 0 < times k v.claimed). omega arith) h) in
            (old.0, set_else s.homes c k (some y) ne ∙ old.1, old.2));
      }
  gives_back items good d s r id v at (x ∷ y ∷ cs) carried fine = absurd carried

  pub draws : (items : List T) (good : ℕ → T → Type 0) (d : Deal) (slots id : ℕ) (me : Me T ClaimView) → 0 < me.0.share → Carries me.0 me.1 → IfSome (in_hand me.1) (λ h. good h.0 h.1)
      → Allows (Served items good d) slots id me 0 (λ n. (n + 1) % 18446744073709551616) (Deals items d.chunks (step slots 0 1 0 none) me)
  draws items good d slots id me unspent carried fine s r _ at small =
      let v : ClaimView = me.0 in let cs : List (ℕ × T) = me.1 in let hs : List (Option T) = put_back s.homes cs in
      let n : ℕ = r.counter in
      let ns : Numbers d n s.views = numbers d n s.views r.dealt in
      let given : Given items good n s.views v hs = gives_back items good d s r id v at cs carried fine in
      let found : get_or s.words 0 0 ≡ n = ap (λ (ws : List ℕ). get_or ws 0 0) r.words in
      let room = ns.room in let limits = ns.small in let part = total_part (λ (u : ClaimView). u.share) s.views id v at in
      let next : (n + 1) % 18446744073709551616 ≡ n + 1 = omega arith in
      let words : set s.words 0 ((get_or s.words 0 0 + 1) % 18446744073709551616) ≡ (n + 1) ∷ [] =
      ap (λ (ws : List ℕ). set ws 0 ((get_or ws 0 0 + 1) % 18446744073709551616)) r.words ∙ ap (λ (x : ℕ). x ∷ []) next in
      dite (dec_le d.chunks n)
      (λ over.
      let w : ClaimView = spending (settled v) in (
        w,
        gives,
        tt,
        record {
          counter = n + 1;
          words = words;
          slots = (r.slots.0, given.len);
          dealt = dealt_over d n s.views ns id v at unspent over;
          waiting = λ k x le e. given.waiting k x (omega arith) e;
          back = λ k h. given.back k (comes s.views id v w at refl k h);
        },
        ((λ h. absurd (omega arith)), λ h. (refl, rest_none v cs carried)),
      ))
      (λ not_over.
      let under : n < d.chunks = lt_of_not-le not_over in
      let w : ClaimView = claiming (settled v) n in
      let item = there items n (omega (arith, under, r.slots.0)) in
      let long = total_part (λ (u : ClaimView). length u.claimed) s.views id v at in let lengths = ns.lengths in
      let often = total_part (λ (u : ClaimView). times n u.claimed) s.views id v at in let none_yet = (ns.once n).1 (omega arith) in (
        w,
        chain gives (takes n item.0),
        (tt, given.waiting n item.0 (omega arith) item.1),
        record {
          counter = n + 1;
          words = words;
          slots = (r.slots.0, length-set hs n none ∙ given.len);
          dealt = dealt_under d n s.views ns id v at unspent under;
          waiting = λ k x le e. set_else hs n k none (λ q. absurd (omega arith)) ∙ given.waiting k x (omega arith) e;
          back = λ k h. let h' = comes s.views id v w at refl k h in let b = comes_below d n s.views ns id v at k h' in let old = given.back k h' in
              (old.0, set_else hs n k none (λ q. absurd (omega arith)) ∙ old.1, old.2);
        },
        (
          (λ h. (ap (claiming (settled v)) (sym found), (subst (λ (z : ℕ). times z v.claimed ≡ 0) (sym found) (omega arith), omega arith), (item.0, ap (λ (l : List (ℕ × T)). (n, item.0) ∷ l) (rest_none v cs carried) ∙ ap (λ (z : ℕ). (z, item.0) ∷ []) (sym found), ap (slice_get items) found ∙ as_slice items n item.0 item.1))),
          λ h. absurd (omega arith),
        ),
      ))

  pub draws_as : (items : List T) (good : ℕ → T → Type 0) (d : Deal) (slots id : ℕ) (me : Me T ClaimView) (k : ℕ) → k ≡ d.chunks → 0 < me.0.share → Carries me.0 me.1 → IfSome (in_hand me.1) (λ h. good h.0 h.1)
      → Allows (Served items good d) slots id me 0 (λ n. (n + 1) % 18446744073709551616) (Deals items k (step slots 0 1 0 none) me)
  draws_as items good d slots id me k is unspent carried fine =
      subst (λ (x : ℕ). Allows (Served items good d) slots id me 0 (λ n. (n + 1) % 18446744073709551616) (Deals items x (step slots 0 1 0 none) me)) (sym is) (draws items good d slots id me unspent carried fine)

  pub splits : (items : List T) (good : ℕ → T → Type 0) (d : Deal) (id : ℕ) (v : ClaimView) (n told : ℕ) → told ≡ n → 1 ≤ n → n < v.share → Splits (Served items good d) id v (giving v told) (fresh told)
  splits items good d id v n told is some_part less = subst (λ (x : ℕ). Splits (Served items good d) id v (giving v x) (fresh x)) (sym is) (λ s r at.
      let w : ClaimView = giving v n in let u : ClaimView = fresh n in let vs : List ClaimView = set s.views id w ++ u ∷ [] in
      let dones : total (λ (u : ClaimView). length u.done) s.views ≡ total (λ (u : ClaimView). length u.done) vs =
      omega (arith, total_set (λ (u : ClaimView). length u.done) s.views id v w at, total_snoc (λ (u : ClaimView). length u.done) (set s.views id w) u) in
      record {
        counter = r.counter;
        words = r.words;
        slots = r.slots;
        dealt = subst (λ (f : ℕ). Dealt d record { words = r.counter ∷ f ∷ []; homes = []; views = vs }) dones (cuts d id v n some_part less (claim_board r.counter s.views) r.dealt at);
        waiting = r.waiting;
        back = λ k h. r.back k (omega (arith, total_set (λ (u : ClaimView). times k u.done) s.views id v w at, total_snoc (λ (u : ClaimView). times k u.done) (set s.views id w) u));
      })

  pub meets : (items : List T) (good : ℕ → T → Type 0) (d : Deal) (id : ℕ) (v : ClaimView) (other : ℕ) (w : ClaimView) → 0 < v.weight → 0 < w.weight → Joins (Served items good d) id v other w (joining v w) (fresh 0)
  meets items good d id v other w pv pw s r at apart at' =
      let b : ClaimView = joining v w in let z : ClaimView = fresh 0 in let vs : List ClaimView = set s.views id b in
      let dones : total (λ (u : ClaimView). length u.done) s.views ≡ total (λ (u : ClaimView). length u.done) (set vs other z) =
      omega (arith, total_set (λ (u : ClaimView). length u.done) s.views id v b at, total_set (λ (u : ClaimView). length u.done) vs other w z at', length-append v.done w.done) in
      record {
        counter = r.counter;
        words = r.words;
        slots = r.slots;
        dealt = subst (λ (f : ℕ). Dealt d record { words = r.counter ∷ f ∷ []; homes = []; views = set vs other z }) dones (joins d id v other w pv pw (claim_board r.counter s.views) r.dealt at apart at');
        waiting = r.waiting;
        back = λ k h. r.back k (omega (arith, total_set (λ (u : ClaimView). times k u.done) s.views id v b at, total_set (λ (u : ClaimView). times k u.done) vs other w z at', times-append k v.done w.done));
      }

  pub opens : (items xs : List T) (good : ℕ → T → Type 0) (d : Deal) → xs ≡ items → d.chunks ≡ length xs → d.chunks < 2 ^ 62 → d.seats < 2 ^ 32 → Served items good d (opening (0 ∷ []) xs (fresh d.seats))
  opens items xs good d named count few seats = record {
    counter = 0;
    words = refl;
    slots = (count ∙ ap length named, length-map xs some ∙ ap length named);
    dealt = record {
      counter = 0;
      finished = 0;
      words = refl;
      small = (few, seats);
      room = omega arith;
      weights = omega arith;
      once = λ m. ((λ h. absurd (omega arith)), λ h. refl);
      lengths = omega arith;
      all_done = refl;
      each = first_fits d;
    };
    waiting = λ k x le e. at_map some xs k x (subst (λ (l : List T). get_elem? l k ≡ some x) (sym named) e);
    back = λ k h. absurd (omega arith);
  }

  -- each item is at home and good, where a spent seat with an empty hand stands for all
  pub ends : (items : List T) (good : ℕ → T → Type 0) (d : Deal) (id : ℕ) (v : ClaimView) (ws : List ℕ) (xs : List T) → Final (Seen (Served items good d) id v) ws xs
      → v.weight ≡ d.seats → v.share ≡ 0 → 0 < v.weight → v.done ≡ v.claimed → (k : ℕ) (x : T) → get_elem? xs k ≡ some x → good k x
  ends items good d id v ws xs final all spent weighs settles k x e =
      let s : State T ClaimView = final.0 in let r : Served items good d s = final.1.0 in let at : get_elem? s.views id ≡ some v = final.1.1 in
      let ns : Numbers d r.counter s.views = numbers d r.counter s.views r.dealt in
      let long : length s.homes ≡ length xs = final.3 in
      let small : k < d.chunks = omega (arith, within xs k x e, long, r.slots.0, r.slots.1) in
      let over : d.chunks ≤ r.counter = (ns.each id v at).spent weighs spent in
      let heavy : total (λ (u : ClaimView). u.weight) s.views ≡ v.weight = ns.weights ∙ sym all in
      let once : total (λ (u : ClaimView). times k u.claimed) s.views ≡ 1 = (ns.once k).0 (omega arith) in
      let mine = total_alone (λ (u : ClaimView). times k u.claimed) (λ (u : ClaimView). u.weight) s.views id v (λ i u e' none_left. ap (times k) ((ns.each i u e').idle none_left).0) at heavy in
      let part = total_part (λ (u : ClaimView). times k u.done) s.views id v at in
      let same : times k v.done ≡ times k v.claimed = ap (times k) settles in
      let home = r.back k (omega arith) in
      let is : get_elem? xs k ≡ some home.0 = final.4 k home.0 home.1 in
      subst (good k) (some-injective home.0 x (sym is ∙ e)) home.2

  emptied : (v : ClaimView) (cs : List (ℕ × T)) → Carries v cs → in_hand cs ≡ None → v.done ≡ v.claimed
  emptied v [] carried empty = carried
  emptied v (x ∷ cs) carried empty = absurd (none-some x (sym empty))

  -- the slots of the closed table have all items
  pub left : (items : List T) (good : ℕ → T → Type 0) (d : Deal) (id : ℕ) (me : Me T ClaimView) (ws : List ℕ) (xs : List T) (filled : List Bool) (len : ℕ) → Final (Seen (Served items good d) id me.0) ws xs
      → me.0.weight ≡ d.seats → me.0.share ≡ 0 → 0 < me.0.weight → Carries me.0 me.1 → in_hand me.1 ≡ None → ((k : ℕ) → 0 ≤ k → k < len → slice_index_or filled k false ≡ true) → AreLeft good 0 len xs filled
  left items good d id me ws xs filled len final all spent weighs carried empty full =
      record { most = omega arith; there = full; gone = λ k h. absurd (omega arith); fine = λ k x le e. ends items good d id me.0 ws xs final all spent weighs (emptied me.0 me.1 carried empty) k x e }
