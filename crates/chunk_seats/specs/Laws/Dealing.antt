-- Each step of a claim board keeps its rule.
use Rattle.std.proofs.Common.{◌≡◌, ◌≢◌, ◌⊎◌, ℕ, zero, suc, ◌+◌, ◌-◌, ◌%◌, ◌<◌, ◌≤◌, min, List, [], ◌∷◌, length, get_or, set, refl, sym, ap, ◌∙◌, subst, ⊎_elim, arith, inl, inr, length-append, lt_of_not-le}
use mathlib.Core.Logic.{dite}
use mathlib.Core.Option.{none, some}
use native.Mathlib.Decide.{dec_le, ℕ_discrete}
use lib.ListN.{get_elem?}
use Rattle.atomic_table.specs.Table.{State, step, keeps, Allows, Splits, Joins, Seen, Final}
use Rattle.atomic_table.proofs.Lists.{at_set}
use Rattle.chunk_seats.specs.declared.views.ClaimView.{ClaimView}
use Rattle.chunk_seats.specs.declared.views.Deal.{Deal}
use Rattle.chunk_seats.specs.Tallies.{total, one, times, OnceBelow, Every}
use Rattle.chunk_seats.specs.Claims.{fresh, claiming, spending, finishing, giving, shares, joining}
use Rattle.chunk_seats.specs.Dealing.{Fits, Dealt}
use Rattle.chunk_seats.specs.ClaimSteps.{Hand, Draws, Finishes}
use Rattle.chunk_seats.specs.Laws.Totals.{total_set, total_snoc, total_part, total_alone, total_le, every_set, every_snoc, one_same, one_other, times-append, times_snoc, within_length, at_get}

abbrev St : Type 0
St = State (Unit {0}) ClaimView

-- a number more in one list of claims
once_more : (k n : ℕ) (views : List ClaimView) (id : ℕ) (v : ClaimView) → get_elem? views id ≡ some v → n < k
    → OnceBelow (min n k) (λ m. total (λ u. times m u.claimed) views) → OnceBelow (min (n + 1) k) (λ m. total (λ u. times m u.claimed) (set views id (claiming v n)))
once_more k n views id v at under once m =
    let t = total_set (λ (u : ClaimView). times m u.claimed) views id v (claiming v n) at in
    let a = times_snoc m v.claimed n in let old = once m in
    dite (ℕ_discrete n m)
    (λ e. let same : one m n ≡ 1 = ap (one m) e ∙ one_same m in let none_yet = old.1 (omega arith) in ((λ h. omega arith), λ h. omega arith))
    (λ ne. let other : one m n ≡ 0 = one_other m n ne in ((λ h. let was = old.0 (omega arith) in omega arith), λ h. let was = old.1 (omega arith) in omega arith))

later : (d : Deal) (c c' : ℕ) (v : ClaimView) → c ≤ c' → Fits d c v → Fits d c' v
later d c c' v le f = record { share_is = f.share_is; spent = λ p q. let h = f.spent p q in omega arith; idle = f.idle; within = f.within }

-- what the seat with all the weight knows at the end
pub ends : (d : Deal) (id : ℕ) (v : ClaimView) (s : St) → Seen (Dealt d) id v s → v.weight ≡ d.seats
    → OnceBelow (min (get_or s.words 0 0) d.chunks) (λ n. times n v.claimed) × (get_or s.words 1 0 ≡ length v.done)
ends d id v s seen all =
    let r = seen.0 in let at = seen.1 in
    let c : get_or s.words 0 0 ≡ r.counter = ap (λ (ws : List ℕ). get_or ws 0 0) r.words in
    let f : get_or s.words 1 0 ≡ r.finished = ap (λ (ws : List ℕ). get_or ws 1 0) r.words in
    let heavy : total (λ (u : ClaimView). u.weight) s.views ≡ v.weight = r.weights ∙ sym all in
    let dones = total_alone (λ (u : ClaimView). length u.done) (λ (u : ClaimView). u.weight) s.views id v (λ i u e none_left. ap length ((r.each i u e).idle none_left).1) at heavy in (
      (λ n.
          let t = total_alone (λ (u : ClaimView). times n u.claimed) (λ (u : ClaimView). u.weight) s.views id v (λ i u e none_left. ap (times n) ((r.each i u e).idle none_left).0) at heavy in
          let old = r.once n in ((λ h. let was = old.0 (omega arith) in omega arith), λ h. let was = old.1 (omega arith) in omega arith)),
      omega (arith, r.all_done),
    )

pub spent_ends : (d : Deal) (id : ℕ) (v : ClaimView) (s : St) → Seen (Dealt d) id v s → 0 < v.weight → v.share ≡ 0 → d.chunks ≤ get_or s.words 0 0
spent_ends d id v s seen weighs spent =
    let r = seen.0 in let c : get_or s.words 0 0 ≡ r.counter = ap (λ (ws : List ℕ). get_or ws 0 0) r.words in
    omega (arith, (r.each id v seen.1).spent weighs spent)

-- a seat with all the weight, where no chunk is left, has claimed each of them
all_claimed : (d : Deal) (id : ℕ) (v : ClaimView) (s : St) → Seen (Dealt d) id v s → d.chunks ≤ get_or s.words 0 0 → v.weight ≡ d.seats → OnceBelow d.chunks (λ n. times n v.claimed)
all_claimed d id v s seen drawn all =
    let is : min (get_or s.words 0 0) d.chunks ≡ d.chunks = omega arith in
    subst (λ (x : ℕ). OnceBelow x (λ n. times n v.claimed)) is (ends d id v s seen all).0

pub draws : (d : Deal) (slots id : ℕ) (me : Hand) → 0 < me.0.share
    → Allows (Dealt d) slots id me 0 (λ n. (n + 1) % 18446744073709551616) (Draws d.chunks d.seats (step slots 0 1 0 none) me)
draws d slots id me unspent s r _ at small =
    let v : ClaimView = me.0 in
    let n : ℕ = r.counter in
    let found : get_or s.words 0 0 ≡ n = ap (λ (ws : List ℕ). get_or ws 0 0) r.words in
    let part = total_part (λ (u : ClaimView). u.share) s.views id v at in
    let room = r.room in
    let limits = r.small in
    let next : (n + 1) % 18446744073709551616 ≡ n + 1 = omega arith in
    let words : set s.words 0 ((get_or s.words 0 0 + 1) % 18446744073709551616) ≡ (n + 1) ∷ r.finished ∷ [] =
    ap (λ (ws : List ℕ). set ws 0 ((get_or ws 0 0 + 1) % 18446744073709551616)) r.words ∙ ap (λ (x : ℕ). x ∷ r.finished ∷ []) next in
    let mine = r.each id v at in
    dite (dec_le d.chunks n)
    (λ over.
    let w : ClaimView = spending v in
    let shares' = total_set (λ (u : ClaimView). u.share) s.views id v w at in
    let weights' = total_set (λ (u : ClaimView). u.weight) s.views id v w at in
    let lengths' = total_set (λ (u : ClaimView). length u.claimed) s.views id v w at in
    let dones' = total_set (λ (u : ClaimView). length u.done) s.views id v w at in
    let weights = r.weights in let lengths = r.lengths in let dones = r.all_done in (
      w,
      keeps,
      tt,
      record {
        counter = n + 1;
        finished = r.finished;
        words = words;
        small = r.small;
        room = omega arith;
        weights = omega arith;
        once = λ m. let t = total_set (λ (u : ClaimView). times m u.claimed) s.views id v w at in let old = r.once m in
            ((λ h. let was = old.0 (omega arith) in omega arith), λ h. let was = old.1 (omega arith) in omega arith);
        lengths = omega arith;
        all_done = omega arith;
        each = every_set (Fits d (n + 1)) s.views id w (record { share_is = inl refl; spent = λ p q. omega arith; idle = mine.idle; within = mine.within })
            (λ i u e. later d n (n + 1) u (omega arith) (r.each i u e));
      },
      (refl, (λ h. absurd (omega arith)), (λ h. refl), λ h all. all_claimed d id v s (r, at) h all),
    ))
    (λ not_over.
    let under : n < d.chunks = lt_of_not-le not_over in
    let w : ClaimView = claiming v n in
    let shares' = total_set (λ (u : ClaimView). u.share) s.views id v w at in
    let weights' = total_set (λ (u : ClaimView). u.weight) s.views id v w at in
    let lengths' = total_set (λ (u : ClaimView). length u.claimed) s.views id v w at in
    let longer = length-append v.claimed (n ∷ []) in
    let dones' = total_set (λ (u : ClaimView). length u.done) s.views id v w at in
    let weights = r.weights in let lengths = r.lengths in let dones = r.all_done in
    let mine_in = total_part (λ (u : ClaimView). length u.claimed) s.views id v at in
    let times_in = total_part (λ (u : ClaimView). times n u.claimed) s.views id v at in
    let none_yet = (r.once n).1 (omega arith) in
    let lighter = total_le (λ (u : ClaimView). u.share) (λ (u : ClaimView). u.weight) s.views (λ i u e. ⊎_elim (λ (h : u.share ≡ 0). omega arith) (λ (h : u.share ≡ u.weight). omega arith) (r.each i u e).share_is) in (
      w,
      keeps,
      tt,
      record {
        counter = n + 1;
        finished = r.finished;
        words = words;
        small = r.small;
        room = omega arith;
        weights = omega arith;
        once = once_more d.chunks n s.views id v at under r.once;
        lengths = omega arith;
        all_done = omega arith;
        each = every_set (Fits d (n + 1)) s.views id w
            (record { share_is = mine.share_is; spent = λ p q. absurd (omega arith); idle = λ q. absurd (⊎_elim (λ (e : v.share ≡ 0). omega arith) (λ (e : v.share ≡ v.weight). omega arith) mine.share_is); within = λ m. omega (arith, mine.within m, times_snoc m v.claimed n) })
            (λ i u e. later d n (n + 1) u (omega arith) (r.each i u e));
      },
      (
        refl,
        (λ h. (ap (claiming v) (sym found), subst (λ (x : ℕ). times x v.claimed ≡ 0) (sym found) (omega arith), omega arith)),
        (λ h. absurd (omega arith)),
        λ h all. absurd (omega arith),
      ),
    ))

pub draws_as : (d : Deal) (slots id : ℕ) (me : Hand) (chunks seats : ℕ) → chunks ≡ d.chunks → seats ≡ d.seats → 0 < me.0.share
    → Allows (Dealt d) slots id me 0 (λ n. (n + 1) % 18446744073709551616) (Draws chunks seats (step slots 0 1 0 none) me)
draws_as d slots id me chunks seats is_k is_s unspent =
    subst (λ (x : ℕ). Allows (Dealt d) slots id me 0 (λ n. (n + 1) % 18446744073709551616) (Draws x seats (step slots 0 1 0 none) me)) (sym is_k)
    (subst (λ (y : ℕ). Allows (Dealt d) slots id me 0 (λ n. (n + 1) % 18446744073709551616) (Draws d.chunks y (step slots 0 1 0 none) me)) (sym is_s) (draws d slots id me unspent))

pub finishes : (d : Deal) (slots id : ℕ) (me : Hand) (c : ℕ) → 0 < times c me.0.claimed → times c me.0.done ≡ 0 → 0 < me.0.weight
    → Allows (Dealt d) slots id me 1 (λ n. (n + 1) % 18446744073709551616) (Finishes c d.chunks d.seats (step slots 1 1 0 none) me)
finishes d slots id me c there undone weighs s r _ at small =
    let v : ClaimView = me.0 in
    let w : ClaimView = finishing v c in
    let mine = r.each id v at in
    let within : (m : ℕ) → times m w.done ≤ times m w.claimed = λ m. dite (ℕ_discrete c m)
    (λ e. let same : one m c ≡ 1 = ap (one m) e ∙ one_same m in let t : 0 < times m v.claimed = subst (λ (x : ℕ). 0 < times x v.claimed) e there in let o : times m v.done ≡ 0 = subst (λ (x : ℕ). times x v.done ≡ 0) e undone in omega (arith, times_snoc m v.done c))
    (λ ne. omega (arith, times_snoc m v.done c, one_other m c ne, mine.within m)) in
    let each' : Every (Fits d r.counter) (set s.views id w) = every_set (Fits d r.counter) s.views id w (record { share_is = mine.share_is; spent = mine.spent; idle = λ q. absurd (omega arith); within = within }) r.each in
    let fewer = total_le (λ (u : ClaimView). length u.done) (λ (u : ClaimView). length u.claimed) (set s.views id w) (λ i u e. within_length u.done u.claimed (each' i u e).within) in
    let shares' = total_set (λ (u : ClaimView). u.share) s.views id v w at in
    let weights' = total_set (λ (u : ClaimView). u.weight) s.views id v w at in
    let lengths' = total_set (λ (u : ClaimView). length u.claimed) s.views id v w at in
    let dones' = total_set (λ (u : ClaimView). length u.done) s.views id v w at in
    let longer = length-append v.done (c ∷ []) in
    let weights = r.weights in let lengths = r.lengths in let dones = r.all_done in let limits = r.small in let room = r.room in
    let next : (r.finished + 1) % 18446744073709551616 ≡ r.finished + 1 = omega arith in
    let words : set s.words 1 ((get_or s.words 1 0 + 1) % 18446744073709551616) ≡ r.counter ∷ (r.finished + 1) ∷ [] =
    ap (λ (ws : List ℕ). set ws 1 ((get_or ws 1 0 + 1) % 18446744073709551616)) r.words ∙ ap (λ (x : ℕ). r.counter ∷ x ∷ []) next in (
      w,
      keeps,
      tt,
      record {
        counter = r.counter;
        finished = r.finished + 1;
        words = words;
        small = r.small;
        room = omega arith;
        weights = omega arith;
        once = λ m. let t = total_set (λ (u : ClaimView). times m u.claimed) s.views id v w at in let old = r.once m in
            ((λ h. let was = old.0 h in omega arith), λ h. let was = old.1 h in omega arith);
        lengths = omega arith;
        all_done = omega arith;
        each = each';
      },
      (
        refl,
        refl,
        λ all spent. all_claimed d id v s (r, at) (spent_ends d id v s (r, at) weighs spent) all,
      ),
    )

pub finishes_as : (d : Deal) (slots id : ℕ) (me : Hand) (c told chunks seats : ℕ) → told ≡ c → chunks ≡ d.chunks → seats ≡ d.seats → 0 < times c me.0.claimed → times c me.0.done ≡ 0 → 0 < me.0.weight
    → Allows (Dealt d) slots id me 1 (λ n. (n + 1) % 18446744073709551616) (Finishes told chunks seats (step slots 1 1 0 none) me)
finishes_as d slots id me c told chunks seats is is_k is_s there undone weighs =
    subst (λ (x : ℕ). Allows (Dealt d) slots id me 1 (λ n. (n + 1) % 18446744073709551616) (Finishes x chunks seats (step slots 1 1 0 none) me)) (sym is)
    (subst (λ (y : ℕ). Allows (Dealt d) slots id me 1 (λ n. (n + 1) % 18446744073709551616) (Finishes c y seats (step slots 1 1 0 none) me)) (sym is_k)
    (subst (λ (z : ℕ). Allows (Dealt d) slots id me 1 (λ n. (n + 1) % 18446744073709551616) (Finishes c d.chunks z (step slots 1 1 0 none) me)) (sym is_s) (finishes d slots id me c there undone weighs)))

pub cuts : (d : Deal) (id : ℕ) (v : ClaimView) (n : ℕ) → 1 ≤ n → n < v.share → Splits (Dealt d) id v (giving v n) (fresh n)
cuts d id v n some_part less s r at =
    let w : ClaimView = giving v n in let u : ClaimView = fresh n in
    let vs : List ClaimView = set s.views id w in
    let mine = r.each id v at in
    let whole : v.share ≡ v.weight = ⊎_elim (λ (e : v.share ≡ 0). absurd (omega arith)) (λ e. e) mine.share_is in
    let shares' = total_set (λ (u : ClaimView). u.share) s.views id v w at in let shares'' = total_snoc (λ (u : ClaimView). u.share) vs u in
    let weights' = total_set (λ (u : ClaimView). u.weight) s.views id v w at in let weights'' = total_snoc (λ (u : ClaimView). u.weight) vs u in
    let lengths' = total_set (λ (u : ClaimView). length u.claimed) s.views id v w at in let lengths'' = total_snoc (λ (u : ClaimView). length u.claimed) vs u in
    let dones' = total_set (λ (u : ClaimView). length u.done) s.views id v w at in let dones'' = total_snoc (λ (u : ClaimView). length u.done) vs u in
    let weights = r.weights in let lengths = r.lengths in let dones = r.all_done in let room = r.room in
    record {
      counter = r.counter;
      finished = r.finished;
      words = r.words;
      small = r.small;
      room = omega arith;
      weights = omega arith;
      once = λ m. let t = total_set (λ (u : ClaimView). times m u.claimed) s.views id v w at in let t' = total_snoc (λ (u : ClaimView). times m u.claimed) vs u in let old = r.once m in
          ((λ h. let was = old.0 h in omega arith), λ h. let was = old.1 h in omega arith);
      lengths = omega arith;
      all_done = omega arith;
      each = every_snoc (Fits d r.counter) vs u (record { share_is = inr refl; spent = λ p q. absurd (omega arith); idle = λ q. (refl, refl); within = λ m. omega arith })
          (every_set (Fits d r.counter) s.views id w (record { share_is = inr (ap (λ (x : ℕ). x - n) whole); spent = λ p q. absurd (omega arith); idle = λ q. absurd (omega arith); within = mine.within }) r.each);
    }

pub cuts_as : (d : Deal) (id : ℕ) (v : ClaimView) (n told : ℕ) → told ≡ n → 1 ≤ n → n < v.share → Splits (Dealt d) id v (giving v told) (fresh told)
cuts_as d id v n told is some_part less = subst (λ (x : ℕ). Splits (Dealt d) id v (giving v x) (fresh x)) (sym is) (cuts d id v n some_part less)

-- the shares of two seats are 0 or added
pub shares_cases : (a b : ℕ) → ((shares a b ≡ 0) × ((a ≡ 0) ⊎ (b ≡ 0))) ⊎ ((shares a b ≡ a + b) × (0 < a) × (0 < b))
shares_cases zero b = inl (refl, inl refl)
shares_cases (suc a) zero = inl (refl, inr refl)
shares_cases (suc a) (suc b) = inr (refl, omega arith, omega arith)

pub shares_le : (a b : ℕ) → shares a b ≤ a + b
shares_le a b = ⊎_elim (λ (t : (shares a b ≡ 0) × ((a ≡ 0) ⊎ (b ≡ 0))). omega (arith, t.0)) (λ (t : (shares a b ≡ a + b) × (0 < a) × (0 < b)). omega (arith, t.0)) (shares_cases a b)

joined_fits : (d : Deal) (c : ℕ) (v w : ClaimView) → 0 < v.weight → 0 < w.weight → Fits d c v → Fits d c w → Fits d c (joining v w)
joined_fits d c v w pv pw fv fw = record {
  share_is = ⊎_elim (λ (t : (shares v.share w.share ≡ 0) × ((v.share ≡ 0) ⊎ (w.share ≡ 0))). inl t.0)
      (λ (t : (shares v.share w.share ≡ v.share + w.share) × (0 < v.share) × (0 < w.share)).
      let a : v.share ≡ v.weight = ⊎_elim (λ (e : v.share ≡ 0). absurd (omega (arith, t.1))) (λ e. e) fv.share_is in
      let b : w.share ≡ w.weight = ⊎_elim (λ (e : w.share ≡ 0). absurd (omega (arith, t.2))) (λ e. e) fw.share_is in
      inr (omega (arith, t.0, a, b)))
      (shares_cases v.share w.share);
  spent = λ p q. ⊎_elim
      (λ (t : (shares v.share w.share ≡ 0) × ((v.share ≡ 0) ⊎ (w.share ≡ 0))). ⊎_elim (λ (e : v.share ≡ 0). fv.spent pv e) (λ (e : w.share ≡ 0). fw.spent pw e) t.1)
      (λ (t : (shares v.share w.share ≡ v.share + w.share) × (0 < v.share) × (0 < w.share)). absurd (omega (arith, t.0, t.1, q)))
      (shares_cases v.share w.share);
  idle = λ q. absurd (omega arith);
  within = λ m. omega (arith, times-append m v.done w.done, times-append m v.claimed w.claimed, fv.within m, fw.within m);
}

pub joins : (d : Deal) (id : ℕ) (v : ClaimView) (other : ℕ) (w : ClaimView) → 0 < v.weight → 0 < w.weight → Joins (Dealt d) id v other w (joining v w) (fresh 0)
joins d id v other w pv pw s r at apart at' =
    let b : ClaimView = joining v w in let z : ClaimView = fresh 0 in
    let vs : List ClaimView = set s.views id b in
    let was : get_elem? s.views other ≡ some w = ⊎_elim (λ (t : (other ≡ id) × (b ≡ w)). absurd (apart t.0)) (λ (t : (other ≢ id) × (get_elem? s.views other ≡ some w)). t.1) (at_set s.views id other b w at') in
    let fv = r.each id v at in let fw = r.each other w was in
    let shares' = total_set (λ (u : ClaimView). u.share) s.views id v b at in let shares'' = total_set (λ (u : ClaimView). u.share) vs other w z at' in let le = shares_le v.share w.share in
    let weights' = total_set (λ (u : ClaimView). u.weight) s.views id v b at in let weights'' = total_set (λ (u : ClaimView). u.weight) vs other w z at' in
    let lengths' = total_set (λ (u : ClaimView). length u.claimed) s.views id v b at in let lengths'' = total_set (λ (u : ClaimView). length u.claimed) vs other w z at' in let la = length-append v.claimed w.claimed in
    let dones' = total_set (λ (u : ClaimView). length u.done) s.views id v b at in let dones'' = total_set (λ (u : ClaimView). length u.done) vs other w z at' in let ld = length-append v.done w.done in
    let weights = r.weights in let lengths = r.lengths in let dones = r.all_done in let room = r.room in
    record {
      counter = r.counter;
      finished = r.finished;
      words = r.words;
      small = r.small;
      room = omega arith;
      weights = omega arith;
      once = λ m. let t = total_set (λ (u : ClaimView). times m u.claimed) s.views id v b at in let t' = total_set (λ (u : ClaimView). times m u.claimed) vs other w z at' in let a = times-append m v.claimed w.claimed in let old = r.once m in
          ((λ h. let was = old.0 h in omega arith), λ h. let was = old.1 h in omega arith);
      lengths = omega arith;
      all_done = omega arith;
      each = every_set (Fits d r.counter) vs other z (record { share_is = inl refl; spent = λ p q. absurd (omega arith); idle = λ q. (refl, refl); within = λ m. omega arith })
          (every_set (Fits d r.counter) s.views id b (joined_fits d r.counter v w pv pw fv fw) r.each);
    }

-- the same, by the words that the closed table gives
pub closes : (d : Deal) (id : ℕ) (v : ClaimView) (ws : List ℕ) (xs : List (Unit {0})) (counter finished : ℕ) → Final (Seen (Dealt d) id v) ws xs
    → get_elem? ws 0 ≡ some counter → get_elem? ws 1 ≡ some finished → 0 < v.weight
    → (v.weight ≡ d.seats → OnceBelow (min counter d.chunks) (λ n. times n v.claimed)) × (v.weight ≡ d.seats → finished ≡ length v.done) × (v.share ≡ 0 → d.chunks ≤ counter)
closes d id v ws xs counter finished final first second weighs =
    let s = final.0 in let seen = final.1 in
    let c : get_or s.words 0 0 ≡ counter = ap (λ (l : List ℕ). get_or l 0 0) final.2 ∙ at_get ws 0 counter first in
    let f : get_or s.words 1 0 ≡ finished = ap (λ (l : List ℕ). get_or l 1 0) final.2 ∙ at_get ws 1 finished second in (
      (λ all. subst (λ (x : ℕ). OnceBelow (min x d.chunks) (λ n. times n v.claimed)) c (ends d id v s seen all).0),
      (λ all. sym f ∙ (ends d id v s seen all).1),
      λ spent. omega (arith, spent_ends d id v s seen weighs spent, c),
    )

module _ (d : Deal) (id : ℕ) (v : ClaimView) (ws : List ℕ) (xs : List (Unit {0})) (final : Final (Seen (Dealt d) id v) ws xs) where
  fits : Fits d final.1.0.counter v
  fits = final.1.0.each id v final.1.1

  pub bounded : (counter : ℕ) → get_elem? ws 0 ≡ some counter → counter + v.share ≤ d.chunks + d.seats
  bounded counter first =
      let r = final.1.0 in
      let c : r.counter ≡ counter = sym (ap (λ (l : List ℕ). get_or l 0 0) r.words) ∙ (ap (λ (l : List ℕ). get_or l 0 0) final.2 ∙ at_get ws 0 counter first) in
      omega (arith, r.room, c, total_part (λ (u : ClaimView). u.share) final.0.views id v final.1.1)

  pub whole_share : (v.share ≡ 0) ⊎ (v.share ≡ v.weight)
  whole_share = fits.share_is

  -- what a seat has done it has claimed, once
  pub done_within : (n : ℕ) → (times n v.done ≤ times n v.claimed) × (times n v.claimed ≤ 1)
  done_within n =
      let r = final.1.0 in let once = r.once n in
      let part = total_part (λ (u : ClaimView). times n u.claimed) final.0.views id v final.1.1 in
      (fits.within n, dite (dec_le (min r.counter d.chunks) n) (λ over. omega (arith, once.1 over, part)) (λ under. omega (arith, once.0 (lt_of_not-le under), part)))
