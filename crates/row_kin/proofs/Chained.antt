-- The rows of a stretch that may take in earlier ones, one after the other.
use Rattle.std.proofs.Common.{◌≡◌, ◌≢◌, ℕ, ◌+◌, ◌<◌, ◌≤◌, ◌⊎◌, inl, inr, Bool, List, length, min, max, set, sym, ap, ◌∙◌, subst, arith}
use Rattle.std.specs.Prelude.{nat_lt, if◌then◌else◌}
use Rattle.std.proofs.lemmas.Bool.{cases_lt}
use Rattle.list_cuts.specs.Cuts.{number_at}
use Rattle.row_kin.specs.Searched.{IsNextUntil, IsBeginFrom}
use Rattle.row_kin.specs.Taken.{taker, first_of, taken_by, parent_by, place_by, placed_by, Looks}
use Rattle.row_kin.specs.Settles.{Done, DoneAlone, Settling}
use Rattle.row_kin.proofs.Looking.{lt_true, lt_false, is_taker, taker_behind, is_first, inside_ends, look_begins, none_between, none_outside, parent_same, place_same, place_new, place_later}
use Rattle.row_kin.proofs.Writing.{set_other, set_same}

lt_later : (a i j : ℕ) → i ≤ j → (a < i) ⊎ (j ≤ a) → nat_lt a i ≡ nat_lt a j
lt_later a i j le (inl lt) = lt_true a i lt ∙ sym (lt_true a j (omega arith))
lt_later a i j le (inr ge) = lt_false a i (omega arith) ∙ sym (lt_false a j ge)

module _ (lows : List ℕ) where
  abbrev low : ℕ → ℕ
  low k = number_at lows k

  parent_later : (i j k : ℕ) → i ≤ j → (taker lows k < i) ⊎ (j ≤ taker lows k) → parent_by lows i k ≡ parent_by lows j k
  parent_later i j k le h = ap (λ (b : Bool). if b then taker lows k else k) (lt_later (taker lows k) i j le h)

  place_after : (i j k : ℕ) → i ≤ j → (taker lows k < i) ⊎ (j ≤ taker lows k) → place_by lows i k ≡ place_by lows j k
  place_after i j k le h = ap (λ (b : Bool). if b then taken_by lows (taker lows k) k else 0) (lt_later (taker lows k) i j le h)

  place_taken : (i k : ℕ) → taker lows k < i → taken_by lows (taker lows k) k ≡ place_by lows i k
  place_taken i k lt = sym (ap (λ (b : Bool). if b then taken_by lows (taker lows k) k else 0) (lt_true (taker lows k) i lt))

  -- the row that takes in row i looks on where that ended
  chain_looks : (i : ℕ) → i < length lows → taker lows i < length lows → Looks lows (taker lows i) (first_of lows i)
  chain_looks i few some = record {
    above = λ k a b. above k a b (cases_lt k i) (cases_lt i k);
    waits = λ k e. waits k e (cases_lt (taker lows k) (taker lows i));
  }
    where
      t : IsNextUntil lows lows (length lows) i (taker lows i)
      t = is_taker lows i few

      f : IsBeginFrom lows lows 0 i (first_of lows i)
      f = is_first lows i few

      above : (k : ℕ) → first_of lows i ≤ k → k < taker lows i → (k < i) ⊎ (i ≤ k) → (i < k) ⊎ (k ≤ i) → low (taker lows i) ≤ low k
      above k a b (inl less) any = let g = t.found some in let h = f.above k a less in omega arith
      above k a b (inr ge) (inl more) = let g = t.found some in let h = t.passed k more (omega arith) b in omega arith
      above k a b (inr ge) (inr le) = let e : i ≡ k = omega arith in subst (λ (j : ℕ). low (taker lows i) ≤ low j) e (t.found some)

      waits : (k : ℕ) → k + 1 ≡ first_of lows i → (taker lows k < taker lows i) ⊎ (taker lows i ≤ taker lows k) → taker lows i ≤ taker lows k
      waits k e (inr ge) = ge
      waits k e (inl less) = absurd (by (taker lows k) (is_taker lows k (let h = f.high in omega arith)) less (cases_lt (taker lows k) i) (cases_lt i (taker lows k)))
        where
          by : (m : ℕ) → IsNextUntil lows lows (length lows) k m → m < taker lows i → (m < i) ⊎ (i ≤ m) → (i < m) ⊎ (m ≤ i) → ⊥
          by m n l (inl a) any = let b = f.before k e (omega arith) in let g = n.found (omega arith) in let o = n.behind in let h = f.above m (omega arith) a in omega arith
          by m n l (inr a) (inl c) = let b = f.before k e (omega arith) in let g = n.found (omega arith) in let h = t.passed m c (omega arith) l in omega arith
          by m n l (inr a) (inr c) = let b = f.before k e (omega arith) in let q : m ≡ i = omega arith in let g = n.found (omega arith) in let h : low m ≡ low i = ap low q in omega arith

  -- a row between row i and the row that takes it in takes in no row before row i
  quiet : (i k : ℕ) → k < i → i < length lows → (taker lows k < i + 1) ⊎ (taker lows i ≤ taker lows k)
  quiet i k lt few = by (cases_lt (taker lows k) (i + 1)) (cases_lt (taker lows k) (taker lows i))
    where
      by : (taker lows k < i + 1) ⊎ (i + 1 ≤ taker lows k) → (taker lows k < taker lows i) ⊎ (taker lows i ≤ taker lows k) → (taker lows k < i + 1) ⊎ (taker lows i ≤ taker lows k)
      by (inl a) any = inl a
      by (inr a) (inr b) = inr b
      by (inr a) (inl b) = absurd (between (taker lows k) (is_taker lows k (omega arith)) (is_taker lows i few) a b)
        where
          between : (m : ℕ) → IsNextUntil lows lows (length lows) k m → IsNextUntil lows lows (length lows) i (taker lows i) → i + 1 ≤ m → m < taker lows i → ⊥
          between m n t c d = within (cases_lt m (length lows))
            where
              within : (m < length lows) ⊎ (length lows ≤ m) → ⊥
              within (inl some) = let p = n.passed i lt few (omega arith) in let g = n.found some in let q = t.passed m (omega arith) some d in omega arith
              within (inr over) = let e = n.none over in none_there (cases_lt (taker lows i) (length lows)) e
                where
                  none_there : (taker lows i < length lows) ⊎ (length lows ≤ taker lows i) → m ≡ length lows → ⊥
                  none_there (inl less) z = omega arith
                  none_there (inr far) z = let y = t.none far in omega arith

  -- so its subtree begins behind row i, and none before it is counted
  quiet_first : (i m : ℕ) → i < m → m < taker lows i → m < length lows → i < first_of lows m
  quiet_first i m a b few = by (cases_lt i (first_of lows m))
    where
      by : (i < first_of lows m) ⊎ (first_of lows m ≤ i) → i < first_of lows m
      by (inl lt) = lt
      by (inr ge) = absurd (let g = (is_first lows m few).above i ge a in let p = (is_taker lows i (omega arith)).passed m a few b in omega arith)

  quiet_count : (from i m : ℕ) → from ≤ i → i < m → m < taker lows i → m < length lows → taken_by lows m from ≡ 0
  quiet_count from i m le a b few = none_outside lows m from few (let f = quiet_first i m a b few in omega arith)

  module _ (from to : ℕ) where
    pub settle_begins : (parents firsts places : List ℕ) → from ≤ to → to ≤ length lows → Done lows parents firsts places from → DoneAlone lows parents firsts places from to → Settling lows parents firsts places from to from from
    settle_begins parents firsts places order within before own = record {
      low = omega arith;
      high = order;
      top_low = omega arith;
      looks = λ l. look_begins lows from (omega arith);
      inner = λ k a b. absurd (omega arith);
      up = before.up;
      up_own = own.up;
      first = before.first;
      first_own = own.first;
      place = before.place;
      place_done = λ k a b c. let t = taker_behind lows k (omega arith) in absurd (omega arith);
      place_own = λ k a b c d. own.place k a b d;
      root = own.root;
    }

    pub settle_ends : (parents firsts places : List ℕ) (i top : ℕ) → Settling lows parents firsts places from to i top → to ≤ i → Done lows parents firsts places to
    settle_ends parents firsts places i top s le = record {
      up = λ k a. up k a (cases_lt k from);
      first = λ k a. s.first k (omega arith);
      place = λ k a. place k a (cases_lt k from) (cases_lt (taker lows k) to);
    }
      where
        now : i ≡ to
        now = let h = s.high in omega arith

        up : (k : ℕ) → k < to → (k < from) ⊎ (from ≤ k) → number_at parents k ≡ parent_by lows to k
        up k a (inl lt) = s.up k lt ∙ ap (λ (j : ℕ). parent_by lows j k) now
        up k a (inr ge) = s.up_own k ge a

        place : (k : ℕ) → k < to → (k < from) ⊎ (from ≤ k) → (taker lows k < to) ⊎ (to ≤ taker lows k) → number_at places k ≡ place_by lows to k
        place k a (inl lt) any = s.place k lt ∙ ap (λ (j : ℕ). place_by lows j k) now
        place k a (inr ge) (inl less) = let n = now in s.place_done k ge a (omega arith) ∙ place_taken to k less
        place k a (inr ge) (inr over) = s.root k ge a over ∙ sym (ap (λ (b : Bool). if b then taken_by lows (taker lows k) k else 0) (lt_false (taker lows k) to over))

    -- row i is settled
    module _ (parents firsts places : List ℕ) (i top : ℕ) (within : to ≤ length lows) (s : Settling lows parents firsts places from to i top) (lt : i < to) where
      few : i < length lows
      few = omega arith

      -- those that it takes in before its stretch
      pub counted_before : taken_by lows i top ≡ taken_by lows i from
      counted_before = sym (none_between lows i top from s.top_low (λ k a b. let n = s.inner k a b in omega arith))

      -- behind them its children of the stretch have their places
      pub own_behind : (n : ℕ) → n ≡ taken_by lows i top → (k : ℕ) → top ≤ k → k < i → taker lows k ≡ i → number_at places k + n ≡ taken_by lows i k
      own_behind n is k a b e = by (cases_lt k from)
        where
          by : (k < from) ⊎ (from ≤ k) → number_at places k + n ≡ taken_by lows i k
          by (inl less) = absurd (let o = s.inner k a less in omega arith)
          by (inr ge) =
              let o = s.place_own k ge (omega arith) (omega arith) (omega arith) in
              let y = counted_before in
              let x : taken_by lows (taker lows k) from ≡ taken_by lows i from = ap (λ (q : ℕ). taken_by lows q from) e in
              let w : taken_by lows (taker lows k) k ≡ taken_by lows i k = ap (λ (q : ℕ). taken_by lows q k) e in
              omega arith

      -- the next one, or the end
      pub settle_steps : (parents' places' : List ℕ) (t next : ℕ) → length firsts ≡ length lows → t ≡ first_of lows i → t ≤ top → next ≡ min (taker lows i) to → ((k : ℕ) → k < top → number_at parents' k ≡ parent_by lows (i + 1) k) → ((k : ℕ) → top ≤ k → number_at parents' k ≡ number_at parents k) → ((k : ℕ) → k < i → number_at places' k ≡ placed_by lows i k (number_at places k)) → ((k : ℕ) → i ≤ k → number_at places' k ≡ number_at places k) → Settling lows parents' (set firsts i t) places' from to next t
      settle_steps parents' places' t next firsts_many is fall goes taken kept placed stays = record {
        low = (let b = behind in let a = s.low in omega arith);
        high = omega arith;
        top_low = (let a = s.top_low in omega arith);
        looks = λ l. let e : taker lows i ≡ next = omega arith in subst (λ (j : ℕ). Looks lows j t) e (subst (Looks lows (taker lows i)) (sym is) (chain_looks i few (omega arith)));
        inner = λ k a b. let e = inside_ends lows i k few (omega arith) (let c = s.low in omega arith) in let c = behind in omega arith;
        up = λ k a. up k a (cases_lt k top);
        up_own = λ k a b. kept k (let c = s.top_low in omega arith) ∙ s.up_own k a b;
        first = λ k a. first k a (cases_lt k i) (cases_lt i k);
        first_own = λ k a b. set_other firsts i k t (let c = behind in let d : (k ≡ i → ⊥) = omega arith in d) ∙ s.first_own k (let c = behind in omega arith) b;
        place = λ k a. place k a;
        place_done = λ k a b c. place_done k a b c (cases_lt k i) (cases_lt (taker lows k) i) (cases_lt i (taker lows k));
        place_own = λ k a b c d. ap (λ (m : ℕ). m + taken_by lows (taker lows k) from) (place_kept k (let e = behind in omega arith) (cases_lt k i)) ∙ s.place_own k a b (let e = behind in omega arith) d;
        root = λ k a b c. place_kept k (omega arith) (cases_lt k i) ∙ s.root k a b c;
      }
        where
          behind : i < next
          behind = let b = taker_behind lows i few in omega arith

          -- a row before row i has its parent by row i, or none before the next one
          later : (k : ℕ) → k < i → (taker lows k < i + 1) ⊎ (next ≤ taker lows k)
          later k a = by (quiet i k a few)
            where
              by : (taker lows k < i + 1) ⊎ (taker lows i ≤ taker lows k) → (taker lows k < i + 1) ⊎ (next ≤ taker lows k)
              by (inl b) = inl b
              by (inr b) = inr (omega arith)

          up : (k : ℕ) → k < from → (k < top) ⊎ (top ≤ k) → number_at parents' k ≡ parent_by lows next k
          up k a (inl less) = taken k less ∙ parent_later (i + 1) next k (let b = behind in omega arith) (later k (let c = s.low in omega arith))
          up k a (inr ge) =
              kept k ge ∙ s.up k a
              ∙ parent_same lows i k (let b = s.inner k ge a in omega arith)
              ∙ parent_later (i + 1) next k (let b = behind in omega arith) (later k (let c = s.low in omega arith))

          first : (k : ℕ) → k < next → (k < i) ⊎ (i ≤ k) → (i < k) ⊎ (k ≤ i) → number_at (set firsts i t) k ≡ first_of lows k
          first k a (inl less) any = set_other firsts i k t (omega arith) ∙ s.first k less
          first k a (inr ge) (inl more) =
              let q = quiet_first i k more (omega arith) (omega arith) in
              let l = s.low in
              set_other firsts i k t (omega arith) ∙ s.first_own k (omega arith) (omega arith) ∙ (let e : max from (first_of lows k) ≡ first_of lows k = omega arith in e)
          first k a (inr ge) (inr le) = let e : i ≡ k = omega arith in subst (λ (j : ℕ). number_at (set firsts i t) j ≡ first_of lows j) e (set_same firsts i t (let f = few in omega arith) ∙ is)

          place : (k : ℕ) → k < from → number_at places' k ≡ place_by lows next k
          place k a =
              let c = s.low in
              placed k (omega arith)
              ∙ ap (placed_by lows i k) (s.place k a)
              ∙ place_later lows i k
              ∙ place_after (i + 1) next k (let b = behind in omega arith) (later k (omega arith))

          place_kept : (k : ℕ) → taker lows k ≢ i → (k < i) ⊎ (i ≤ k) → number_at places' k ≡ number_at places k
          place_kept k ne (inl less) = placed k less ∙ place_same lows i k (number_at places k) ne
          place_kept k ne (inr ge) = stays k ge

          place_done : (k : ℕ) → from ≤ k → k < to → taker lows k < next → (k < i) ⊎ (i ≤ k) → (taker lows k < i) ⊎ (i ≤ taker lows k) → (i < taker lows k) ⊎ (taker lows k ≤ i) → number_at places' k ≡ taken_by lows (taker lows k) k
          place_done k a b c side (inl less) any = place_kept k (omega arith) side ∙ s.place_done k a b less
          place_done k a b c side (inr ge) (inl more) =
              let q = quiet_count from i (taker lows k) s.low more (omega arith) (omega arith) in
              let o = s.place_own k a b ge (omega arith) in
              place_kept k (omega arith) side ∙ (let e : number_at places k ≡ taken_by lows (taker lows k) k = omega arith in e)
          place_done k a b c (inl less) (inr ge) (inr le) =
              let e : taker lows k ≡ i = omega arith in
              placed k less ∙ place_new lows i k (number_at places k) e ∙ ap (λ (q : ℕ). taken_by lows q k) (sym e)
          place_done k a b c (inr over) (inr ge) (inr le) = let t = taker_behind lows k (omega arith) in absurd (omega arith)
