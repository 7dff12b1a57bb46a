-- Cells that fill up from the least string on, for each terminal that is matched last before a symbol.
use Rattle.std.proofs.Common.{◌≡◌, ℕ, zero, suc, ◌+◌, ◌*◌, ◌<◌, ◌⊎◌, inl, inr, ⊎_elim, List, [], ◌∷◌, ◌++◌, length, Bool, true, not, Some, slice_index_or, refl, sym, ap, ◌∙◌, subst, append-nil, arith}
use Rattle.std.proofs.lemmas.Bool.{true≢false}
use Rattle.std.proofs.lemmas.Option.{slice_get-get_or, get_or_from_slice_get}
use Rattle.grammar_file.specs.declared.symbols.Symbol.{Symbol}
use Rattle.grammar_file.specs.declared.symbols.Symbol.TheVariants.{Terminal, Nonterminal}
use Rattle.grammar_file.specs.Grammar.{Grammar, begin_mark, end_mark, IsWellFormed}
use Rattle.grammar_file.specs.Drive.{first_stack}
use Rattle.grammar_file.specs.Marks.{AreMarksOf}
use Rattle.grammar_file.specs.Laws.Words.{same_nonterminal, terminal-nonterminal}
use Rattle.ll1_sets.specs.Predict.{IsNullable}
use Rattle.llp_tables.specs.Cells.{IsBefore, IsCovered}
use Rattle.ll1_sets.specs.Behind.{BeginsAtLast}
use Rattle.llp_tables.specs.Slots.{Slots, Empty, One, Two, Holds, AreInOrder, is_level, covers, add, room}
use Rattle.llp_tables.specs.Tables.{stack_lt}
use Rattle.llp_tables.specs.Laws.Filling.{covers_is, covers_more, add_holds, add_ordered, add_room, level_self, up_to, keeps_least}
use Rattle.llp_tables.specs.Laws.Forcing.{stop_begins, stop_of}
use Rattle.ll1_sets.specs.Laws.FormTests.{Nullable, First, both, or_right, vanishing, vanishes_exactly}
use Rattle.ll1_sets.specs.Laws.BehindRules.{one_end}
use Rattle.llp_tables.specs.Laws.StackOrder.{before_not_itself, not_before_front}
use Rattle.llp_tables.specs.Laws.TwoLeast.{covered_pass}
use Rattle.llp_wide.specs.Added.{IsIn, Adds}
use Rattle.llp_wide.specs.Claims.{Claim, IsStopIn, IsFirstClaim, IsPassOf, AreClaimsCovered, IsLeastClaim, AreLeastWide}
use Rattle.llp_wide.specs.Places.{Spot, spots_behind, IsKept, IsSoundSpot, own, gathers, shared, AreSpots}
use Rattle.llp_wide.specs.Settling.{IsWideSettling, AreLeft, IsTakenOut}
use Rattle.llp_wide.specs.WideBehind.{any_before, IsEntered, BehindAny, WideBehind, here, through, of_start, of_begin}
use Rattle.llp_wide.proofs.Additions.{in_front, in_behind, in_either}
use Rattle.llp_wide.proofs.Finding.{in_at, at_in}
use Rattle.llp_wide.proofs.WideBounds.{behind_below, entered_not_any}

-- a list that has a spot is one of the list's
within_groups : (groups : List (List Spot)) (n : ℕ) (spot : Spot) → IsIn (slice_index_or groups n []) spot → n < length groups
within_groups [] zero spot h = absurd h
within_groups [] (suc n) spot h = absurd h
within_groups (x ∷ groups) zero spot h = omega arith
within_groups (x ∷ groups) (suc n) spot h = let l = within_groups groups n spot h in omega arith

-- a string that has come in is covered
covers_added : (c : Slots) (w : List Symbol) → room c ≡ suc (room (add w c)) → covers (add w c) w ≡ true
covers_added Empty w h = level_self w
covers_added (One x) w h = or_right (is_level w x) (not (stack_lt w w)) (both (not (stack_lt w w)) (not (stack_lt w w)) (level_self w)).0
covers_added (Two x y) w h = absurd (let e : ◌≡◌ {A = ℕ} 0 1 = h in omega arith)

-- of the claims that are left the least is the least of all that have waited
pub least_of_all : (cell : ℕ → Symbol → Slots) (claims before : List Claim) (p : Claim) → AreLeft cell claims before → IsLeastClaim before cell p → IsLeastClaim claims cell p
least_of_all cell claims before p left least =
    record {
      waiting = left.from p least.waiting;
      uncovered = least.uncovered;
      least = λ x h. ⊎_elim (least.least x) (λ (e : covers (cell x.before x.symbol) x.stack ≡ true). inl e) (left.others x h);
    }

-- a queue of all of them has them all
pub left_in_queue : (cell : ℕ → Symbol → Slots) (claims left : List Claim) → Adds (IsIn claims) [] left → AreLeft cell claims left
left_in_queue cell claims left h =
    record {
      from = λ x k. ⊎_elim (λ (n : ⊥). absurd n) (λ (m : IsIn claims x). m) (h.from x k);
      others = λ x k. inl (h.meets x k);
    }

pub all_claims_covered : (cell : ℕ → Symbol → Slots) (claims left : List Claim) → AreLeft cell claims left → AreClaimsCovered left cell → AreClaimsCovered claims cell
all_claims_covered cell claims left are none x h = ⊎_elim (none x) (λ (e : covers (cell x.before x.symbol) x.stack ≡ true). e) (are.others x h)

module _ (g : Grammar) (nullable first : List Bool) (b : ℕ) (groups : List (List Spot)) where
  abbrev pub Settling : List Symbol → (ℕ → Symbol → Slots) → List Claim → Type 0
  Settling last cell claims = IsWideSettling g nullable first b groups last cell claims

  -- the spots of a symbol's right sides
  abbrev SpotsBehind : ℕ → Symbol → List Spot
  SpotsBehind = spots_behind (length g.nonterminals) groups

  abbrev Passes : Claim → Claim → Type 0
  Passes owner = IsPassOf nullable owner (SpotsBehind owner.before owner.symbol)

  module _ (well : IsWellFormed g) (nulls : AreMarksOf g (Nullable g) nullable) (marks : AreMarksOf g (First g b) first) (are : AreSpots g groups) where
    -- ---- what is forced is so

    stop_front : (after : List Symbol) (z : ℕ) (s : Symbol) (x : Claim) → IsStopIn nullable first b after z s x → (rest : List Symbol) × (after ≡ x.stack ++ rest) × BeginsAtLast g x.stack b
    stop_front after z s x (j, j_below, (last, last_is, stops, x_is)) =
        stop_begins g nullable first b nulls marks after (length after) x.stack (record { place = j; below = j_below; last = last; last_is = last_is; stops = stops; front = ap (λ (c : Claim). c.stack) x_is })

    at_spot : (after : List Symbol) (z : ℕ) (s : Symbol) (x : Claim) → IsStopIn nullable first b after z s x → (x.before ≡ z) × (x.symbol ≡ s)
    at_spot after z s x h = (ap (λ (c : Claim). c.before) h.2.3, ap (λ (c : Claim). c.symbol) h.2.3)

    moved : (z : ℕ) (s : Symbol) (x : Claim) → (x.before ≡ z) × (x.symbol ≡ s) → WideBehind g z s b x.stack → BehindAny g x.before x.symbol b x.stack
    moved z s x e h = inl (subst (λ (t : ℕ × Symbol). WideBehind g t.0 t.1 b x.stack) (λ i. (sym e.0 i, sym e.1 i)) h)

    -- a spot of a symbol's right sides is one of all
    sound_behind : (z : ℕ) (s : Symbol) (spot : Spot) → IsIn (SpotsBehind z s) spot → IsSoundSpot g spot
    sound_behind z (Terminal c) spot h = absurd h
    sound_behind z (Nonterminal a) spot h = are.sound (z * length g.nonterminals + a) spot h

    -- where b begins behind a spot
    spot_behind : (spot : Spot) → IsSoundSpot g spot → (x : Claim) → IsStopIn nullable first b spot.after spot.before spot.symbol x → BehindAny g x.before x.symbol b x.stack
    spot_behind _ (own z0 owner z s after place) x h = let r = stop_front after z s x h in moved z s x (at_spot after z s x h) (here z0 owner z s after x.stack r.0 b place r.1 r.2)
    spot_behind _ (gathers z0 owner entered) x h = absurd (let l : h.0 < 0 = h.1 in omega arith)
    spot_behind _ (shared z0 owner z s after entered places) x h = let r = stop_front after z s x h in moved z s x (at_spot after z s x h) (here z0 owner z s after x.stack r.0 b (places z0 entered) r.1 r.2)

    first_behind : (x : Claim) → IsFirstClaim nullable first b g groups x → BehindAny g x.before x.symbol b x.stack
    first_behind x (inl (inl h)) = let r = stop_front (first_stack g) begin_mark (Terminal begin_mark) x h in
        moved begin_mark (Terminal begin_mark) x (at_spot (first_stack g) begin_mark (Terminal begin_mark) x h) (of_begin x.stack r.0 b r.1 r.2)
    first_behind x (inl (inr h)) = let r = stop_front (Terminal (end_mark g) ∷ []) begin_mark (Nonterminal 0) x h in
        let o = one_end g x.stack r.0 b r.1 r.2 in
        moved begin_mark (Nonterminal 0) x (at_spot (Terminal (end_mark g) ∷ []) begin_mark (Nonterminal 0) x h) (subst (λ (t : ℕ × List Symbol). WideBehind g begin_mark (Nonterminal 0) t.0 t.1) (λ i. (sym o.0 i, sym o.1 i)) of_start)
    first_behind x (inr (n, n_below, (spots, spots_is, (i, i_below, (spot, spot_is, h))))) =
        let there : IsIn (slice_index_or groups n []) spot = subst (λ (xs : List Spot). IsIn xs spot) (sym (get_or_from_slice_get groups n spots [] spots_is)) (in_at spots i spot spot_is) in
        spot_behind spot (are.sound n spot there) x h

    -- ---- what a member passes on is one

    none_before_any : (z : ℕ) (s : Symbol) (t : List Symbol) → WideBehind g z s b t → z ≡ any_before g → ⊥
    none_before_any z s t h is = let l = behind_below g well z s b t h in omega arith

    passed : (spot : Spot) → IsSoundSpot g spot → (t : List Symbol) → IsNullable g spot.after → BehindAny g spot.owner.before (Nonterminal spot.owner.nonterminal) b t → BehindAny g spot.before spot.symbol b (spot.after ++ t)
    passed _ (own z0 owner z s after place) t vanish (inl h) = inl (through z0 owner z s after t b place vanish h)
    passed _ (own z0 owner z s after place) t vanish (inr h) = absurd (entered_not_any g well z0 owner place.entered h.0)
    passed _ (gathers z0 owner entered) t vanish (inl h) = inr (refl, owner, refl, z0, entered, h)
    passed _ (gathers z0 owner entered) t vanish (inr h) = absurd (entered_not_any g well z0 owner entered h.0)
    passed _ (shared z0 owner z s after entered places) t vanish (inl h) = absurd (none_before_any (any_before g) (Nonterminal owner) t h refl)
    passed _ (shared z0 owner z s after entered places) t vanish (inr (is, a, a_is, y, by, h)) =
        let same : a ≡ owner = same_nonterminal (sym a_is) in
        inl (through y owner z s after t b (places y (subst (IsEntered g y) same by)) vanish (subst (λ (n : ℕ). WideBehind g y (Nonterminal n) b t) same h))

    pass_behind : (owner : Claim) → BehindAny g owner.before owner.symbol b owner.stack → (x : Claim) → Passes owner x → BehindAny g x.before x.symbol b x.stack
    pass_behind owner h x (i, i_below, (spot, spot_is, (symbol_is, before_is, vanish, x_is))) =
        subst (λ (c : Claim). BehindAny g c.before c.symbol b c.stack) (sym x_is)
        (passed spot (sound_behind owner.before owner.symbol spot (in_at (SpotsBehind owner.before owner.symbol) i spot spot_is)) owner.stack (vanishing g nullable nulls.sound spot.after vanish)
        (subst (λ (t : ℕ × Symbol). BehindAny g t.0 t.1 b owner.stack) (λ j. (before_is j, symbol_is j)) h))

    -- ---- at the start

    pub wide_settling_start : (cell : ℕ → Symbol → Slots) (claims : List Claim) → ((z : ℕ) (s : Symbol) → cell z s ≡ Empty) → Adds (IsFirstClaim nullable first b g groups) [] claims → Settling [] cell claims
    wide_settling_start cell claims none all =
        record {
          ordered = λ z s. subst AreInOrder (sym (none z s)) tt;
          made = λ z s t h. absurd (subst (λ c. Holds c t) (none z s) h);
          behind = λ z s t h l. subst (λ c. Holds c t) (none z s) h;
          waits = λ x h. ⊎_elim (λ (k : ⊥). absurd k) (λ (k : IsFirstClaim nullable first b g groups x). first_behind x k) (all.from x h);
          ahead = λ x h. inr (λ l. not_before_front x.stack [] (subst (λ w. IsBefore w []) (sym (append-nil x.stack)) l));
          firsts = all.meets;
          passes = λ z s t h x k. absurd (subst (λ c. Holds c t) (none z s) h);
        }

    -- ---- a step

    module _ (last : List Symbol) (old new : ℕ → Symbol → Slots) (claims more : List Claim) (p : Claim) (h : Settling last old claims) (next : IsLeastClaim claims old p) where
      ahead_of : IsBefore p.stack last → ⊥
      ahead_of = ⊎_elim (λ (e : covers (old p.before p.symbol) p.stack ≡ true). absurd (true≢false (sym e ∙ next.uncovered))) (λ (k : IsBefore p.stack last → ⊥). k) (h.ahead p next.waiting)

      -- the cell had room
      pub wide_room_left : room (old p.before p.symbol) ≡ suc (room (add p.stack (old p.before p.symbol)))
      wide_room_left = add_room p.stack last ahead_of (old p.before p.symbol) (h.behind p.before p.symbol) next.uncovered

      module _ (at : new p.before p.symbol ≡ add p.stack (old p.before p.symbol)) (there : (z : ℕ) (s : Symbol) → ((z ≡ p.before) × (s ≡ p.symbol)) ⊎ (new z s ≡ old z s)) (added : Adds (Passes p) claims more) where
        each : (P : ℕ → Symbol → Slots → Type 0) → ((z : ℕ) (s : Symbol) → P z s (old z s)) → P p.before p.symbol (add p.stack (old p.before p.symbol)) → (z : ℕ) (s : Symbol) → P z s (new z s)
        each P others one z s =
            ⊎_elim (λ (e : (z ≡ p.before) × (s ≡ p.symbol)). subst (λ (t : ℕ × Symbol). P t.0 t.1 (new t.0 t.1)) (λ i. (sym e.0 i, sym e.1 i)) (subst (P p.before p.symbol) (sym at) one))
            (λ (e : new z s ≡ old z s). subst (P z s) (sym e) (others z s)) (there z s)

        abbrev IsIt : ℕ → Symbol → List Symbol → Type 0
        IsIt z s t = (z ≡ p.before) × (s ≡ p.symbol) × (t ≡ p.stack)

        held : (z : ℕ) (s : Symbol) (t : List Symbol) → Holds (new z s) t → Holds (old z s) t ⊎ IsIt z s t
        held = each (λ z s c. (t : List Symbol) → Holds c t → Holds (old z s) t ⊎ IsIt z s t) (λ z s t k. inl k)
            (λ t k. ⊎_elim (λ (o : Holds (old p.before p.symbol) t). inl o) (λ (e : t ≡ p.stack). inr (refl, refl, e)) (add_holds (old p.before p.symbol) p.stack t k))

        it_is : (z : ℕ) (s : Symbol) (t : List Symbol) → IsIt z s t → p ≡ record { before = z; symbol = s; stack = t }
        it_is z s t e = λ i. record { before = sym e.0 i; symbol = sym e.1 i; stack = sym e.2 i }

        covered_still : (z : ℕ) (s : Symbol) (v : List Symbol) → covers (old z s) v ≡ true → covers (new z s) v ≡ true
        covered_still = each (λ z s c. (v : List Symbol) → covers (old z s) v ≡ true → covers c v ≡ true) (λ z s v k. k) (λ v k. covers_more (old p.before p.symbol) p.stack v k)

        ahead_now : (x : Claim) → IsIn more x → (covers (new x.before x.symbol) x.stack ≡ true) ⊎ (IsBefore x.stack p.stack → ⊥)
        ahead_now x k = ⊎_elim met passed_on (added.from x k)
          where
            met : IsIn claims x → (covers (new x.before x.symbol) x.stack ≡ true) ⊎ (IsBefore x.stack p.stack → ⊥)
            met f = ⊎_elim (λ (e : covers (old x.before x.symbol) x.stack ≡ true). inl (covered_still x.before x.symbol x.stack e)) (λ (e : IsBefore x.stack p.stack → ⊥). inr e) (next.least x f)

            passed_on : Passes p x → (covers (new x.before x.symbol) x.stack ≡ true) ⊎ (IsBefore x.stack p.stack → ⊥)
            passed_on (i, i_below, (spot, spot_is, (symbol_is, before_is, vanish, x_is))) = inr (λ l. not_before_front spot.after p.stack (subst (λ w. IsBefore w p.stack) (ap (λ (c : Claim). c.stack) x_is) l))

        pub wide_settling_on : Settling p.stack new more
        wide_settling_on =
            record {
              ordered = each (λ z s c. AreInOrder c) h.ordered (add_ordered p.stack last ahead_of (old p.before p.symbol) (h.ordered p.before p.symbol) (h.behind p.before p.symbol) next.uncovered);
              made = λ z s t k. ⊎_elim (λ (o : Holds (old z s) t). h.made z s t o) (λ (e : IsIt z s t). subst (λ (c : Claim). BehindAny g c.before c.symbol b c.stack) (it_is z s t e) (h.waits p next.waiting)) (held z s t k);
              behind = λ z s t k l. ⊎_elim (λ (o : Holds (old z s) t). up_to t last p.stack (h.behind z s t o) ahead_of l) (λ (e : IsIt z s t). before_not_itself p.stack (subst (IsBefore p.stack) e.2 l)) (held z s t k);
              waits = λ x k. ⊎_elim (λ (f : IsIn claims x). h.waits x f) (λ (f : Passes p x). pass_behind p (h.waits p next.waiting) x f) (added.from x k);
              ahead = ahead_now;
              firsts = λ x k. added.keeps x (h.firsts x k);
              passes = λ z s t k x f. ⊎_elim (λ (o : Holds (old z s) t). added.keeps x (h.passes z s t o x f)) (λ (e : IsIt z s t). added.meets x (subst (λ (c : Claim). Passes c x) (sym (it_is z s t e)) f)) (held z s t k);
            }

        -- the claim is covered now
        covered_now : covers (new p.before p.symbol) p.stack ≡ true
        covered_now = subst (λ (c : Slots). covers c p.stack ≡ true) (sym at) (covers_added (old p.before p.symbol) p.stack wide_room_left)

        -- what is left of all that has waited, once more has come into the queue
        pub still_left : (before after now passed : List Claim) → AreLeft old claims before → IsTakenOut old before after p → Adds (IsIn passed) after now → more ≡ claims ++ passed → AreLeft new more now
        still_left before after now passed left taken queued is =
            record {
              from = λ x k. subst (λ (xs : List Claim). IsIn xs x) (sym is) (⊎_elim (λ (m : IsIn after x). in_front claims passed x (left.from x (taken.from x m))) (λ (m : IsIn passed x). in_behind claims passed x m) (queued.from x k));
              others = λ x k. ⊎_elim (λ (m : IsIn claims x). ⊎_elim (λ (n : IsIn before x). gone x (taken.others x n)) (λ (e : covers (old x.before x.symbol) x.stack ≡ true). inr (covered_still x.before x.symbol x.stack e)) (left.others x m))
                  (λ (m : IsIn passed x). inl (queued.meets x m)) (in_either claims passed x (subst (λ (xs : List Claim). IsIn xs x) is k));
            }
          where
            gone : (x : Claim) → (IsIn after x ⊎ (covers (old x.before x.symbol) x.stack ≡ true)) ⊎ (x ≡ p) → IsIn now x ⊎ (covers (new x.before x.symbol) x.stack ≡ true)
            gone x (inl (inl m)) = inl (queued.keeps x m)
            gone x (inl (inr e)) = inr (covered_still x.before x.symbol x.stack e)
            gone x (inr e) = inr (subst (λ (y : Claim). covers (new y.before y.symbol) y.stack ≡ true) (sym e) covered_now)

    -- ---- at the end

    module _ (last : List Symbol) (cell : ℕ → Symbol → Slots) (claims : List Claim) (h : Settling last cell claims) (none : AreClaimsCovered claims cell) where
      first_covered : (x : Claim) → IsFirstClaim nullable first b g groups x → IsCovered (Holds (cell x.before x.symbol)) x.stack
      first_covered x k = covers_is (cell x.before x.symbol) x.stack (h.ordered x.before x.symbol) (none x (h.firsts x k))

      stop_in : (after : List Symbol) (z : ℕ) (s : Symbol) (beta rest : List Symbol) → after ≡ beta ++ rest → BeginsAtLast g beta b → IsStopIn nullable first b after z s (record { before = z; symbol = s; stack = beta })
      stop_in after z s beta rest parts begins =
          let t = stop_of g nullable first b nulls marks after beta rest parts begins in
          (t.place, t.below, (t.last, t.last_is, t.stops, ap (λ (w : List Symbol). record { before = z; symbol = s; stack = w }) t.front))

      -- a claim behind a spot that is kept
      stop_kept : (spot : Spot) → IsKept g groups spot → (x : Claim) → IsStopIn nullable first b spot.after spot.before spot.symbol x → IsFirstClaim nullable first b g groups x
      stop_kept spot kept x h =
          let n = spot.owner.before * length g.nonterminals + spot.owner.nonterminal in
          let spots = slice_index_or groups n [] in
          let i = at_in spots spot kept in
          inr (n, within_groups groups n spot kept, (spots, slice_get-get_or groups n [] (within_groups groups n spot kept), (i.0, i.1, (spot, i.2, h))))

      -- what a kept spot passes on is covered
      pass_kept : (z0 owner z : ℕ) (s : Symbol) (after : List Symbol) → IsKept g groups (record { before = z; symbol = s; owner = record { before = z0; nonterminal = owner }; after = after }) → IsNullable g after → (t : List Symbol)
          → IsCovered (Holds (cell z0 (Nonterminal owner))) t → IsCovered (Holds (cell z s)) (after ++ t)
      pass_kept z0 owner z s after kept vanish t =
          let spot : Spot = record { before = z; symbol = s; owner = record { before = z0; nonterminal = owner }; after = after } in
          let i = at_in (SpotsBehind z0 (Nonterminal owner)) spot kept in
          covered_pass (Holds (cell z0 (Nonterminal owner))) (Holds (cell z s)) after t
          (λ m k.
          let x : Claim = record { before = z; symbol = s; stack = after ++ m } in
          covers_is (cell z s) (after ++ m) (h.ordered z s) (none x (h.passes z0 (Nonterminal owner) m k x (i.0, i.1, (spot, i.2, (refl, refl, vanishes_exactly g nullable nulls after vanish, refl))))))

      covered : (z : ℕ) (s : Symbol) (c : ℕ) (w : List Symbol) → WideBehind g z s c w → c ≡ b → IsCovered (Holds (cell z s)) w
      covered _ _ _ _ (here z0 owner z s after beta rest c place parts begins) e =
          let stop = stop_in after z s beta rest parts (subst (λ (n : ℕ). BeginsAtLast g beta n) e begins) in
          let x : Claim = record { before = z; symbol = s; stack = beta } in
          first_covered x (⊎_elim (λ (k : IsKept g groups (record { before = z; symbol = s; owner = record { before = z0; nonterminal = owner }; after = after })). stop_kept (record { before = z; symbol = s; owner = record { before = z0; nonterminal = owner }; after = after }) k x stop)
          (λ (k : IsKept g groups (record { before = z; symbol = s; owner = record { before = any_before g; nonterminal = owner }; after = after })
          × IsKept g groups (record { before = any_before g; symbol = Nonterminal owner; owner = record { before = z0; nonterminal = owner }; after = [] })). stop_kept (record { before = z; symbol = s; owner = record { before = any_before g; nonterminal = owner }; after = after }) k.0 x stop)
          (are.complete z0 owner z s after place))
      covered _ _ _ _ (through z0 owner z s after beta c place vanish inner) e =
          through_kept (are.complete z0 owner z s after place) (covered z0 (Nonterminal owner) c beta inner e)
        where
          through_kept : IsKept g groups (record { before = z; symbol = s; owner = record { before = z0; nonterminal = owner }; after = after })
              ⊎ (IsKept g groups (record { before = z; symbol = s; owner = record { before = any_before g; nonterminal = owner }; after = after }) × IsKept g groups (record { before = any_before g; symbol = Nonterminal owner; owner = record { before = z0; nonterminal = owner }; after = [] }))
              → IsCovered (Holds (cell z0 (Nonterminal owner))) beta → IsCovered (Holds (cell z s)) (after ++ beta)
          through_kept (inl k) under = pass_kept z0 owner z s after k vanish beta under
          through_kept (inr k) under = pass_kept (any_before g) owner z s after k.0 vanish beta (pass_kept z0 owner (any_before g) (Nonterminal owner) [] k.1 ([], refl) beta under)
      covered _ _ _ _ of_start e =
          first_covered (record { before = begin_mark; symbol = Nonterminal 0; stack = Terminal (end_mark g) ∷ [] })
          (inl (inr (stop_in (Terminal (end_mark g) ∷ []) begin_mark (Nonterminal 0) (Terminal (end_mark g) ∷ []) [] refl ([], Terminal (end_mark g), refl, ([], refl), ([], [], ap (λ (n : ℕ). Some (Terminal n ∷ [])) e)))))
      covered _ _ _ _ (of_begin beta rest c parts begins) e =
          first_covered (record { before = begin_mark; symbol = Terminal begin_mark; stack = beta }) (inl (inl (stop_in (first_stack g) begin_mark (Terminal begin_mark) beta rest parts (subst (λ (n : ℕ). BeginsAtLast g beta n) e begins))))

      terminal_behind : (z a : ℕ) (t : List Symbol) → BehindAny g z (Terminal a) b t → WideBehind g z (Terminal a) b t
      terminal_behind z a t (inl h) = h
      terminal_behind z a t (inr h) = absurd (terminal-nonterminal h.2)

      pub wide_settled : AreLeastWide g b cell
      wide_settled z a = keeps_least (WideBehind g z (Terminal a) b) (cell z (Terminal a)) (h.ordered z (Terminal a)) (λ t k. terminal_behind z a t (h.made z (Terminal a) t k)) (λ w m. covered z (Terminal a) b w m refl)
