-- Right sides that are walked from the start on give all places.
use Rattle.std.proofs.Common.{◌≡◌, ◌≢◌, ℕ, zero, suc, ◌+◌, ◌*◌, ◌<◌, ◌⊎◌, inl, inr, ⊎_elim, List, [], ◌∷◌, ◌++◌, length, set, length-set, take, drop, get_or, get_or-set_other, get_or-set_same, Bool, true, false, ◌&&◌, ◌==◌, eqb, eqb-true, eq-eqb, if◌then◌else◌, Some, slice_get, slice_index_or, refl, sym, ap, ◌∙◌, subst, arith}
use Rattle.std.specs.List.{AllByRecursion}
use Rattle.std.proofs.Math.Seq.{take-append_seam}
use Rattle.std.proofs.lemmas.Bool.{true≢false}
use Rattle.std.proofs.lemmas.Option.{none-some, slice_get_within}
use Rattle.grammar_file.specs.declared.symbols.Symbol.{Symbol}
use Rattle.grammar_file.specs.declared.symbols.Symbol.TheVariants.{Terminal, Nonterminal}
use Rattle.grammar_file.specs.Grammar.{Grammar, production, begin_mark, end_mark, whole, IsSymbol, IsWellFormed}
use Rattle.grammar_file.specs.Drive.{Rule, first_stack}
use Rattle.grammar_file.specs.Marks.{AreMarksOf}
use Rattle.grammar_file.specs.Spelling.{IsReduced}
use Rattle.grammar_file.specs.Laws.Words.{same_head, same_tail, same_nonterminal, terminal-nonterminal, nil-cons}
use Rattle.ll1_sets.specs.Laws.FollowMarks.{parts_of, symbol_at, rest_at}
use Rattle.ll1_sets.specs.Marking.{all_vanish}
use Rattle.ll1_sets.specs.Laws.FormTests.{Nullable, and, both, either, or_left, or_right}
use Rattle.ll1_sets.specs.Laws.BehindBounds.{all_left}
use Rattle.llp_wide.specs.declared.endings.LastMarks.{LastMarks}
use Rattle.llp_wide.specs.declared.places.Entrance.{Entrance}
use Rattle.llp_wide.specs.Added.{IsIn, Adds}
use Rattle.llp_wide.specs.Endings.{finishes, is_ending, is_reached, marks_at, AreEndings}
use Rattle.llp_wide.specs.Places.{Spot, IsSpotAt, IsSpotUnder, IsSpotOn, spots_of, IsSoundSpot, own, gathers, shared, AreSpots}
use Rattle.llp_wide.specs.Surveys.{place_of, IsFound, Finds, Opens, OpensIn, HaveRoom}
use Rattle.llp_wide.specs.WideBehind.{any_before, IsEnding, IsEntered, IsEnteredBy, IsWidePlace}
use Rattle.llp_wide.proofs.Additions.{in_parts, in_last, in_still}
use Rattle.llp_wide.proofs.Finding.{within_product, same_place, in_at, at_in}
use Rattle.llp_wide.proofs.LastSets.{ending_is, ending_tests}
use Rattle.llp_wide.proofs.Stacks.{Stands, stands_first, stands_match, entered_of_stands, stands_of_entered}
use Rattle.llp_wide.proofs.WideBounds.{place_below, entered_below, entered_low, entered_not_any, by_below, by_low}
use Rattle.llp_wide.proofs.WideRules.{Ruled, ruled_stands, at_place, ending_mark}

abbrev pub start : Entrance
start = record { before = 0; nonterminal = 0 }

unequal : (x y : ℕ) → x < y → (x == y) ≡ false
unequal x y l = go (x == y) refl
  where
    go : (b : Bool) → (x == y) ≡ b → (x == y) ≡ false
    go true e = absurd (let same : x ≡ y = eqb-true x y e in omega arith)
    go false e = e

module _ (nullable : List Bool) (all : List LastMarks) where
  reached : (z y : ℕ) (form : List Symbol) → is_reached nullable all z y form ≡ true → ((z ≡ length all) × (finishes nullable (marks_at all y) y form ≡ true)) ⊎ ((z ≡ y) × (all_vanish nullable form ≡ true))
  reached z y form h = go (z == length all) refl h
    where
      go : (b : Bool) → (z == length all) ≡ b → (if b then finishes nullable (marks_at all y) y form else ((z == y) && all_vanish nullable form)) ≡ true
          → ((z ≡ length all) × (finishes nullable (marks_at all y) y form ≡ true)) ⊎ ((z ≡ y) × (all_vanish nullable form ≡ true))
      go true e k = inl (eqb-true z (length all) e, k)
      go false e k = let t = both (z == y) (all_vanish nullable form) k in inr (eqb-true z y t.0, t.1)

  reached_any : (z y : ℕ) (form : List Symbol) → z ≡ length all → finishes nullable (marks_at all y) y form ≡ true → is_reached nullable all z y form ≡ true
  reached_any z y form is h = ap (λ (b : Bool). if b then finishes nullable (marks_at all y) y form else ((z == y) && all_vanish nullable form)) (eq-eqb z (length all) is) ∙ h

  reached_own : (z y : ℕ) (form : List Symbol) → z < length all → ((z == y) && all_vanish nullable form) ≡ true → is_reached nullable all z y form ≡ true
  reached_own z y form l h = ap (λ (b : Bool). if b then finishes nullable (marks_at all y) y form else ((z == y) && all_vanish nullable form)) (unequal z (length all) l) ∙ h

-- an owner's spots in a list where one is set
module _ (groups : List (List Spot)) (p : ℕ) (found : List Spot) (within : p < length groups) where
  in_set : (n : ℕ) (spot : Spot) → IsIn (slice_index_or (set groups p found) n []) spot → IsIn (slice_index_or groups n []) spot ⊎ IsIn found spot
  in_set n spot h = go (eqb n p) refl
    where
      go : (b : Bool) → eqb n p ≡ b → IsIn (slice_index_or groups n []) spot ⊎ IsIn found spot
      go true e = inr (subst (λ (xs : List Spot). IsIn xs spot) (ap (λ (k : ℕ). get_or (set groups p found) k []) (eqb-true n p e) ∙ get_or-set_same groups p found [] within) h)
      go false e = let ne : n ≢ p = λ same. true≢false (sym (eq-eqb n p same) ∙ e) in inl (subst (λ (xs : List Spot). IsIn xs spot) (get_or-set_other groups p n found [] ne) h)

module _ (g : Grammar) (nullable : List Bool) (all : List LastMarks) where
  abbrev pub IsUnder : Entrance → Spot → Type 0
  IsUnder = IsSpotOn nullable all g.productions

  abbrev pub Seen : List Bool → Entrance → Type 0
  Seen marks e = IsFound (length g.nonterminals) marks e ⊎ (e ≡ start)

  abbrev pub Done : List (List Spot) → Entrance → Type 0
  Done groups e = (spot : Spot) → IsUnder e spot → IsIn (spots_of (length g.nonterminals) groups e.before e.nonterminal) spot

  -- What is found is still to be walked, or its places are there. What the places open is found.
  pub record IsSurvey (marks : List Bool) (waiting : List Entrance) (groups : List (List Spot)) : Type 0 where
    pub size : length marks ≡ (length g.terminals + 3) * length g.nonterminals
    pub owners : length groups ≡ (length g.terminals + 3) * length g.nonterminals
    pub entered : (e : Entrance) → IsIn waiting e → IsEnteredBy g e.before e.nonterminal
    pub sound : (n : ℕ) (spot : Spot) → IsIn (slice_index_or groups n []) spot → IsSoundSpot g spot
    pub seen : (e : Entrance) → e.nonterminal < length g.nonterminals → Seen marks e → IsIn waiting e ⊎ Done groups e
    pub closed : (n : ℕ) (spot : Spot) → IsIn (slice_index_or groups n []) spot → (e : Entrance) → Opens spot e → IsFound (length g.nonterminals) marks e

  module _ (well : IsWellFormed g) (reduced : IsReduced g) (nulls : AreMarksOf g (Nullable g) nullable) (ends : AreEndings g all) where
    pub spot_is_sound : (e : Entrance) (spot : Spot) → IsEnteredBy g e.before e.nonterminal → IsUnder e spot → IsSoundSpot g spot
    spot_is_sound e spot (inr (is, y, entered)) (inr (ne, spot_is)) = absurd (ne (is ∙ sym ends.count))
    spot_is_sound e spot (inl entered) (inr (ne, spot_is)) =
        subst (IsSoundSpot g) (sym (spot_is ∙ (λ i. record { before = ends.count i; symbol = Nonterminal e.nonterminal; owner = e; after = [] }))) (gathers e.before e.nonterminal entered)
    spot_is_sound e spot by (inl (i, i_below, (rule, rule_is, left, (k, k_below, (y, y_below, (test, symbol_is, before_is, owner_is, after_is)))))) =
        subst (IsSoundSpot g) (λ i. record { before = sym before_is i; symbol = spot.symbol; owner = sym owner_is i; after = sym after_is i }) (⊎_elim (go by) (at_own by) (reached nullable all e.before y (take k rule.right) test))
      where
        front : List Symbol
        front = take k rule.right

        after : List Symbol
        after = drop (k + 1) rule.right

        right_is : rule.right ≡ front ++ spot.symbol ∷ after
        right_is = parts_of rule.right k spot.symbol symbol_is

        low : y < length g.terminals + 2
        low = let n = ends.count in omega arith

        ours : AllByRecursion (IsSymbol g) front
        ours = all_left (IsSymbol g) front (spot.symbol ∷ after) (subst (AllByRecursion (IsSymbol g)) right_is (well.symbols (suc i) rule rule_is))

        place : (z0 : ℕ) → IsEntered g z0 e.nonterminal → is_ending nullable (marks_at all y) z0 y front ≡ true → IsWidePlace g z0 e.nonterminal y spot.symbol after
        place z0 entered h =
            record { p = suc i; rule = rule; before = front; rule_is = rule_is; left_is = left; right_is = right_is; entered = entered; ending = ending_is g nullable nulls y (marks_at all y) (ends.marks y low) well reduced z0 front ours h }

        it : Spot
        it = record { before = y; symbol = spot.symbol; owner = e; after = after }

        go : IsEnteredBy g e.before e.nonterminal → ((e.before ≡ length all) × (finishes nullable (marks_at all y) y front ≡ true)) → IsSoundSpot g it
        go by t =
            subst (IsSoundSpot g) (λ i. record { before = y; symbol = spot.symbol; owner = record { before = sym (t.0 ∙ ends.count) i; nonterminal = e.nonterminal }; after = after })
            (shared (someone by).0 e.nonterminal y spot.symbol after (someone by).1 (λ z1 entered. place z1 entered (or_left (finishes nullable (marks_at all y) y front) ((z1 == y) && all_vanish nullable front) t.1)))
          where
            someone : IsEnteredBy g e.before e.nonterminal → (z1 : ℕ) × IsEntered g z1 e.nonterminal
            someone (inl entered) = (e.before, entered)
            someone (inr (is, z1, entered)) = (z1, entered)

        at_own : IsEnteredBy g e.before e.nonterminal → ((e.before ≡ y) × (all_vanish nullable front ≡ true)) → IsSoundSpot g it
        at_own (inr (is, z1, entered)) t = absurd (let s : e.before ≡ y = t.0 in omega arith)
        at_own (inl entered) t =
            own e.before e.nonterminal y spot.symbol after
            (place e.before entered (or_right (finishes nullable (marks_at all y) y front) ((e.before == y) && all_vanish nullable front) (and (e.before == y) (all_vanish nullable front) (eq-eqb e.before y t.0) t.1)))

    abbrev pub SpotOf : ℕ → ℕ → ℕ → Symbol → List Symbol → Spot
    SpotOf z0 owner z s after = record { before = z; symbol = s; owner = record { before = z0; nonterminal = owner }; after = after }

    pub place_is_spot : (z0 owner z : ℕ) (s : Symbol) (after : List Symbol) → IsWidePlace g z0 owner z s after → IsUnder (record { before = z0; nonterminal = owner }) (SpotOf z0 owner z s after) ⊎ IsUnder (record { before = any_before g; nonterminal = owner }) (SpotOf (any_before g) owner z s after)
    place_is_spot z0 owner z s after place =
        ⊎_elim
        (λ (h : finishes nullable (marks_at all z) z place.before ≡ true). inr (inl (by (any_before g) place.p place.rule_is (reached_any nullable all (any_before g) z place.before (sym ends.count) h))))
        (λ (h : ((z0 == z) && all_vanish nullable place.before) ≡ true). inl (inl (by z0 place.p place.rule_is (reached_own nullable all z0 z place.before (let l = entered_below g well z0 owner place.entered in let n = ends.count in omega arith) h))))
        (either (finishes nullable (marks_at all z) z place.before) ((z0 == z) && all_vanish nullable place.before) (ending_tests g nullable nulls z (marks_at all z) (ends.marks z low) well reduced z0 place.before place.ending))
      where
        right : List Symbol
        right = place.rule.right

        there : slice_get right (length place.before) ≡ Some s
        there = ap (λ (f : List Symbol). slice_get f (length place.before)) place.right_is ∙ symbol_at place.before s after

        front : take (length place.before) right ≡ place.before
        front = ap (take (length place.before)) place.right_is ∙ take-append_seam place.before (s ∷ after)

        low : z < length g.terminals + 2
        low = place_below g well z0 owner z s after place

        by : (e : ℕ) (p : ℕ) → production g p ≡ Some place.rule → is_reached nullable all e z place.before ≡ true → IsSpotUnder nullable all g.productions (record { before = e; nonterminal = owner }) (SpotOf e owner z s after)
        by e zero is h = absurd (none-some place.rule is)
        by e (suc i) is h =
            let at : IsSpotAt nullable all (record { before = e; nonterminal = owner }) right (length place.before) z (SpotOf e owner z s after) =
            (ap (is_reached nullable all e z) front ∙ h, there, refl, refl, sym (ap (λ (f : List Symbol). drop (length place.before + 1) f) place.right_is ∙ rest_at place.before s after)) in
            (i, slice_get_within g.productions i place.rule is, (place.rule, is, place.left_is, (length place.before, slice_get_within right (length place.before) s there, (z, (let n : length all ≡ length g.terminals + 2 = ends.count in let l : z < length g.terminals + 2 = low in omega arith), at))))

    gathering_is_spot : (z0 owner : ℕ) → IsEntered g z0 owner → IsUnder (record { before = z0; nonterminal = owner }) (SpotOf z0 owner (any_before g) (Nonterminal owner) [])
    gathering_is_spot z0 owner entered = inr (λ is. entered_not_any g well z0 owner entered (is ∙ ends.count), λ i. SpotOf z0 owner (sym ends.count i) (Nonterminal owner) [])

    start_entered : IsEntered g 0 0
    start_entered = entered_of_stands g begin_mark 0 (Terminal (end_mark g) ∷ []) (stands_match g begin_mark begin_mark (first_stack g) (stands_first g))

    pub survey_start : (marks : List Bool) (groups : List (List Spot)) → length marks ≡ (length g.terminals + 3) * length g.nonterminals → length groups ≡ (length g.terminals + 3) * length g.nonterminals → ((a : ℕ) → get_or marks a false ≡ false)
        → ((n : ℕ) → slice_index_or groups n [] ≡ []) → IsSurvey marks (start ∷ []) groups
    survey_start marks groups size owners none empty =
        record {
          size = size;
          owners = owners;
          entered = λ e h. ⊎_elim (λ (k : e ≡ start). inl (subst (λ (x : Entrance). IsEntered g x.before x.nonterminal) (sym k) start_entered)) (λ (k : ⊥). absurd k) h;
          sound = λ n spot h. absurd (subst (λ (xs : List Spot). IsIn xs spot) (empty n) h);
          seen = λ e l h. ⊎_elim (λ (k : IsFound (length g.nonterminals) marks e). absurd (true≢false (sym k ∙ none (place_of (length g.nonterminals) e)))) (λ (k : e ≡ start). inl (inl k)) h;
          closed = λ n spot h. absurd (subst (λ (xs : List Spot). IsIn xs spot) (empty n) h);
        }

    -- where a place's symbol is a nonterminal, that is entered
    opened_at : (z0 owner z : ℕ) (s : Symbol) (after : List Symbol) (e : Entrance) → IsWidePlace g z0 owner z s after → s ≡ Nonterminal e.nonterminal → z ≡ e.before → IsEntered g e.before e.nonterminal
    opened_at z0 owner z s after e place s_is z_is =
        let b = stands_of_entered g z0 owner place.entered in
        let t = at_place g z0 owner z s after b.0 place b.1 in
        entered_of_stands g e.before e.nonterminal (after ++ b.0) (subst (λ (x : ℕ × Symbol). Stands g x.0 (x.1 ∷ (after ++ b.0))) (λ i. (z_is i, s_is i)) t)

    opened_entered : (spot : Spot) (e : Entrance) → IsSoundSpot g spot → Opens spot e → IsEnteredBy g e.before e.nonterminal
    opened_entered _ e (own z0 owner z s after place) h = inl (opened_at z0 owner z s after e place h.0 h.1)
    opened_entered _ e (gathers z0 owner entered) h = inr (sym h.1, z0, subst (IsEntered g z0) (same_nonterminal h.0) entered)
    opened_entered _ e (shared z0 owner z s after entered places) h = inl (opened_at z0 owner z s after e (places z0 entered) h.0 h.1)

    pub owner_within : (e0 : Entrance) (size : ℕ) → size ≡ (length g.terminals + 3) * length g.nonterminals → IsEnteredBy g e0.before e0.nonterminal → place_of (length g.nonterminals) e0 < size
    owner_within e0 size size_is by =
        subst (λ (n : ℕ). place_of (length g.nonterminals) e0 < n) (sym size_is) (within_product (length g.terminals + 3) (length g.nonterminals) e0.before e0.nonterminal (by_below g well e0.before e0.nonterminal by) (by_low g well e0.before e0.nonterminal by))

    pub have_room : (e0 : Entrance) (own_spots : List Spot) (size : ℕ) → size ≡ (length g.terminals + 3) * length g.nonterminals → IsEnteredBy g e0.before e0.nonterminal → Adds (IsUnder e0) [] own_spots → HaveRoom (length g.nonterminals) own_spots size
    have_room e0 own_spots size size_is entered adds spot is e h =
        let sound : IsSoundSpot g spot = ⊎_elim (λ (k : ⊥). absurd k) (λ (k : IsUnder e0 spot). spot_is_sound e0 spot entered k) (adds.from spot is) in
        let by = opened_entered spot e sound h in
        (by_low g well e.before e.nonterminal by, owner_within e size size_is by)

    module _ (marks0 marks1 : List Bool) (rest waiting : List Entrance) (e0 : Entrance) (groups : List (List Spot)) (found : List Spot) (h : IsSurvey marks0 (rest ++ e0 ∷ []) groups) (adds : Adds (IsUnder e0) [] found)
        (finds : Finds (length g.nonterminals) (OpensIn found (length found)) marks0 rest marks1 waiting) where
      abbrev now : List (List Spot)
      now = set groups (place_of (length g.nonterminals) e0) found

      entered_first : IsEnteredBy g e0.before e0.nonterminal
      entered_first = h.entered e0 (in_last rest e0 e0 refl)

      within : place_of (length g.nonterminals) e0 < length groups
      within = owner_within e0 (length groups) h.owners entered_first

      found_sound : (spot : Spot) → IsIn found spot → IsSoundSpot g spot
      found_sound spot k = ⊎_elim (λ (m : ⊥). absurd m) (λ (m : IsUnder e0 spot). spot_is_sound e0 spot entered_first m) (adds.from spot k)

      sound_now : (n : ℕ) (spot : Spot) → IsIn (slice_index_or now n []) spot → IsSoundSpot g spot
      sound_now n spot k = ⊎_elim (h.sound n spot) (found_sound spot) (in_set groups (place_of (length g.nonterminals) e0) found within n spot k)

      entered_now : (e : Entrance) → IsIn waiting e → IsEnteredBy g e.before e.nonterminal
      entered_now e k =
          ⊎_elim (λ (m : IsIn rest e). h.entered e (in_still rest e0 e m))
          (λ (m : OpensIn found (length found) e). opened_entered m.2.0 e (found_sound m.2.0 (in_at found m.0 m.2.0 m.2.1)) m.2.2) (finds.from e k)

      done_first : (spot : Spot) → IsUnder e0 spot → IsIn (slice_index_or now (place_of (length g.nonterminals) e0) []) spot
      done_first spot k = subst (λ (xs : List Spot). IsIn xs spot) (sym (get_or-set_same groups (place_of (length g.nonterminals) e0) found [] within)) (adds.meets spot k)

      done_more : (e : Entrance) → e.nonterminal < length g.nonterminals → Done groups e → Done now e
      done_more e l d spot k = go (eqb (place_of (length g.nonterminals) e) (place_of (length g.nonterminals) e0)) refl
        where
          go : (b : Bool) → eqb (place_of (length g.nonterminals) e) (place_of (length g.nonterminals) e0) ≡ b → IsIn (slice_index_or now (place_of (length g.nonterminals) e) []) spot
          go true is =
              let at = eqb-true (place_of (length g.nonterminals) e) (place_of (length g.nonterminals) e0) is in
              let s = same_place (length g.nonterminals) e.before e.nonterminal e0.before e0.nonterminal l (by_low g well e0.before e0.nonterminal entered_first) at in
              subst (λ (n : ℕ). IsIn (slice_index_or now n []) spot) (sym at) (done_first spot (subst (λ (x : Entrance). IsUnder x spot) (λ i. record { before = s.0 i; nonterminal = s.1 i }) k))
          go false is =
              let ne : place_of (length g.nonterminals) e ≢ place_of (length g.nonterminals) e0 = λ same. true≢false (sym (eq-eqb (place_of (length g.nonterminals) e) (place_of (length g.nonterminals) e0) same) ∙ is) in
              subst (λ (xs : List Spot). IsIn xs spot) (sym (get_or-set_other groups (place_of (length g.nonterminals) e0) (place_of (length g.nonterminals) e) found [] ne)) (d spot k)

      seen_before : (e : Entrance) → e.nonterminal < length g.nonterminals → IsIn (rest ++ e0 ∷ []) e ⊎ Done groups e → IsIn waiting e ⊎ Done now e
      seen_before e l (inr d) = inr (done_more e l d)
      seen_before e l (inl i) = ⊎_elim (λ (m : IsIn rest e). inl (finds.still e m)) (λ (m : e ≡ e0). inr (subst (Done now) (sym m) done_first)) (in_parts rest e0 e i)

      seen_now : (e : Entrance) → e.nonterminal < length g.nonterminals → Seen marks1 e → IsIn waiting e ⊎ Done now e
      seen_now e l (inr k) = seen_before e l (h.seen e l (inr k))
      seen_now e l (inl k) = ⊎_elim (λ (m : IsFound (length g.nonterminals) marks0 e). seen_before e l (h.seen e l (inl m))) (λ (m : IsIn waiting e). inl m) (finds.opens e l k)

      closed_now : (n : ℕ) (spot : Spot) → IsIn (slice_index_or now n []) spot → (e : Entrance) → Opens spot e → IsFound (length g.nonterminals) marks1 e
      closed_now n spot k e o =
          ⊎_elim (λ (m : IsIn (slice_index_or groups n []) spot). finds.keeps e (h.closed n spot m e o)) (λ (m : IsIn found spot). let a = at_in found spot m in finds.meets e (a.0, a.1, (spot, a.2, o)))
          (in_set groups (place_of (length g.nonterminals) e0) found within n spot k)

      pub survey_on : IsSurvey marks1 waiting (set groups (place_of (length g.nonterminals) e0) found)
      survey_on = record { size = finds.size ∙ h.size; owners = length-set groups (place_of (length g.nonterminals) e0) found ∙ h.owners; entered = entered_now; sound = sound_now; seen = seen_now; closed = closed_now }

    -- ---- at the end

    module _ (marks : List Bool) (groups : List (List Spot)) (h : IsSurvey marks [] groups) where
      done : (e : Entrance) → e.nonterminal < length g.nonterminals → Seen marks e → Done groups e
      done e l s = ⊎_elim (λ (k : ⊥). absurd k) (λ (k : Done groups e). k) (h.seen e l s)

      -- where an owner has been found, it is gathered
      gathered : (z a : ℕ) → IsEntered g z a → Seen marks (record { before = z; nonterminal = a }) → IsIn (spots_of (length g.nonterminals) groups z a) (SpotOf z a (any_before g) (Nonterminal a) [])
      gathered z a entered seen = done (record { before = z; nonterminal = a }) (entered_low g well z a entered) seen (SpotOf z a (any_before g) (Nonterminal a) []) (gathering_is_spot z a entered)

      done_any : (z a : ℕ) → IsEntered g z a → Seen marks (record { before = z; nonterminal = a }) → Done groups (record { before = any_before g; nonterminal = a })
      done_any z a entered seen =
          let e : Entrance = record { before = any_before g; nonterminal = a } in
          done e (entered_low g well z a entered) (inl (h.closed (z * length g.nonterminals + a) (SpotOf z a (any_before g) (Nonterminal a) []) (gathered z a entered seen) e (refl, refl)))

      -- each nonterminal of a stack has been found, by what is matched last before it
      abbrev IsSeen : ℕ → Symbol → List Symbol → Type 0
      IsSeen y s back = (a : ℕ) → s ≡ Nonterminal a → Seen marks (record { before = y; nonterminal = a })

      seen_first : Ruled g IsSeen begin_mark (whole g)
      seen_first [] back s y is ending a s_is = absurd (terminal-nonterminal (same_head is ∙ s_is))
      seen_first (x ∷ []) back s y is ending a s_is =
          let z_is : begin_mark ≡ y = ending_mark g x y (same_head is) ending in
          let a_is : 0 ≡ a = same_nonterminal (same_head (same_tail is) ∙ s_is) in
          inr (λ i. record { before = sym z_is i; nonterminal = sym a_is i })
      seen_first (x ∷ w ∷ []) back s y is ending a s_is = absurd (terminal-nonterminal (same_head (same_tail (same_tail is)) ∙ s_is))
      seen_first (x ∷ w ∷ v ∷ []) back s y is ending a s_is = absurd (nil-cons (same_tail (same_tail (same_tail is))))
      seen_first (x ∷ w ∷ v ∷ t ∷ front) back s y is ending a s_is = absurd (nil-cons (same_tail (same_tail (same_tail is))))

      seen_expand : (z a p : ℕ) (r u front after : List Symbol) (s : Symbol) (y : ℕ) → IsEntered g z a → IsSeen z (Nonterminal a) u → Rule g p a r → r ≡ front ++ s ∷ after → IsEnding g front z y → IsSeen y s (after ++ u)
      seen_expand z a p r u front after s y entered owner rule right_is ending c s_is =
          let place : IsWidePlace g z a y s after = record { p = p; rule = record { left = a; right = r }; before = front; rule_is = rule; left_is = refl; right_is = right_is; entered = entered; ending = ending } in
          let e : Entrance = record { before = y; nonterminal = c } in
          inl
          (⊎_elim
          (λ (k : IsUnder (record { before = z; nonterminal = a }) (SpotOf z a y s after)).
          h.closed (z * length g.nonterminals + a) (SpotOf z a y s after) (done (record { before = z; nonterminal = a }) (entered_low g well z a entered) (owner a refl) (SpotOf z a y s after) k) e (s_is, refl))
          (λ (k : IsUnder (record { before = any_before g; nonterminal = a }) (SpotOf (any_before g) a y s after)).
          h.closed (any_before g * length g.nonterminals + a) (SpotOf (any_before g) a y s after) (done_any z a entered (owner a refl) (SpotOf (any_before g) a y s after) k) e (s_is, refl))
          (place_is_spot z a y s after place))

      entered_seen : (z a : ℕ) → IsEntered g z a → Seen marks (record { before = z; nonterminal = a })
      entered_seen z a e = let s = stands_of_entered g z a e in ruled_stands g IsSeen seen_first seen_expand z (Nonterminal a ∷ s.0) s.1 [] s.0 (Nonterminal a) z refl ([], [], refl, refl) a refl

      pub survey_end : AreSpots g groups
      survey_end =
          record {
            sound = h.sound;
            complete = λ z0 owner z s after place.
                let seen = entered_seen z0 owner place.entered in
                ⊎_elim
                (λ (k : IsUnder (record { before = z0; nonterminal = owner }) (SpotOf z0 owner z s after)). inl (done (record { before = z0; nonterminal = owner }) (entered_low g well z0 owner place.entered) seen (SpotOf z0 owner z s after) k))
                (λ (k : IsUnder (record { before = any_before g; nonterminal = owner }) (SpotOf (any_before g) owner z s after)). inr (done_any z0 owner place.entered seen (SpotOf (any_before g) owner z s after) k, gathered z0 owner place.entered seen))
                (place_is_spot z0 owner z s after place);
          }
