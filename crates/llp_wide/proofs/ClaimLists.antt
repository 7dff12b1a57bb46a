-- Claims that are added.
use Rattle.std.proofs.Common.{◌≡◌, ℕ, zero, suc, ◌+◌, ◌<◌, ◌≤◌, inl, inr, ⊎_elim, List, [], ◌∷◌, ◌++◌, length, take, Bool, true, false, Some, slice_get, refl, sym, ap, ◌∙◌, subst, arith}
use Rattle.std.proofs.lemmas.Bool.{cases_lt, true≢false}
use Rattle.std.proofs.lemmas.Option.{same_Some}
use Rattle.grammar_file.specs.declared.symbols.Symbol.{Symbol}
use Rattle.grammar_file.specs.declared.symbols.Symbol.TheVariants.{Nonterminal}
use Rattle.llp_tables.specs.Cells.{IsBefore}
use Rattle.llp_tables.specs.Forced.{is_stop}
use Rattle.ll1_sets.specs.Marking.{vanishes, all_vanish, starts}
use Rattle.llp_tables.specs.Slots.{Slots, covers}
use Rattle.ll1_sets.specs.Laws.FormTests.{both, and}
use Rattle.llp_wide.specs.Added.{IsIn, Adds, SomeBelow}
use Rattle.llp_wide.specs.Places.{Spot}
use Rattle.llp_wide.specs.Claims.{Claim, IsStopAt, IsStopIn, IsPassAt, AreClaimsCovered}
use Rattle.llp_wide.specs.Settling.{AreLeft, IsTakenOut}
use Rattle.llp_wide.proofs.Additions.{adds_one, adds_none, adds_as}

module _ (nullable first : List Bool) (b : ℕ) (after : List Symbol) (before : ℕ) (symbol : Symbol) (j : ℕ) (last : Symbol) (last_is : slice_get after j ≡ Some last) where
  pub no_stop : (old : List Claim) → is_stop nullable first b (take j after) last ≡ false → Adds (IsStopAt nullable first b after before symbol j) old old
  no_stop old e = adds_none (IsStopAt nullable first b after before symbol j) old
      (λ x h. true≢false (sym h.2 ∙ (ap (is_stop nullable first b (take j after)) (same_Some h.0 last (sym h.1 ∙ last_is)) ∙ e)))

  pub stop_added : (stack : List Symbol) (old new : List Claim) → is_stop nullable first b (take j after) last ≡ true → stack ≡ take (j + 1) after → new ≡ old ++ (record { before = before; symbol = symbol; stack = stack }) ∷ [] → Adds (IsStopAt nullable first b after before symbol j) old new
  stop_added stack old new e stack_is grown =
      let it : Claim = record { before = before; symbol = symbol; stack = take (j + 1) after } in
      let grown_it : new ≡ old ++ it ∷ [] = grown ∙ ap (λ (w : List Symbol). old ++ (record { before = before; symbol = symbol; stack = w }) ∷ []) stack_is in
      subst (λ (xs : List Claim). Adds (IsStopAt nullable first b after before symbol j) old xs) (sym grown_it)
      (adds_as (λ (x : Claim). x ≡ it) (IsStopAt nullable first b after before symbol j) old (old ++ it ∷ []) (λ x h. (last, last_is, e, h)) (λ x h. h.3) (adds_one old it))

vanish_front : (nullable : List Bool) (xs : List Symbol) (n k : ℕ) → n ≤ k → all_vanish nullable (take k xs) ≡ true → all_vanish nullable (take n xs) ≡ true
vanish_front nullable xs zero k l h = refl
vanish_front nullable [] (suc n) k l h = refl
vanish_front nullable (x ∷ xs) (suc n) zero l h = absurd (omega arith)
vanish_front nullable (x ∷ xs) (suc n) (suc k) l h =
    let t = both (vanishes nullable x) (all_vanish nullable (take k xs)) h in and (vanishes nullable x) (all_vanish nullable (take n xs)) t.0 (vanish_front nullable xs n k (omega arith) t.1)

-- b begins behind no symbol that can't vanish
pub last_stop : (nullable first : List Bool) (b : ℕ) (after : List Symbol) (before : ℕ) (symbol : Symbol) (j : ℕ) (old new : List Claim) → j < length after → all_vanish nullable (take (j + 1) after) ≡ false
    → Adds (SomeBelow (j + 1) (IsStopAt nullable first b after before symbol)) old new → Adds (IsStopIn nullable first b after before symbol) old new
last_stop nullable first b after before symbol j old new j_below e h =
    adds_as (SomeBelow (j + 1) (IsStopAt nullable first b after before symbol)) (IsStopIn nullable first b after before symbol) old new (λ x t. (t.0, (let l : t.0 < j + 1 = t.1 in omega arith), t.2)) back h
  where
    back : (x : Claim) → IsStopIn nullable first b after before symbol x → SomeBelow (j + 1) (IsStopAt nullable first b after before symbol) x
    back x t =
        ⊎_elim (λ (l : t.0 < j + 1). (t.0, l, t.2))
        (λ (l : j + 1 ≤ t.0). absurd (true≢false (sym (vanish_front nullable after (j + 1) t.0 l (both (all_vanish nullable (take t.0 after)) (starts first b t.2.0) t.2.2).0) ∙ e)))
        (cases_lt t.0 (j + 1))

module _ (nullable : List Bool) (owner : Claim) (spot : Spot) where
  pub not_owner : (old : List Claim) → (owner.symbol ≡ Nonterminal spot.owner.nonterminal → owner.before ≡ spot.owner.before → ⊥) → Adds (IsPassAt nullable owner spot) old old
  not_owner old never = adds_none (IsPassAt nullable owner spot) old (λ x h. never h.0 h.1)

  pub not_passed : (old : List Claim) → all_vanish nullable spot.after ≡ false → Adds (IsPassAt nullable owner spot) old old
  not_passed old e = adds_none (IsPassAt nullable owner spot) old (λ x h. true≢false (sym h.2 ∙ e))

  pub pass_added : (stack : List Symbol) (old new : List Claim) → owner.symbol ≡ Nonterminal spot.owner.nonterminal → owner.before ≡ spot.owner.before → all_vanish nullable spot.after ≡ true → stack ≡ spot.after ++ owner.stack
      → new ≡ old ++ (record { before = spot.before; symbol = spot.symbol; stack = stack }) ∷ [] → Adds (IsPassAt nullable owner spot) old new
  pass_added stack old new symbol_is before_is e stack_is grown =
      let it : Claim = record { before = spot.before; symbol = spot.symbol; stack = spot.after ++ owner.stack } in
      let grown_it : new ≡ old ++ it ∷ [] = grown ∙ ap (λ (w : List Symbol). old ++ (record { before = spot.before; symbol = spot.symbol; stack = w }) ∷ []) stack_is in
      subst (λ (xs : List Claim). Adds (IsPassAt nullable owner spot) old xs) (sym grown_it)
      (adds_as (λ (x : Claim). x ≡ it) (IsPassAt nullable owner spot) old (old ++ it ∷ []) (λ x h. (symbol_is, before_is, e, h)) (λ x h. h.3) (adds_one old it))

-- what one place adds is what is added at its number
pub by_spot : {A : Type 0} (spots : List A) (i : ℕ) (spot : A) (P : A → Claim → Type 0) (old new : List Claim) → slice_get spots i ≡ Some spot → Adds (P spot) old new → Adds (λ claim. (s : A) × (slice_get spots i ≡ Some s) × P s claim) old new
by_spot {A} spots i spot P old new is h =
    adds_as (P spot) (λ claim. (s : A) × (slice_get spots i ≡ Some s) × P s claim) old new (λ x k. (spot, is, k)) (λ x k. subst (λ (s : A). P s x) (same_Some k.0 spot (sym k.1 ∙ is)) k.2) h

-- ---- what is left in a queue

module _ (cell : ℕ → Symbol → Slots) (old left : List Claim) (are : AreLeft cell old left) where
  -- nothing more is left
  pub all_covered : left ≡ [] → AreClaimsCovered old cell
  all_covered none x h = ⊎_elim (λ (k : IsIn left x). absurd (subst (λ (xs : List Claim). IsIn xs x) none k)) (λ (e : covers (cell x.before x.symbol) x.stack ≡ true). e) (are.others x h)

  module _ (new : List Claim) (p : Claim) (taken : Adds (λ x. x ≡ p) new left) where
    from_new : (x : Claim) → IsIn new x → IsIn old x
    from_new x h = are.from x (taken.keeps x h)

    pub next_is_covered : covers (cell p.before p.symbol) p.stack ≡ true → AreLeft cell old new
    next_is_covered e =
        record {
          from = from_new;
          others = λ x h. ⊎_elim (λ (k : IsIn left x). ⊎_elim (λ (m : IsIn new x). inl m) (λ (m : x ≡ p). inr (subst (λ (y : Claim). covers (cell y.before y.symbol) y.stack ≡ true) (sym m) e)) (taken.from x k))
              (λ (k : covers (cell x.before x.symbol) x.stack ≡ true). inr k) (are.others x h);
        }

    pub next_is_taken : ((x : Claim) → IsIn left x → IsBefore x.stack p.stack → ⊥) → covers (cell p.before p.symbol) p.stack ≡ false → IsTakenOut cell old new p
    next_is_taken least e =
        record {
          least = record {
            waiting = are.from p (taken.meets p refl);
            uncovered = e;
            least = λ x h. ⊎_elim (λ (k : IsIn left x). inr (least x k)) (λ (k : covers (cell x.before x.symbol) x.stack ≡ true). inl k) (are.others x h);
          };
          from = from_new;
          others = λ x h. ⊎_elim (λ (k : IsIn left x). ⊎_elim (λ (m : IsIn new x). inl (inl m)) (λ (m : x ≡ p). inr m) (taken.from x k)) (λ (k : covers (cell x.before x.symbol) x.stack ≡ true). inl (inr k)) (are.others x h);
        }
