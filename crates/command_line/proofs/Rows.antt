-- The values of options in the rows that a parse keeps have passed a test.
use Rattle.std.proofs.Common.{◌≡◌, ◌∙◌, ◌<◌, ◌||◌, ◌⊎◌, ℕ, suc, Bool, cond, true, false, refl, sym, ap, subst, arith, List, [], ◌∷◌, ◌++◌, length, Some, inl, inr, unwrap_or, length-append}
use Rattle.std.specs.Prelude.{find, slice_get}
use Rattle.std.specs.Str.{bytes_eq}
use Rattle.std.proofs.lemmas.Bool.{ne_eqb}
use Rattle.std.proofs.lemmas.Slice.Eq.{bytes_eq-Decides}
use Rattle.clap.specs.Facts.{parser_of_value, unwrap_or_range}
use Rattle.clap.specs.ValueTests.{accepts}
use Rattle.clap.specs.Values.{refused_kind}
use Rattle.clap.specs.Kinds.{Kinds, or_else, range_kinds}
use Rattle.clap.specs.Walk.{Text, Rule, Row, at_row, more_values, without, with_values, has_row, used, first_of, most_values, action_of, values_or_missing}
use Rattle.clap.specs.Faults.{values_fault, use_fault, action_fault, repeat_fault}
use Rattle.clap.specs.declared.builder.action.ArgAction.TheVariants.{Set, SetTrue, Help}
use Rattle.clap.specs.declared.builder.range.ValueRange.{ValueRange}
use Rattle.clap.specs.declared.builder.value_parser.Reading.{Reading}
use Rattle.clap.specs.declared.error.kind.ErrorKind.{ErrorKind}
use Rattle.clap.specs.declared.parser.matches.ValueSource.{ValueSource}
use Rattle.clap.specs.declared.parser.matches.ValueSource.TheVariants.{CommandLine}

pub both_none : (a b : Kinds) → or_else a b ≡ [] → (a ≡ []) × (b ≡ [])
both_none [] b h = (refl, h)
both_none (k ∷ ks) b h = cc

passed : (b : Bool) (k : ErrorKind) → cond b [] (k ∷ []) ≡ [] → b ≡ true
passed true k h = refl
passed false k h = cc

abbrev pub one_value : ValueRange
one_value = record { start_inclusive = 1; end_inclusive = 1 }

abbrev pub no_value : ValueRange
no_value = record { start_inclusive = 0; end_inclusive = 0 }

no_more : (n : ℕ) → range_kinds 0 0 (suc n) ≡ [] → ⊥
no_more n h =
    let e = rw (ne_eqb 0 (suc n) (λ e. absurd (omega arith))) at h in
    cc

-- `ok id text`: the text is a value of the option id
module _ (ok : Text → Text → Bool) where
  abbrev pub Passing : Text → List Text → Type 0
  Passing id [] = Unit {0}
  Passing id (t ∷ ts) = (ok id t ≡ true) × Passing id ts

  abbrev pub IsGood : Row → Type 0
  IsGood r = (0 < length r.values) × Passing r.id r.values

  abbrev pub AreGood : List Row → Type 0
  AreGood [] = Unit {0}
  AreGood (r ∷ rs) = IsGood r × AreGood rs

  -- the test decides the values
  abbrev pub IsTested : Rule → Type 0
  IsTested a = (t : Text) → accepts a.ignore_case (parser_of_value a.parser) t ≡ ok a.id t

  -- an option with one value
  pub record IsNumber (a : Rule) : Type 0 where
    pub sets : a.action ≡ Some Set
    pub one : a.range ≡ Some one_value
    pub tested : IsTested a

  -- a flag, and the value of its use
  pub record IsFlag (a : Rule) : Type 0 where
    pub sets : a.action ≡ Some SetTrue
    pub none : a.range ≡ Some no_value
    pub text : Text
    pub used_for : a.missing ≡ text ∷ []
    pub tested : IsTested a

  -- either of them, or the flag that asks for help
  abbrev pub IsOption : Rule → Type 0
  IsOption a = IsNumber a ⊎ (IsFlag a ⊎ (a.action ≡ Some Help))

  abbrev pub AreOptions : List Rule → Type 0
  AreOptions [] = Unit {0}
  AreOptions (a ∷ rest) = IsOption a × AreOptions rest

  pub found_option : (p : Rule → Bool) (c : List Rule) (a : Rule) → AreOptions c → find p c ≡ Some a → IsOption a
  found_option p [] a all h = cc
  found_option p (x ∷ xs) a all h = go (p x) h (found_option p xs a all.1)
    where
      go : (b : Bool) → cond b (Some x) (find p xs) ≡ Some a → (find p xs ≡ Some a → IsOption a) → IsOption a
      go true e rec = subst IsOption (ap (λ o. unwrap_or o x) e) all.0
      go false e rec = rec e

  pub passing : (a : Rule) → IsTested a → (ts : List Text) → values_fault a ts ≡ [] → Passing a.id ts
  passing a tested [] h = tt
  passing a tested (t ∷ ts) h =
      let parts = both_none (cond (accepts a.ignore_case (parser_of_value a.parser) t) [] (refused_kind (parser_of_value a.parser) ∷ [])) (values_fault a ts) h in
      (sym (tested t) ∙ passed (accepts a.ignore_case (parser_of_value a.parser) t) (refused_kind (parser_of_value a.parser)) parts.0, passing a tested ts parts.1)

  append_passing : (id : Text) (xs ys : List Text) → Passing id xs → Passing id ys → Passing id (xs ++ ys)
  append_passing id [] ys p q = q
  append_passing id (x ∷ xs) ys p q = (p.0, append_passing id xs ys p.1 q)

  append_good : (a b : List Row) → AreGood a → AreGood b → AreGood (a ++ b)
  append_good [] b x y = y
  append_good (r ∷ a) b x y = (x.0, append_good a b x.1 y)

  at_row_good : (id : Text) (f : Row → List Row) (m rows : List Row) → ((r : Row) → bytes_eq r.id id ≡ true → IsGood r → AreGood (f r))
      → AreGood m → AreGood rows → AreGood (at_row id f m rows)
  at_row_good id f m [] change missing good = missing
  at_row_good id f m (r ∷ rs) change missing good = go (bytes_eq r.id id) refl (at_row_good id f m rs change missing good.1)
    where
      go : (b : Bool) → bytes_eq r.id id ≡ b → AreGood (at_row id f m rs) → AreGood (cond b (f r ++ rs) (r ∷ at_row id f m rs))
      go true e rec = append_good (f r) rs (change r e good.0) good.1
      go false e rec = (good.0, rec)

  without_good : (id : Text) (rows : List Row) → AreGood rows → AreGood (without id rows)
  without_good id rows good = at_row_good id (λ _. []) [] rows (λ r e g. tt) tt good

  more_good : (id : Text) (s : ValueSource) (vs : List Text) (r : Row) → Passing id vs → bytes_eq r.id id ≡ true → IsGood r → AreGood (more_values s vs r)
  more_good id s vs r passes e good =
      let same : r.id ≡ id = (bytes_eq-Decides r.id id).0 e in
      let long : 0 < length (r.values ++ vs) = rw (length-append r.values vs) (let g : 0 < length r.values = good.0 in omega arith) in
      ((long, append_passing r.id r.values vs good.1 (subst (λ (i : Text). Passing i vs) (sym same) passes)), tt)

  pub with_values_good : (id : Text) (how : Reading) (s : ValueSource) (vs : List Text) (rows : List Row) → 0 < length vs → Passing id vs → AreGood rows
      → AreGood (with_values id how s vs rows)
  with_values_good id how s vs rows some passes good =
      at_row_good id (more_values s vs) _ rows (λ r e g. more_good id s vs r passes e g) ((some, passes), tt) good

  used_number : (again : Bool) (a : Rule) (vs : List Text) (rows : List Row) → IsNumber a → use_fault again a vs rows ≡ [] → AreGood rows → AreGood (used a vs rows)
  used_number again a [] rows n h good =
      let e = rw n.one at h in
      cc
  used_number again a (v ∷ vs) rows n h good =
      let parts = both_none (range_kinds (unwrap_or_range a.range).start_inclusive (most_values a) (length (v ∷ vs))) (action_fault (action_of a) again a (v ∷ vs) rows) h in
      let set = rw n.sets at parts.1 in
      let passes = passing a n.tested (v ∷ vs) (both_none (repeat_fault again a.id rows) (values_fault a (v ∷ vs)) set).1 in
      rw n.sets (with_values_good a.id _ CommandLine (v ∷ vs) (without a.id rows) (omega arith) passes (without_good a.id rows good))

  used_flag : (again : Bool) (a : Rule) (vs : List Text) (rows : List Row) → IsFlag a → use_fault again a vs rows ≡ [] → AreGood rows → AreGood (used a vs rows)
  used_flag again a [] rows n h good =
      let parts = both_none (range_kinds (unwrap_or_range a.range).start_inclusive (most_values a) 0) (action_fault (action_of a) again a a.missing rows) h in
      let set = rw n.sets at parts.1 in
      let passes = passing a n.tested a.missing (both_none (repeat_fault again a.id rows) (values_fault a a.missing) set).1 in
      let some : 0 < length a.missing = rw n.used_for (omega arith) in
      rw n.sets (with_values_good a.id _ CommandLine a.missing (without a.id rows) some passes (without_good a.id rows good))
  used_flag again a (v ∷ vs) rows n h good =
      let parts = both_none (range_kinds (unwrap_or_range a.range).start_inclusive (most_values a) (length (v ∷ vs))) (action_fault (action_of a) again a (v ∷ vs) rows) h in
      absurd (no_more (length vs) (rw n.none at parts.0))

  used_help : (again : Bool) (a : Rule) (vs : List Text) (rows : List Row) → a.action ≡ Some Help → use_fault again a vs rows ≡ [] → ⊥
  used_help again a vs rows e h =
      let parts = both_none (range_kinds (unwrap_or_range a.range).start_inclusive (most_values a) (length vs)) (action_fault (action_of a) again a (values_or_missing a vs) rows) h in
      let asks = rw e at parts.1 in
      cc

  pub used_good : (again : Bool) (a : Rule) (vs : List Text) (rows : List Row) → IsOption a → use_fault again a vs rows ≡ [] → AreGood rows → AreGood (used a vs rows)
  used_good again a vs rows (inl n) h good = used_number again a vs rows n h good
  used_good again a vs rows (inr (inl n)) h good = used_flag again a vs rows n h good
  used_good again a vs rows (inr (inr e)) h good = absurd (used_help again a vs rows e h)

  first_value : (id : Text) (vs : List Text) → 0 < length vs → Passing id vs → (t : Text) × (slice_get vs 0 ≡ Some t) × (ok id t ≡ true)
  first_value id [] some passes = absurd (omega arith)
  first_value id (v ∷ vs) some passes = (v, refl, passes.0)

  -- the first value of an option that has a row
  pub first_good : (id : Text) (rows : List Row) → AreGood rows → has_row id rows ≡ true → (t : Text) × (first_of id rows ≡ Some t) × (ok id t ≡ true)
  first_good id [] good has = cc
  first_good id (r ∷ rs) good has = go (bytes_eq r.id id) refl has (first_good id rs good.1)
    where
      go : (b : Bool) → bytes_eq r.id id ≡ b → (b || has_row id rs) ≡ true → (has_row id rs ≡ true → (t : Text) × (first_of id rs ≡ Some t) × (ok id t ≡ true))
          → (t : Text) × (first_of id (r ∷ rs) ≡ Some t) × (ok id t ≡ true)
      go true e h rec =
          let got = first_value id r.values good.0.0 (subst (λ (i : Text). Passing i r.values) ((bytes_eq-Decides r.id id).0 e) good.0.1) in
          (got.0, rw e got.1, got.2)
      go false e h rec = let got = rec h in (got.0, rw e got.1, got.2)

-- ---- rows stay

same_bytes : (id : Text) → bytes_eq id id ≡ true
same_bytes id = (bytes_eq-Decides id id).1 refl

pub values_row : (id : Text) (how : Reading) (s : ValueSource) (vs : List Text) (rows : List Row) → has_row id (with_values id how s vs rows) ≡ true
values_row id how s vs [] = rw (same_bytes id) refl
values_row id how s vs (r ∷ rs) = go (bytes_eq r.id id) refl (values_row id how s vs rs)
  where
    go : (b : Bool) → bytes_eq r.id id ≡ b → has_row id (with_values id how s vs rs) ≡ true
        → has_row id (cond b (more_values s vs r ++ rs) (r ∷ with_values id how s vs rs)) ≡ true
    go true e rec = rw e refl
    go false e rec = rw (e, rec) refl

pub keeps_row : (id other : Text) (how : Reading) (s : ValueSource) (vs : List Text) (rows : List Row) → has_row id rows ≡ true → has_row id (with_values other how s vs rows) ≡ true
keeps_row id other how s vs [] has = cc
keeps_row id other how s vs (r ∷ rs) has = go (bytes_eq r.id other) (bytes_eq r.id id) refl has (keeps_row id other how s vs rs)
  where
    go : (b h : Bool) → bytes_eq r.id id ≡ h → (h || has_row id rs) ≡ true → (has_row id rs ≡ true → has_row id (with_values other how s vs rs) ≡ true)
        → has_row id (cond b (more_values s vs r ++ rs) (r ∷ with_values other how s vs rs)) ≡ true
    go true h e has rec = rw e has
    go false true e has rec = rw e refl
    go false false e has rec = rw (e, rec has) refl
