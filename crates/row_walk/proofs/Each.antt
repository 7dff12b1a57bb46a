-- A walk over the tree of each kind of production, from walks over its parts.
use Rattle.std.proofs.Common.{◌≡◌, ℕ, suc, ◌+◌, Bool, true, false, List, [], ◌∷◌, ◌++◌, length, refl, sym, ap, ◌∙◌, subst, arith}
use Rattle.std.specs.Prelude.{if◌then◌else◌, ◌&&◌, ◌||◌, nat_eq}
use Rattle.std.proofs.lemmas.Bool.Decides.{nat_tests}
use Rattle.std.proofs.lemmas.List.{append-nil}
use Rattle.source_meaning.specs.declared.kinds.Terminal.TheVariants.{ElseWord}
use Rattle.source_meaning.specs.Grammar.{ElseBody, Leaf, Production, left, right, Tree, node, Forest, done, leaf, tree, left_parse, forest_parse, stmt_else}
use Rattle.row_laws.specs.Emitted.{is_if, is_else, is_open, is_early, part, parts}
use Rattle.row_laws.specs.Levels.{kids, width}
use Rattle.row_laws.specs.Owned.{reads_count}
use Rattle.row_laws.specs.Joins.{is_cell, starts_else}
use Rattle.row_laws.specs.Along.{has_row}
use Rattle.row_walk.specs.Walk.{Open, Made, Rows, closed, cut, opened, turned}
use Rattle.row_walk.proofs.Cuts.{rows_of, Low, low_more, cut_closes, cut_low, run}
use Rattle.row_walk.proofs.Recursion.{Taken, alone, taken, closes, left_by, mine, takes, reads_in, tree_made, forest_made}
use Rattle.row_walk.proofs.Runs.{at_bound, stood, AreWaiting, takes_else, left_of, waits_at, TreeRuns, TreesRun}
use Rattle.row_walk.proofs.Nodes.{early_plain, no_statement, takes_none, row_alike, none_taken, if_plain, if_left, if_mine, body_joins, body_left, taken_plain, stood_low, plain_closes, late_closes, bound_plain, bound_early, stood_closes, opened_at, framed, enters, begins, counted}

-- the row of a production that is no if and no else
mine_as : (p : Production) (i k : ℕ) (w : Taken) (ms us : List Made) (b : Bool) → is_if p ≡ false → is_else p ≡ false → nat_eq (has_row p false) 0 ≡ b → mine p i k w ms us ≡ (if b then us else closed (opened p i 0 k ms) us)
mine_as p i k w ms us b e f h =
    ap (λ (x : Bool). if x then (if w.0 then us else closes (taken i k w.1 ms) us) else (if nat_eq (has_row p w.0) 0 then us else closed (opened p i 0 k ms) us)) f
    ∙ ap (λ (x : ℕ). if nat_eq x 0 then us else closed (opened p i 0 k ms) us) (row_alike p w.0 e)
    ∙ ap (λ (x : Bool). if x then us else closed (opened p i 0 k ms) us) h

module _ (p : Production) (f : Forest (right p)) (cell : is_cell p ≡ false) (other : is_else p ≡ false) (h : TreesRun f) where
  -- what the parts are told
  abbrev tell : (i k : ℕ) → Taken → List Made → Bool → Taken
  tell i k w ms = takes p (parts f) (suc i) (k + reads_count p) w ms

  tells_none : (i k : ℕ) (w : Taken) (ms : List Made) (z : Bool) → tell i k w ms z ≡ alone
  tells_none i k w ms z = takes_none p (parts f) (suc i) (k + reads_count p) w ms z cell other

  -- nothing waits before it
  none_before : (s i k : ℕ) (w : Taken) (os : List Open) (ms : List Made) (qs : List Production) → (takes_else (left p) (part (node p f)) ≡ false → w.1 ≡ []) →
      run (left_parse (node p f) ++ qs) i (suc s) k (rows_of (stood (waits_at (left p) s) w.1 os) ms) ≡ run (left_parse (node p f) ++ qs) i (suc s) k (rows_of os ms)
  none_before s i k w os ms qs free = ap (λ l. run (left_parse (node p f) ++ qs) i (suc s) k (rows_of (stood (waits_at (left p) s) l os) ms)) (free (none_taken p f cell other))

  abbrev goal_at : (s i k : ℕ) (w : Taken) (os us : List Open) (ms : List Made) (qs : List Production) (early : Bool) → Type 0
  goal_at s i k w os us ms qs early =
      run (forest_parse f ++ qs) (suc i) (s + kids (right p)) (k + reads_count p) (cut (s + kids (right p)) (starts_else (forest_parse f ++ qs)) us ms)
      ≡ run qs (suc i + length (forest_parse f)) s (k + reads_count p + reads_in (forest_parse f)) (cut s (starts_else qs) os (forest_made early (mine p i k w ms) (tell i k w ms) f (suc i) (k + reads_count p) ms))

  module _ (only : is_if p ≡ false) where
    parts_run : (s i k : ℕ) (w : Taken) (os : List Open) (ms : List Made) (qs : List Production) → Low (suc s) os → (b early : Bool) → nat_eq (has_row p false) 0 ≡ b → is_early p ≡ early → goal_at s i k w os (framed p i s k ms os) ms qs early
    parts_run s i k w os ms qs low true true e g = absurd (let q = (early_plain p g).0 in cc)
    parts_run s i k w os ms qs low true false e g =
        let here : os ≡ framed p i s k ms os = sym (ap (λ (z : Bool). if z then os else opened p i (suc s) k ms ∷ os) e) in
        subst (λ us. goal_at s i k w os us ms qs false) here
        (h false s (suc i) (k + reads_count p) os os ms qs (mine p i k w ms) (tell i k w ms) (no_statement p cell other) (tells_none i k w ms) low
        (λ z. low) (λ z. absurd (cc)) (λ z xs. ap (λ l. cut s (starts_else qs) os l) (sym (mine_as p i k w ms xs true only other e))) (λ z. absurd (cc)) (λ z. absurd (cc)))
    parts_run s i k w os ms qs low false false e g =
        let o = opened p i (suc s) k ms in
        let at = bound_plain p i s k ms g in
        let here : o ∷ os ≡ framed p i s k ms os = sym (ap (λ (z : Bool). if z then os else o ∷ os) e) in
        subst (λ us. goal_at s i k w os us ms qs false) here
        (h false s (suc i) (k + reads_count p) (o ∷ os) os ms qs (mine p i k w ms) (tell i k w ms) (no_statement p cell other) (tells_none i k w ms) low
        (λ z. (omega arith, low)) (λ z. absurd (cc))
        (λ z xs. cut_closes s (starts_else qs) o os xs (plain_closes s (starts_else qs) o at only) ∙ ap (λ l. cut s (starts_else qs) os l) (sym (mine_as p i k w ms xs false only other e)))
        (λ z. absurd (cc)) (λ z. absurd (cc)))
    parts_run s i k w os ms qs low false true e g =
        let o = opened p i (suc s) k ms in
        let at = bound_early p i s k ms g in
        let here : o ∷ os ≡ framed p i s k ms os = sym (ap (λ (z : Bool). if z then os else o ∷ os) e) in
        subst (λ us. goal_at s i k w os us ms qs true) here
        (h true s (suc i) (k + reads_count p) (o ∷ os) os ms qs (mine p i k w ms) (tell i k w ms) (no_statement p cell other) (tells_none i k w ms) low
        (λ z. absurd (cc)) (λ z. (omega arith, low_more (suc s) (suc (suc s)) os (omega arith) low))
        (λ z. absurd (cc))
        (λ z b xs.
        cut_closes (suc s) b o os xs (plain_closes (suc s) b o at only)
        ∙ cut_low (suc s) b os (closed o xs) low
        ∙ ap (λ l. rows_of os l) (sym (mine_as p i k w ms xs false only other e)))
        (λ z. (early_plain p g).1))

    pub plain_runs : TreeRuns (node p f)
    plain_runs s i k w os ms qs low lows joins free waits =
        let none : is_open (part (node p f)) ≡ false = λ j. only j || (other j && is_if (part (node p f)).second) in
        let never : w.0 ≡ false = joins ∙ ap (λ (b : Bool). b && starts_else qs) none in
        none_before s i k w os ms qs free
        ∙ begins p i s k os (framed p i s k ms os) ms (forest_parse f ++ qs) (enters p i s k os ms (s + kids (right p)) (starts_else (forest_parse f ++ qs)) refl other)
        ∙ parts_run s i k w os ms qs low (nat_eq (has_row p false) 0) (is_early p) refl refl
        ∙ counted p f i s k qs (cut s (starts_else qs) os (tree_made (node p f) i k w ms))
        ∙ ap (λ (b : Bool). run qs (i + width (node p f)) s (k + reads_in (left_parse (node p f))) (cut s (starts_else qs) (stood s (if b then left_by p i k w.1 ms else []) os) (tree_made (node p f) i k w ms))) (sym never)

  -- an if, before an else or not
  module _ (only : is_if p ≡ true) where
    if_closes : (s i k : ℕ) (w : Taken) (os : List Open) (ms : List Made) (v : Bool) → w.0 ≡ v → (xs : List Made) → cut s v (opened p i (suc s) k ms ∷ os) xs ≡ cut s v (stood s (left_of p i k w ms) os) (mine p i k w ms xs)
    if_closes s i k (true, ws) os ms v e xs =
        let late = (if_plain p only).2 in
        (λ j. cut s v (opened_at p i s k ms late j ∷ os) xs)
        ∙ (λ j. cut s v (stood s (sym (if_left p i k ws ms only) j) os) (sym (if_mine p i k (true, ws) ms xs only) j))
    if_closes s i k (false, ws) os ms v e xs =
        let x = opened p i (suc s) k ms in
        cut_closes s v x os xs (late_closes s v x (bound_plain p i s k ms (if_plain p only).2) (sym e))
        ∙ ap (λ l. cut s v os l) (sym (if_mine p i k (false, ws) ms xs only))

    if_left_low : (s i k : ℕ) (w : Taken) (os : List Open) (ms : List Made) → Low (suc s) os → Low (suc s) (stood s (left_of p i k w ms) os)
    if_left_low s i k w os ms low = stood_low s (suc s) (left_of p i k w ms) os (omega arith) low

    pub if_runs : TreeRuns (node p f)
    if_runs s i k w os ms qs low lows joins free waits =
        let x = opened p i (suc s) k ms in
        let us = stood s (left_of p i k w ms) os in
        let plain = if_plain p only in
        let bound = bound_plain p i s k ms plain.2 in
        let all = forest_parse f ++ qs in
        let rs = λ (b : Bool). cut s (starts_else qs) us (forest_made b (mine p i k w ms) (tell i k w ms) f (suc i) (k + reads_count p) ms) in
        none_before s i k w os ms qs free
        ∙ begins p i s k os (x ∷ os) ms all (enters p i s k os ms (s + kids (right p)) (starts_else all) refl other ∙ ap (λ (b : Bool). cut (s + kids (right p)) (starts_else all) (if b then os else x ∷ os) ms) plain.3)
        ∙ h false s (suc i) (k + reads_count p) (x ∷ os) us ms qs (mine p i k w ms) (tell i k w ms) (no_statement p cell other) (tells_none i k w ms) (if_left_low s i k w os ms low)
        (λ z. (omega arith, low)) (λ z. absurd (cc)) (λ z xs. if_closes s i k w os ms (starts_else qs) (joins ∙ ap (λ (b : Bool). (b || (is_else p && is_if (part (node p f)).second)) && starts_else qs) only) xs) (λ z. absurd (cc)) (λ z. absurd (cc))
        ∙ ap (λ (b : Bool). run qs (suc i + length (forest_parse f)) s (k + reads_count p + reads_in (forest_parse f)) (rs b)) (sym plain.2)
        ∙ counted p f i s k qs (cut s (starts_else qs) us (tree_made (node p f) i k w ms))

-- ---- an else
turned_is : (s i k : ℕ) (ws os : List Open) (ms : List Made) → AreWaiting ws → Low s os → turned stmt_else i (suc s) k (stood s ws os) ms ≡ stood s (taken i k ws ms) os
turned_is s i k [] [] ms h low = ap (λ (o : Open). o ∷ []) (opened_at stmt_else i s k ms refl)
turned_is s i k [] (o ∷ os) ms h low =
    ap (λ (b : Bool). if b then record { bound = o.bound; begin = o.begin; place = i; own = o.own; joinable = false } ∷ os else opened stmt_else i (suc s) k ms ∷ (o ∷ os))
    (by o.joinable (nat_eq (suc o.bound) (suc s)) (let g = low.0 in grind (arith, nat_tests)))
    ∙ ap (λ (x : Open). x ∷ (o ∷ os)) (opened_at stmt_else i s k ms refl)
  where
    by : (x y : Bool) → y ≡ false → x && y ≡ false
    by true y e = e
    by false y e = refl
turned_is s i k (w ∷ ws) os ms h low =
    let o = at_bound s w in
    let same : o.joinable && nat_eq (suc s) (suc s) ≡ true = (let e : nat_eq (suc s) (suc s) ≡ true = grind (arith, nat_tests) in λ j. h.0 j && e j) in
    ap (λ (b : Bool). if b then record { bound = s; begin = o.begin; place = i; own = o.own; joinable = false } ∷ stood s ws os else opened stmt_else i (suc s) k ms ∷ (o ∷ stood s ws os)) same

and_left : (x y : Bool) → x && y ≡ true → x ≡ true
and_left true y e = refl
and_left false y e = absurd (cc)

module _ (l : Leaf ElseWord) (r : Tree ElseBody) (h : TreeRuns r) where
  abbrev body : Forest (right stmt_else)
  body = leaf l (tree r done)

  else_closes : (s i k : ℕ) (w : Taken) (os : List Open) (ms : List Made) (v : Bool) → w.0 ≡ is_if (part r).root && v → AreWaiting w.1 → (us : List Made) →
      cut s v (stood s (left_of (part r).root (suc i) (k + 1) (w.0, []) ms) (stood s (taken i k w.1 ms) os)) us ≡ cut s v (stood s (left_of stmt_else i k w ms) os) (mine stmt_else i k w ms us)
  else_closes s i k (true, ws) os ms v e h us = ap (λ x. cut s v (stood s x (stood s (taken i k ws ms) os)) us) (body_left r (suc i) (k + 1) ms refl (and_left (is_if (part r).root) v (sym e)))
  else_closes s i k (false, ws) os ms v e h us = stood_closes s v (taken i k ws ms) os us (taken_plain i k ws ms h)

  pub else_runs : TreeRuns (node stmt_else body)
  else_runs s i k w os ms qs low lows joins free waits =
      let rest = (left_parse r ++ []) ++ qs in
      let us = stood s (taken i k w.1 ms) os in
      let none = append-nil (left_parse r) in
      let under : Low (suc s) us = stood_low s (suc s) (taken i k w.1 ms) os (omega arith) low in
      let level : s + 1 ≡ suc s = omega arith in
      let made = tree_made r (suc i) (k + 1) (w.0, []) ms in
      begins stmt_else i s k (stood s w.1 os) us ms rest (ap (λ x. cut (s + 1) (starts_else rest) x ms) (turned_is s i k w.1 os ms waits (lows refl)))
      ∙ ap (λ (x : ℕ). run rest (suc i) x (k + 1) (cut x (starts_else rest) us ms)) level
      ∙ ap (λ (x : Rows). run rest (suc i) (suc s) (k + 1) x) (cut_low (suc s) (starts_else rest) us ms under)
      ∙ ap (λ x. run (x ++ qs) (suc i) (suc s) (k + 1) (rows_of us ms)) none
      ∙ h s (suc i) (k + 1) (w.0, []) us ms qs under (λ g. absurd (cc)) (joins ∙ ap (λ (b : Bool). b && starts_else qs) (sym (body_joins r refl))) (λ g. refl) tt
      ∙ ap (λ x. run qs (suc i + width r) s (k + 1 + reads_in (left_parse r)) x) (else_closes s i k w os ms (starts_else qs) joins waits made)
      ∙ (λ j. run qs (suc i + length (sym none j)) s (k + 1 + reads_in (sym none j)) (cut s (starts_else qs) (stood s (left_of stmt_else i k w ms) os) (mine stmt_else i k w ms made)))
      ∙ counted stmt_else body i s k qs (cut s (starts_else qs) (stood s (left_of stmt_else i k w ms) os) (mine stmt_else i k w ms made))
