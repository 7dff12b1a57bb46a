-- The rows that the recursion on a tree closes are those that the tree gives, but for tokens that are settled later.
use Rattle.std.proofs.Common.{◌≡◌, ℕ, ◌+◌, ◌-◌, ◌≤◌, Bool, true, false, List, [], ◌∷◌, ◌++◌, length, map, drop, get_or, refl, sym, ap, ◌∙◌, subst, arith, length-append, append_assoc}
use Rattle.std.specs.Prelude.{if◌then◌else◌, ◌&&◌, ◌||◌}
use Rattle.std.proofs.lemmas.List.{append-nil, map-append}
use Rattle.source_meaning.specs.Lexemes.{Token}
use Rattle.source_meaning.specs.Grammar.{Nonterminal, Symbol, t, n, Production, right, Tree, Forest, done, tree, left_parse, forest_parse, stmts_some, stmt_else}
use Rattle.row_laws.specs.Marks.{Mark}
use Rattle.row_laws.specs.Emitted.{Wait, Given, Told, is_else, is_early, ends, first_token, filled, tells, part, parts}
use Rattle.row_laws.specs.Levels.{width}
use Rattle.row_laws.specs.Joins.{is_cell}
use Rattle.row_laws.specs.Owned.{owned, reads_count, cut, tree_reads, forest_reads}
use Rattle.row_laws.specs.Shifts.{is_call}
use Rattle.row_walk.specs.Walk.{Made, last_size}
use Rattle.row_walk.proofs.Recursion.{Taken, alone, reads_in, tree_made, forest_made}
use Rattle.row_walk.proofs.Sizes.{msize, msize_both, is_operand, is_tail, sized}
use Rattle.row_walk.proofs.Reading.{past_parse, past_reads}
use Rattle.row_walk.proofs.OwnRows.{bare, marks, made_many, AreMet}

-- what is known of the rows below: there are none, or the last one has all of them in its subtree
pub data Seen : Type 0 where
  fresh whole lost : Seen

abbrev Holds : Seen → List Made → List Mark → Type 0
Holds fresh us below = below ≡ []
Holds whole us below = last_size us ≡ length below
Holds lost us below = Unit {0}

abbrev next : Seen → Nonterminal → Seen
next fresh a = if is_operand a then whole else lost
next whole a = if is_tail a then whole else lost
next lost a = lost

abbrev is_whole : Seen → Bool
is_whole whole = true
is_whole s = false

-- no part is a call, and a tail stands behind its operand
abbrev pub fits : Bool → Seen → List Symbol → Bool
fits early st [] = true
fits early st (t k ∷ ss) = fits early st ss
fits early st (n a ∷ ss) =
    if is_call a then false
    else (if (if is_tail a then (is_whole st || (early && ends ss)) else true) then fits early (next st a) ss else false)

fit_parts : (c tail ok more : Bool) → (if c then false else (if (if tail then ok else true) then more else false)) ≡ true → (c ≡ false) × (tail ≡ true → ok ≡ true) × (more ≡ true)
fit_parts true tail ok more e = absurd (cc)
fit_parts false true true more e = (refl, (λ g. refl), e)
fit_parts false true false more e = absurd (cc)
fit_parts false false ok more e = (refl, (λ g. absurd (cc)), e)

-- what a production tells its parts
abbrev pub teller : (early : Bool) (at before : ℕ) → List Mark → Bool → Told
teller early at before below z = (at, if early && z then before + length below + 1 else length below, false, [])

pub tells_as : (p : Production) (y : Given (right p)) (at before : ℕ) (joins : Bool) (waiting : List Wait) (below : List Mark) (z : Bool) → is_cell p ≡ false → is_else p ≡ false → tells p y at before joins waiting below z ≡ teller (is_early p) (first_token (right p) y at) before below z
tells_as stmts_some y at before joins waiting below z e g = absurd (cc)
tells_as stmt_else y at before joins waiting below z e g = absurd (cc)
tells_as p y at before joins waiting below z e g = refl

msize_bare : (z : ℕ) (xs : List Mark) → msize z (map bare xs) ≡ msize z xs
msize_bare z [] = refl
msize_bare z (x ∷ xs) = msize_bare x.size xs

module _ (d : Token) (ps : List Production) (ts : List Token) where
  abbrev pub TreeGives : {a : Nonterminal} → Tree a → Type 0
  TreeGives {a} r =
      (i k : ℕ) (w : Taken) (waiting : List Wait) (at before : ℕ) (ms : List Made) (qs : List Production) (rest : List (List Token)) →
      drop i ps ≡ left_parse r ++ qs →
      cut (map reads_count (left_parse r ++ qs)) (drop k (owned ts)) ≡ tree_reads r ++ rest →
      (is_tail a ≡ true → (last_size ms ≡ before) × (before ≤ length ms)) →
      (is_call a ≡ true → (get_or (owned ts) (k - 1) d).number ≡ at) →
      AreMet d ps ts (length ms) w.1 waiting →
      marks d ps ts (tree_made r i k w ms) ≡ marks d ps ts ms ++ map bare ((part r).rows at before w.0 waiting)

  abbrev pub TreesGive : {ss : List Symbol} → Forest ss → Type 0
  TreesGive {ss} f =
      (early : Bool) (st : Seen) (ms us : List Made) (below : List Mark) (mine' : List Made → List Made) (row : List Mark → List Mark) (tell : Bool → Taken) (at before i k : ℕ) (qs : List Production) (rest : List (List Token)) →
      fits early st ss ≡ true →
      ((b : Bool) → tell b ≡ alone) →
      drop i ps ≡ forest_parse f ++ qs →
      cut (map reads_count (forest_parse f ++ qs)) (drop k (owned ts)) ≡ forest_reads f ++ rest →
      marks d ps ts us ≡ marks d ps ts ms ++ map bare below →
      Holds st us below →
      ((xs : List Made) (ys : List Mark) → marks d ps ts xs ≡ marks d ps ts ms ++ map bare ys → marks d ps ts (mine' xs) ≡ marks d ps ts ms ++ map bare (ys ++ row ys)) →
      (early ≡ true → before ≤ length ms) →
      (early ≡ true → (ys : List Mark) → (m : Mark) × (row ys ≡ m ∷ []) × (m.size ≡ before + length ys + 1)) →
      marks d ps ts (forest_made early mine' tell f i k us) ≡ marks d ps ts ms ++ map bare (filled early row (teller early at before) ss (parts f) below)

  last_msize : (us : List Made) → last_size us ≡ msize 0 (marks d ps ts us)
  last_msize [] = refl
  last_msize (m ∷ []) = refl
  last_msize (m ∷ (o ∷ ms)) = last_msize (o ∷ ms)

  -- the last size behind rows that are given
  last_given : (us vs : List Made) (l : List Mark) → marks d ps ts vs ≡ marks d ps ts us ++ map bare l → last_size vs ≡ msize (last_size us) l
  last_given us vs l e =
      last_msize vs ∙ ap (λ x. msize 0 x) e ∙ msize_both 0 (marks d ps ts us) (map bare l)
      ∙ msize_bare (msize 0 (marks d ps ts us)) l ∙ ap (λ (z : ℕ). msize z l) (sym (last_msize us))

  pub given_more : (ms us vs : List Made) (l h : List Mark) → marks d ps ts us ≡ marks d ps ts ms ++ map bare l → marks d ps ts vs ≡ marks d ps ts us ++ map bare h → marks d ps ts vs ≡ marks d ps ts ms ++ map bare (l ++ h)
  given_more ms us vs l h e g =
      g ∙ ap (λ x. x ++ map bare h) e ∙ append_assoc (marks d ps ts ms) (map bare l) (map bare h)
      ∙ ap (λ x. marks d ps ts ms ++ x) (sym (map-append bare l h))

  pub done_gives : TreesGive done
  done_gives true st ms us below mine' row tell at before i k qs rest hf ht hd hc hm hs ho hb hl = hm ∙ ap (λ l. marks d ps ts ms ++ map bare l) (sym (append-nil below))
  done_gives false st ms us below mine' row tell at before i k qs rest hf ht hd hc hm hs ho hb hl = ho us below hm

  module _ {a : Nonterminal} {ss : List Symbol} (r : Tree a) (f : Forest ss) (hr : TreeGives r) (hf : TreesGive f)
      (early : Bool) (st : Seen) (ms us : List Made) (below : List Mark) (mine' : List Made → List Made) (row : List Mark → List Mark) (tell : Bool → Taken) (at before i k : ℕ) (qs : List Production) (rest : List (List Token))
      (fit : fits early st (n a ∷ ss) ≡ true)
      (ht : (b : Bool) → tell b ≡ alone)
      (hd : drop i ps ≡ forest_parse (tree r f) ++ qs)
      (hc : cut (map reads_count (forest_parse (tree r f) ++ qs)) (drop k (owned ts)) ≡ forest_reads (tree r f) ++ rest)
      (hm : marks d ps ts us ≡ marks d ps ts ms ++ map bare below)
      (hs : Holds st us below)
      (ho : (xs : List Made) (ys : List Mark) → marks d ps ts xs ≡ marks d ps ts ms ++ map bare ys → marks d ps ts (mine' xs) ≡ marks d ps ts ms ++ map bare (ys ++ row ys))
      (hb : early ≡ true → before ≤ length ms)
      (hl : early ≡ true → (ys : List Mark) → (m : Mark) × (row ys ≡ m ∷ []) × (m.size ≡ before + length ys + 1)) where
    fit_is : (is_call a ≡ false) × (is_tail a ≡ true → is_whole st || (early && ends ss) ≡ true) × (fits early (next st a) ss ≡ true)
    fit_is = fit_parts (is_call a) (is_tail a) (is_whole st || (early && ends ss)) (fits early (next st a) ss) fit

    abbrev told : ℕ
    told = if early && ends ss then before + length below + 1 else length below

    abbrev here : List Mark
    here = (part r).rows at told false []

    hd' : drop i ps ≡ left_parse r ++ (forest_parse f ++ qs)
    hd' = hd ∙ append_assoc (left_parse r) (forest_parse f) qs

    hc' : cut (map reads_count (left_parse r ++ (forest_parse f ++ qs))) (drop k (owned ts)) ≡ tree_reads r ++ (forest_reads f ++ rest)
    hc' = ap (λ l. cut (map reads_count l) (drop k (owned ts))) (sym (append_assoc (left_parse r) (forest_parse f) qs)) ∙ hc ∙ append_assoc (tree_reads r) (forest_reads f) rest

    -- the part behind rows that are made
    part_gives : (xs : List Made) → (is_tail a ≡ true → (last_size xs ≡ told) × (told ≤ length xs)) → marks d ps ts (tree_made r i k (tell (ends ss)) xs) ≡ marks d ps ts xs ++ map bare here
    part_gives xs tail =
        ap (λ (w : Taken). marks d ps ts (tree_made r i k w xs)) (ht (ends ss))
        ∙ hr i k alone [] at told xs (forest_parse f ++ qs) (forest_reads f ++ rest) hd' hc' tail (λ e. absurd (let g = fit_is.0 in cc)) tt

    abbrev made_if : Bool → List Made
    made_if b = if b then tree_made r i k (tell (ends ss)) (mine' us) else forest_made early mine' tell f (i + width r) (k + reads_in (left_parse r)) (tree_made r i k (tell (ends ss)) us)

    abbrev rows_if : Bool → List Mark
    rows_if b = if b then below ++ (row below ++ here) else filled early row (teller early at before) ss (parts f) (below ++ here)

    early_gives : early ≡ true → ends ss ≡ true → marks d ps ts (made_if true) ≡ marks d ps ts ms ++ map bare (rows_if true)
    early_gives e g =
        let q = hl e below in
        let made = ho us below hm in
        let two : early && ends ss ≡ true = (λ j. e j && g j) in
        let known : told ≡ before + length below + 1 = ap (λ (b : Bool). if b then before + length below + 1 else length below) two in
        let many : length (mine' us) ≡ length ms + length (below ++ row below) = made_many d ps ts ms (mine' us) (below ++ row below) made in
        let one : length (row below) ≡ 1 = ap length q.1 in
        let last : last_size (mine' us) ≡ told = last_given ms (mine' us) (below ++ row below) made ∙ msize_both (last_size ms) below (row below) ∙ ap (λ l. msize (msize (last_size ms) below) l) q.1 ∙ q.2 ∙ sym known in
        given_more ms (mine' us) (made_if true) (below ++ row below) here made (part_gives (mine' us) (λ z. (last, (let x = hb e in let y = length-append below (row below) in omega arith))))
        ∙ ap (λ l. marks d ps ts ms ++ map bare l) (append_assoc below (row below) here)

    status : (s : Seen) → Holds s us below → (is_tail a ≡ true → told ≡ length below) → (xs : List Made) → marks d ps ts xs ≡ marks d ps ts us ++ map bare here → Holds (next s a) xs (below ++ here)
    status fresh h tail xs e = by (is_operand a) refl
      where
        by : (b : Bool) → is_operand a ≡ b → Holds (if is_operand a then whole else lost) xs (below ++ here)
        by true g = subst (λ (b : Bool). Holds (if b then whole else lost) xs (below ++ here)) (sym g) (last_given us xs here e ∙ (sized r).0 g at told false [] (last_size us) ∙ sym (ap (λ l. length (l ++ here)) h))
        by false g = subst (λ (b : Bool). Holds (if b then whole else lost) xs (below ++ here)) (sym g) tt
    status whole h tail xs e = by (is_tail a) refl
      where
        by : (b : Bool) → is_tail a ≡ b → Holds (if is_tail a then whole else lost) xs (below ++ here)
        by true g =
            subst (λ (b : Bool). Holds (if b then whole else lost) xs (below ++ here)) (sym g)
            (last_given us xs here e ∙ ap (λ (z : ℕ). msize z here) (h ∙ sym (tail g)) ∙ (sized r).1 g at told false [] ∙ ap (λ (z : ℕ). z + length here) (tail g) ∙ sym (length-append below here))
        by false g = subst (λ (b : Bool). Holds (if b then whole else lost) xs (below ++ here)) (sym g) tt
    status lost h tail xs e = tt

    whole_there : (s : Seen) → is_whole s ≡ true → Holds s us below → last_size us ≡ length below
    whole_there fresh e h = absurd (cc)
    whole_there whole e h = h
    whole_there lost e h = absurd (cc)

    late_gives : early && ends ss ≡ false → marks d ps ts (made_if false) ≡ marks d ps ts ms ++ map bare (rows_if false)
    late_gives e =
        let known : told ≡ length below = ap (λ (b : Bool). if b then before + length below + 1 else length below) e in
        let many : length us ≡ length ms + length below = made_many d ps ts ms us below hm in
        let first = part_gives us
        (λ z.
        (whole_there st (or_false (is_whole st) (early && ends ss) e (fit_is.1 z)) hs ∙ sym known, omega arith)) in
        hf early (next st a) ms (tree_made r i k (tell (ends ss)) us) (below ++ here) mine' row tell at before (i + width r) (k + reads_in (left_parse r)) qs rest fit_is.2 ht
        (past_parse r ps i (forest_parse f ++ qs) hd') (past_reads r (owned ts) k (forest_parse f ++ qs) (forest_reads f ++ rest) hc')
        (given_more ms us (tree_made r i k (tell (ends ss)) us) below here hm first)
        (status st hs (λ z. known) (tree_made r i k (tell (ends ss)) us) first) ho hb hl
      where
        or_false : (x y : Bool) → y ≡ false → x || y ≡ true → x ≡ true
        or_false true y e g = refl
        or_false false y e g = absurd (cc)

    tree_case : marks d ps ts (made_if (early && ends ss)) ≡ marks d ps ts ms ++ map bare (rows_if (early && ends ss))
    tree_case = by early (ends ss) refl refl
      where
        by : (b c : Bool) → early ≡ b → ends ss ≡ c → marks d ps ts (made_if (early && ends ss)) ≡ marks d ps ts ms ++ map bare (rows_if (early && ends ss))
        by true true e g = subst (λ (b : Bool). marks d ps ts (made_if b) ≡ marks d ps ts ms ++ map bare (rows_if b)) (sym (λ j. e j && g j)) (early_gives e g)
        by true false e g = let h : early && ends ss ≡ false = (λ j. e j && g j) in subst (λ (b : Bool). marks d ps ts (made_if b) ≡ marks d ps ts ms ++ map bare (rows_if b)) (sym h) (late_gives h)
        by false c e g = let h : early && ends ss ≡ false = (λ j. e j && ends ss) in subst (λ (b : Bool). marks d ps ts (made_if b) ≡ marks d ps ts ms ++ map bare (rows_if b)) (sym h) (late_gives h)

  pub tree_gives : {a : Nonterminal} {ss : List Symbol} (r : Tree a) (f : Forest ss) → TreeGives r → TreesGive f → TreesGive (tree r f)
  tree_gives r f hr hf early st ms us below mine' row tell at before i k qs rest fit ht hd hc hm hs ho hb hl = tree_case r f hr hf early st ms us below mine' row tell at before i k qs rest fit ht hd hc hm hs ho hb hl
