-- Every tree, and so a program: the rows that a walk closes are those of the tree.
use Rattle.std.proofs.Common.{◌≡◌, ℕ, suc, ◌+◌, ◌-◌, Bool, true, false, List, [], ◌∷◌, ◌++◌, length, map, take, drop, get_or, refl, sym, ap, ◌∙◌, subst, arith, append_assoc}
use Rattle.std.specs.Prelude.{if◌then◌else◌, ◌&&◌}
use Rattle.std.proofs.lemmas.List.{append-nil}
use Rattle.source_meaning.specs.declared.kinds.Terminal.TheVariants.{Ident, ElseWord}
use Rattle.source_meaning.specs.Lexemes.{Token}
use Rattle.source_meaning.specs.Grammar.{Leaf, Nonterminal, Prog, Statement, StmtList, ElseBody, Call, token_of, leaves, Symbol, Production, left, right, prog_end, Tree, node, Forest, done, leaf, tree, left_parse, forest_parse, stmts_some, stmt_if, stmt_else, else_if, p_ident, ot_or, nt_and, ct_cmp, st_add, st_minus, mt_mul}
use Rattle.row_laws.specs.Marks.{Mark}
use Rattle.row_laws.specs.Emitted.{Wait, Given, is_if, is_else, is_open, is_early, waiters, ended, behind, own, first_token, filled, part, parts}
use Rattle.row_laws.specs.Levels.{width}
use Rattle.row_laws.specs.Operands.{is_statement}
use Rattle.row_laws.specs.Joins.{is_cell}
use Rattle.row_laws.specs.Owned.{owned, reads, reads_count, cut, tree_reads, forest_reads}
use Rattle.row_walk.specs.Walk.{Open, Made, made_by}
use Rattle.row_walk.specs.Marks.{mark_of}
use Rattle.row_walk.proofs.Recursion.{Taken, alone, taken, closes, mine, left_by, takes, reads_in, tree_made}
use Rattle.row_walk.proofs.Nodes.{takes_none}
use Rattle.row_walk.proofs.Walks.{program_made}
use Rattle.row_walk.proofs.Sizes.{is_tail}
use Rattle.row_walk.proofs.Reading.{drop_sum, there, behind_it, first_there, past_parse, past_reads}
use Rattle.row_walk.proofs.OwnRows.{bare, first_read, marks, made_many, mine_gives, AreMet, later_else, taken_else, closes_ended, ended_bare}
use Rattle.row_walk.proofs.Gives.{fresh, fits, tells_as, TreeGives, TreesGive, given_more, done_gives, tree_gives}

early_own : (p : Production) (y : Given (right p)) (at before : ℕ) (joins : Bool) (waiting : List Wait) → is_early p ≡ true → (below : List Mark) → (m : Mark) × (own p y at before joins waiting below ≡ m ∷ []) × (m.size ≡ before + length below + 1)
early_own ot_or (k, (b, (r, u))) at before joins waiting e below = (_, refl, refl)
early_own nt_and (k, (b, (r, u))) at before joins waiting e below = (_, refl, refl)
early_own ct_cmp (k, (b, (r, u))) at before joins waiting e below = (_, refl, refl)
early_own st_add (k, (b, (r, u))) at before joins waiting e below = (_, refl, refl)
early_own st_minus (k, (b, (v, (r, u)))) at before joins waiting e below = (_, refl, refl)
early_own mt_mul (k, (b, (r, u))) at before joins waiting e below = (_, refl, refl)
early_own p y at before joins waiting e below = absurd (cc)

early_tail : (p : Production) → is_early p ≡ true → is_tail (left p) ≡ true
early_tail ot_or e = refl
early_tail nt_and e = refl
early_tail ct_cmp e = refl
early_tail st_add e = refl
early_tail st_minus e = refl
early_tail mt_mul e = refl
early_tail p e = absurd (cc)

and_left : (x y : Bool) → x && y ≡ true → x ≡ true
and_left true y e = refl
and_left false y e = absurd (cc)

-- the token that an if reads first
if_reads : (p : Production) (f : Forest (right p)) (ts : List Token) (k : ℕ) (d : Token) → is_if p ≡ true → take (reads_count p) (drop k ts) ≡ reads (right p) (parts f) → (get_or ts k d).number ≡ (part (node p f)).token
if_reads stmt_if (leaf l f) ts k d e h = ap (λ (x : Token). x.number) (first_there k 1 ts (token_of l) d [] h)
if_reads else_if (leaf l f) ts k d e h = ap (λ (x : Token). x.number) (first_there k 1 ts (token_of l) d [] h)
if_reads p f ts k d e h = absurd (cc)

module _ (d : Token) (ps : List Production) (ts : List Token) where
  -- what the first production of a tree reads
  root_reads : {a : Nonterminal} (r : Tree a) (k : ℕ) (qs : List Production) (rest : List (List Token)) → is_if (part r).root ≡ true → cut (map reads_count (left_parse r ++ qs)) (drop k (owned ts)) ≡ tree_reads r ++ rest → (get_or (owned ts) k d).number ≡ (part r).token
  root_reads (node p f) k qs rest e h = if_reads p f (owned ts) k d e (let g : take (reads_count p) (drop k (owned ts)) ≡ reads (right p) (parts f) = cc in g)

  -- the one part of a production that reads one token
  part_place : {a : Nonterminal} (c : Tree a) (i : ℕ) (p : Production) (qs : List Production) → drop i ps ≡ p ∷ ((left_parse c ++ []) ++ qs) → drop (suc i) ps ≡ left_parse c ++ qs
  part_place c i p qs hd = behind_it i ps p ((left_parse c ++ []) ++ qs) hd ∙ ap (λ l. l ++ qs) (append-nil (left_parse c))

  part_reads : {a : Nonterminal} (c : Tree a) (k : ℕ) (qs : List Production) (rest : List (List Token)) → cut (map reads_count ((left_parse c ++ []) ++ qs)) (drop 1 (drop k (owned ts))) ≡ (tree_reads c ++ []) ++ rest
      → cut (map reads_count (left_parse c ++ qs)) (drop (k + 1) (owned ts)) ≡ tree_reads c ++ rest
  part_reads c k qs rest hc = (λ j. cut (map reads_count (sym (append-nil (left_parse c)) j ++ qs)) (sym (drop_sum 1 k (owned ts)) j)) ∙ hc ∙ ap (λ l. l ++ rest) (append-nil (tree_reads c))

  node_gives : (p : Production) (f : Forest (right p)) → is_cell p ≡ false → is_else p ≡ false → fits (is_early p) fresh (right p) ≡ true → TreesGive d ps ts f → TreeGives d ps ts (node p f)
  node_gives p f cell other fit hf i k w waiting at before ms qs rest hd hc ht hcall met =
      let y = parts f in
      let row = own p y at before w.0 waiting in
      let here : take (reads_count p) (drop k (owned ts)) ≡ reads (right p) y = cc in
      let rest1 : cut (map reads_count (forest_parse f ++ qs)) (drop (reads_count p) (drop k (owned ts))) ≡ forest_reads f ++ rest = cc in
      let told = first_token (right p) y at in
      let given = hf (is_early p) fresh ms ms [] (mine p i k w ms) row (takes p y (suc i) (k + reads_count p) w ms) told before (suc i) (k + reads_count p) qs rest fit (λ b. takes_none p y (suc i) (k + reads_count p) w ms b cell other) (behind_it i ps p (forest_parse f ++ qs) hd)
      (ap (λ l. cut (map reads_count (forest_parse f ++ qs)) l) (sym (drop_sum (reads_count p) k (owned ts))) ∙ rest1)
      (sym (append-nil (marks d ps ts ms))) refl
      (mine_gives d ps ts p f qs i k w waiting at before ms other (there i ps p prog_end (forest_parse f ++ qs) hd) (behind_it i ps p (forest_parse f ++ qs) hd) (λ e. first_read d (reads_count p) k (owned ts) (reads (right p) y) here e) ht hcall)
      (λ e. (ht (early_tail p e)).1)
      (λ e. early_own p y at before w.0 waiting e) in
      given
      ∙ (λ j. marks d ps ts ms ++ map bare (filled (is_early p) row (λ below z. sym (tells_as p y at before w.0 waiting below z cell other) j) (right p) y []))

  -- a call has the token of the name before it
  ident_gives : (x : Leaf Ident) (c : Tree Call) → TreeGives d ps ts c → TreeGives d ps ts (node p_ident (leaf x (tree c done)))
  ident_gives x c hr i k w waiting at before ms qs rest hd hc ht hcall met =
      let hc1 : cut (map reads_count ((left_parse c ++ []) ++ qs)) (drop 1 (drop k (owned ts))) ≡ (tree_reads c ++ []) ++ rest = cc in
      let here : take 1 (drop k (owned ts)) ≡ token_of x ∷ [] = cc in
      let name : get_or (owned ts) k d ≡ token_of x = first_there k 1 (owned ts) (token_of x) d [] here in
      hr (suc i) (k + 1) alone [] x.number 0 ms qs rest (part_place c i p_ident qs hd) (part_reads c k qs rest hc1)
      (λ e. absurd (cc))
      (λ e. ap (λ (z : ℕ). (get_or (owned ts) z d).number) (let z : k + 1 - 1 ≡ k = omega arith in z) ∙ ap (λ (z : Token). z.number) name)
      tt
      ∙ ap (λ l. marks d ps ts ms ++ map bare l) (sym (append-nil ((part c).rows x.number 0 false [])))

  -- an else has the rows of the ifs that it joins
  else_token : (l : Leaf ElseWord) (b : Tree ElseBody) (k : ℕ) (qs : List Production) (rest : List (List Token)) → cut (map reads_count (left_parse (node stmt_else (leaf l (tree b done))) ++ qs)) (drop k (owned ts)) ≡ tree_reads (node stmt_else (leaf l (tree b done))) ++ rest
      → ((get_or (owned ts) k d).number ≡ l.number) × (cut (map reads_count (left_parse b ++ qs)) (drop (k + 1) (owned ts)) ≡ tree_reads b ++ rest)
  else_token l b k qs rest hc =
      let hc1 : cut (map reads_count ((left_parse b ++ []) ++ qs)) (drop 1 (drop k (owned ts))) ≡ (tree_reads b ++ []) ++ rest = cc in
      let here : take 1 (drop k (owned ts)) ≡ token_of l ∷ [] = cc in
      (ap (λ (z : Token). z.number) (first_there k 1 (owned ts) (token_of l) d [] here), part_reads b k qs rest hc1)

  else_rows : (b : Bool) (ms us vs : List Made) (here ends : List Mark) → marks d ps ts us ≡ marks d ps ts ms ++ map bare here → marks d ps ts vs ≡ marks d ps ts us ++ map bare ends → marks d ps ts (if b then us else vs) ≡ marks d ps ts ms ++ map bare (here ++ (if b then [] else ends))
  else_rows true ms us vs here ends e g = e ∙ ap (λ l. marks d ps ts ms ++ map bare l) (sym (append-nil here))
  else_rows false ms us vs here ends e g = given_more d ps ts ms us vs here ends e g

  else_gives : (l : Leaf ElseWord) (b : Tree ElseBody) → TreeGives d ps ts b → TreeGives d ps ts (node stmt_else (leaf l (tree b done)))
  else_gives l b hb i k w waiting at before ms qs rest hd hc ht hcall met =
      let read = else_token l b k qs rest hc in
      let here = (part b).rows l.number 0 w.0 [] in
      let made = tree_made b (suc i) (k + 1) (w.0, []) ms in
      let ends = waiters l.number waiting in
      let one : marks d ps ts made ≡ marks d ps ts ms ++ map bare here = hb (suc i) (k + 1) (w.0, []) [] l.number 0 ms qs rest (part_place b i stmt_else qs hd) read.1 (λ e. absurd (cc)) (λ e. absurd (cc)) tt in
      let rows = taken_else d ps ts i k l.number w.1 waiting ms met (there i ps stmt_else prog_end ((left_parse b ++ []) ++ qs) hd) read.0 in
      else_rows w.0 ms made (closes (taken i k w.1 ms) made) here (ended (length here) ends) one
      (closes_ended d ps ts (length ms) (length here) (taken i k w.1 ms) ends made rows (made_many d ps ts ms made here one) ∙ ap (λ x. marks d ps ts made ++ x) (sym (ended_bare (length here) ends)))

  -- what waits behind a statement
  left_met : {a : Nonterminal} (r : Tree a) (i k m : ℕ) (os : List Open) (waiting : List Wait) (ms : List Made) (qs : List Production) (rest : List (List Token)) → is_statement a ≡ true → is_open (part r) ≡ true →
      drop i ps ≡ left_parse r ++ qs → cut (map reads_count (left_parse r ++ qs)) (drop k (owned ts)) ≡ tree_reads r ++ rest → AreMet d ps ts (length ms) os waiting → AreMet d ps ts (length ms + m) (left_by (part r).root i k os ms) (behind (part r) waiting m)
  left_met (node stmt_if f) i k m os waiting ms qs rest st is hd hc h = ((omega arith, root_reads (node stmt_if f) k qs rest refl hc), tt)
  left_met (node stmt_else (leaf l (tree b done))) i k m os waiting ms qs rest st is hd hc h =
      let read = else_token l b k qs rest hc in
      ((omega arith, root_reads b (k + 1) qs rest is read.1), later_else d ps ts (length ms) m (taken i k os ms) (waiters l.number waiting) (taken_else d ps ts i k l.number os waiting ms h (there i ps stmt_else prog_end ((left_parse b ++ []) ++ qs) hd) read.0))
  left_met (node p f) i k m os waiting ms qs rest st is hd hc h = absurd (cc)

  met_if : (b : Bool) (n : ℕ) (os : List Open) (ws : List Wait) → (b ≡ true → AreMet d ps ts n os ws) → AreMet d ps ts n (if b then os else []) (if b then ws else [])
  met_if true n os ws h = h refl
  met_if false n os ws h = tt

  -- a statement and those behind it
  cell_gives : (r : Tree Statement) (q : Tree StmtList) → TreeGives d ps ts r → TreeGives d ps ts q → TreeGives d ps ts (node stmts_some (tree r (tree q done)))
  cell_gives r q hr hq i k w waiting at before ms qs rest hd hc ht hcall met =
      let x = is_open (part r) in
      let y = is_else (part q).second in
      let here = (part r).rows at before (x && y) waiting in
      let first = tree_made r (suc i) (k + 0) (x && y, w.1) ms in
      let os = left_by (part r).root (suc i) (k + 0) w.1 ms in
      let ws = behind (part r) waiting (length here) in
      let u : Taken = (false, if x && y then os else []) in
      let left = if x && y then ws else [] in
      let list : (left_parse r ++ (left_parse q ++ [])) ++ qs ≡ left_parse r ++ (left_parse q ++ qs) = append_assoc (left_parse r) (left_parse q ++ []) qs ∙ ap (λ l. left_parse r ++ (l ++ qs)) (append-nil (left_parse q)) in
      let lists : (tree_reads r ++ (tree_reads q ++ [])) ++ rest ≡ tree_reads r ++ (tree_reads q ++ rest) = append_assoc (tree_reads r) (tree_reads q ++ []) rest ∙ ap (λ l. tree_reads r ++ (l ++ rest)) (append-nil (tree_reads q)) in
      let hd1 : drop (suc i) ps ≡ left_parse r ++ (left_parse q ++ qs) = behind_it i ps stmts_some ((left_parse r ++ (left_parse q ++ [])) ++ qs) hd ∙ list in
      let hc0 : cut (map reads_count ((left_parse r ++ (left_parse q ++ [])) ++ qs)) (drop 0 (drop k (owned ts))) ≡ (tree_reads r ++ (tree_reads q ++ [])) ++ rest = cc in
      let hc1 : cut (map reads_count (left_parse r ++ (left_parse q ++ qs))) (drop (k + 0) (owned ts)) ≡ tree_reads r ++ (tree_reads q ++ rest) = (λ j. cut (map reads_count (sym list j)) (sym (drop_sum 0 k (owned ts)) j)) ∙ hc0 ∙ lists in
      let one : marks d ps ts first ≡ marks d ps ts ms ++ map bare here = hr (suc i) (k + 0) (x && y, w.1) waiting at before ms (left_parse q ++ qs) (tree_reads q ++ rest) hd1 hc1 (λ e. absurd (cc)) (λ e. absurd (cc)) met in
      let many : length first ≡ length ms + length here = made_many d ps ts ms first here one in
      let met1 : AreMet d ps ts (length first) u.1 left = met_if (x && y) (length first) os ws
      (λ e. subst (λ (n : ℕ). AreMet d ps ts n os ws) (sym many) (left_met r (suc i) (k + 0) (length here) w.1 waiting ms (left_parse q ++ qs) (tree_reads q ++ rest) refl (and_left x y e) hd1 hc1 met)) in
      let more = (part q).rows (part r).token (length here) false left in
      let all = tree_made q (suc i + width r) (k + 0 + reads_in (left_parse r)) u first in
      given_more d ps ts ms first all here more one
      (hq (suc i + width r) (k + 0 + reads_in (left_parse r)) u left (part r).token (length here) first qs rest (past_parse r ps (suc i) (left_parse q ++ qs) hd1) (past_reads r (owned ts) (k + 0) (left_parse q ++ qs) (tree_reads q ++ rest) hc1) (λ e. absurd (cc)) (λ e. absurd (cc)) met1)
      ∙ ap (λ l. marks d ps ts ms ++ map bare l) (sym (append-nil (here ++ more)))

  mutual
    every_gives : {a : Nonterminal} (r : Tree a) → TreeGives d ps ts r
    every_gives (node stmts_some (tree r (tree q done))) = cell_gives r q (every_gives r) (every_gives q)
    every_gives (node stmt_else (leaf l (tree b done))) = else_gives l b (every_gives b)
    every_gives (node p_ident (leaf x (tree c done))) = ident_gives x c (every_gives c)
    every_gives (node p f) = node_gives p f refl refl refl (forest_gives f)

    forest_gives : {ss : List Symbol} (f : Forest ss) → TreesGive d ps ts f
    forest_gives done = done_gives d ps ts
    forest_gives (leaf l f) = forest_gives f
    forest_gives (tree r f) = tree_gives d ps ts r f (every_gives r) (forest_gives f)

pub program_given : (r : Tree Prog) (d : Token) → cut (map reads_count (left_parse r)) (owned (leaves r)) ≡ tree_reads r → map (mark_of d (left_parse r) (leaves r)) (made_by (left_parse r)) ≡ map bare ((part r).rows 0 0 false [])
program_given r d known =
    ap (λ l. map (mark_of d (left_parse r) (leaves r)) l) (program_made r)
    ∙ every_gives d (left_parse r) (leaves r) r 0 0 alone [] 0 0 [] [] [] (sym (append-nil (left_parse r)))
    (ap (λ l. cut (map reads_count l) (owned (leaves r))) (append-nil (left_parse r)) ∙ known ∙ sym (append-nil (tree_reads r)))
    (λ e. absurd (cc)) (λ e. absurd (cc)) tt
