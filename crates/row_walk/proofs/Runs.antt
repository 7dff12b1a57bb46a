-- A walk over a tree leaves the rows below untouched, and closes those of the tree.
use Rattle.std.proofs.Common.{◌≡◌, ℕ, suc, ◌+◌, ◌≤◌, Bool, true, false, List, [], ◌∷◌, ◌++◌, length, refl, sym, ap, ◌∙◌, arith, append_assoc, length-append}
use Rattle.std.specs.Prelude.{if◌then◌else◌, ◌&&◌, ◌||◌}
use Rattle.source_meaning.specs.declared.kinds.Terminal.{Terminal}
use Rattle.source_meaning.specs.Grammar.{Leaf, Nonterminal, Symbol, t, n, Production, left, right, Tree, node, Forest, done, leaf, tree, left_parse, forest_parse, Statement, ElseBody, stmts_some, stmts_none, stmt_if, stmt_else, else_if}
use Rattle.row_laws.specs.Emitted.{Part, is_if, is_else, is_open, ends, part}
use Rattle.row_laws.specs.Levels.{kids, after, width}
use Rattle.row_laws.specs.Operands.{is_statement}
use Rattle.row_laws.specs.Joins.{is_list, first_is, starts_else}
use Rattle.row_walk.specs.Walk.{Open, Made, Rows, cut}
use Rattle.row_walk.proofs.Cuts.{rows_of, Low, low_more, cut_low, run}
use Rattle.row_walk.proofs.Recursion.{Taken, alone, left_by, reads_in, tree_made, forest_made, reads_both}

-- ---- productions
pub after_is : (s : ℕ) (p : Production) → after (suc s) p ≡ s + kids (right p)
after_is s p = omega arith

-- where an if may stand
abbrev pub has_if : Nonterminal → Bool
has_if Statement = true
has_if ElseBody = true
has_if a = false

no_statement_there : (a : Nonterminal) → has_if a ≡ false → is_statement a ≡ true → ⊥
no_statement_there Statement e g = cc
no_statement_there a e g = cc

open_by : (p : Production) (b : Bool) → has_if (left p) ≡ false → is_if p || (is_else p && b) ≡ false
open_by stmt_if b e = absurd (cc)
open_by else_if b e = absurd (cc)
open_by stmt_else b e = absurd (cc)
open_by p b e = refl

pub root_open : {a : Nonterminal} (r : Tree a) → has_if a ≡ false → is_open (part r) ≡ false
root_open (node p f) e = open_by p (is_if (part (node p f)).second) e

pub root_first : {a : Nonterminal} (r : Tree a) (g : Production → Bool) (qs : List Production) → first_is g (left_parse r ++ qs) ≡ g (part r).root
root_first (node p f) g qs = refl

list_by : (p : Production) (f : Forest (right p)) (qs : List Production) → is_list (left p) ≡ true → starts_else (p ∷ (forest_parse f ++ qs)) ≡ is_else (part (node p f)).second
list_by stmts_some (tree s f) qs e = ap (λ l. first_is is_else l) (append_assoc (left_parse s) (forest_parse f) qs) ∙ root_first s is_else (forest_parse f ++ qs)
list_by stmts_none done qs e = refl
list_by p f qs e = absurd (cc)

pub list_starts : {a : Nonterminal} (r : Tree a) (qs : List Production) → is_list a ≡ true → starts_else (left_parse r ++ qs) ≡ is_else (part r).second
list_starts (node p f) qs e = list_by p f qs e

pub ends_kids : {ss : List Symbol} (f : Forest ss) → ends ss ≡ true → (kids ss ≡ 0) × (forest_parse f ≡ [])
ends_kids done e = (refl, refl)
ends_kids (leaf l f) e = ends_kids f e
ends_kids (tree r f) e = absurd (cc)

more_kids : (ss : List Symbol) → ends ss ≡ false → 1 ≤ kids ss
more_kids [] e = absurd (cc)
more_kids (t k ∷ ss) e = more_kids ss e
more_kids (n a ∷ ss) e = omega arith

abbrev pub has_statement : List Symbol → Bool
has_statement [] = false
has_statement (t k ∷ ss) = has_statement ss
has_statement (n a ∷ ss) = if has_if a then true else has_statement ss

not_first : (b c : Bool) → (if b then true else c) ≡ false → (b ≡ false) × (c ≡ false)
not_first true c e = absurd (cc)
not_first false c e = (refl, e)

-- ---- rows that are open
abbrev pub at_bound : ℕ → Open → Open
at_bound b o = record { bound = b; begin = o.begin; place = o.place; own = o.own; joinable = o.joinable }

-- rows that are closed at one bound, on those that are open
abbrev pub stood : ℕ → List Open → List Open → List Open
stood b [] os = os
stood b (w ∷ ws) os = at_bound b w ∷ stood b ws os

abbrev pub ArePlain : List Open → Type 0
ArePlain [] = Unit {0}
ArePlain (o ∷ os) = (o.joinable ≡ false) × ArePlain os

-- an else joins the first one alone
abbrev pub AreWaiting : List Open → Type 0
AreWaiting [] = Unit {0}
AreWaiting (o ∷ os) = (o.joinable ≡ true) × ArePlain os

-- ---- what a walk over a tree does
abbrev pub waits_at : Nonterminal → ℕ → ℕ
waits_at a s = if is_list a then suc s else s

-- whether what stands first is an else, which takes the rows that wait
abbrev pub takes_else : Nonterminal → Part → Bool
takes_else a r = is_else (if is_list a then r.second else r.root)

-- the rows that are left where an else joins
abbrev pub left_of : Production → (i k : ℕ) → Taken → List Made → List Open
left_of p i k w ms = if w.0 then left_by p i k w.1 ms else []

abbrev pub TreeRuns : {a : Nonterminal} → Tree a → Type 0
TreeRuns {a} r =
    (s i k : ℕ) (w : Taken) (os : List Open) (ms : List Made) (qs : List Production) →
    Low (suc s) os →
    (is_statement a ≡ true → Low s os) →
    w.0 ≡ is_open (part r) && starts_else qs →
    (takes_else a (part r) ≡ false → w.1 ≡ []) →
    AreWaiting w.1 →
    run (left_parse r ++ qs) i (suc s) k (rows_of (stood (waits_at a s) w.1 os) ms)
    ≡ run qs (i + width r) s (k + reads_in (left_parse r)) (cut s (starts_else qs) (stood s (left_of (part r).root i k w ms) os) (tree_made r i k w ms))

abbrev pub TreesRun : {ss : List Symbol} → Forest ss → Type 0
TreesRun {ss} f =
    (early : Bool) (s i k : ℕ) (os us : List Open) (ms : List Made) (qs : List Production) (own : List Made → List Made) (tell : Bool → Taken) →
    has_statement ss ≡ false →
    ((b : Bool) → tell b ≡ alone) →
    Low (suc s) us →
    (early ≡ false → Low (suc s) os) →
    (early ≡ true → Low (suc (suc s)) os) →
    (early ≡ false → (xs : List Made) → cut s (starts_else qs) os xs ≡ cut s (starts_else qs) us (own xs)) →
    (early ≡ true → (b : Bool) (xs : List Made) → cut (suc s) b os xs ≡ rows_of us (own xs)) →
    (early ≡ true → ends ss ≡ false) →
    run (forest_parse f ++ qs) i (s + kids ss) k (cut (s + kids ss) (starts_else (forest_parse f ++ qs)) os ms)
    ≡ run qs (i + length (forest_parse f)) s (k + reads_in (forest_parse f)) (cut s (starts_else qs) us (forest_made early own tell f i k ms))

-- a part that is told nothing
pub child_runs : {a : Nonterminal} (r : Tree a) → TreeRuns r → has_if a ≡ false → (s i k : ℕ) (w : Taken) (os : List Open) (ms : List Made) (qs : List Production) → w ≡ alone → Low (suc s) os →
    run (left_parse r ++ qs) i (suc s) k (rows_of os ms) ≡ run qs (i + width r) s (k + reads_in (left_parse r)) (cut s (starts_else qs) os (tree_made r i k w ms))
child_runs {a} r h e s i k w os ms qs is low =
    h s i k alone os ms qs low (λ g. absurd (no_statement_there a e g)) (sym (ap (λ (b : Bool). b && starts_else qs) (root_open r e))) (λ g. refl) tt
    ∙ ap (λ (z : Taken). run qs (i + width r) s (k + reads_in (left_parse r)) (cut s (starts_else qs) os (tree_made r i k z ms))) (sym is)

-- ---- the parts of a production, of which none is a statement
pub done_runs : TreesRun done
done_runs true s i k os us ms qs own tell hs ht lu lf lt cf ct ce = absurd (let z = ce refl in cc)
done_runs false s i k os us ms qs own tell hs ht lu lf lt cf ct ce =
    ap (λ (z : ℕ). run qs i z k (cut z (starts_else qs) os ms)) (let e : s + 0 ≡ s = omega arith in e)
    ∙ (λ j. run qs ((let e : i ≡ i + 0 = omega arith in e) j) s ((let e : k ≡ k + 0 = omega arith in e) j) (cf refl ms j))

pub leaf_runs : {c : Terminal} {ss : List Symbol} (l : Leaf c) (f : Forest ss) → TreesRun f → TreesRun (leaf l f)
leaf_runs l f h = h

module _ {a : Nonterminal} {ss : List Symbol} (r : Tree a) (f : Forest ss) (hr : TreeRuns r) (hf : TreesRun f) where
  -- a part whose rows stand on those that are open
  first_runs : (s i k : ℕ) (w : Taken) (os : List Open) (ms : List Made) (qs : List Production) → has_if a ≡ false → w ≡ alone → Low (suc (s + kids ss)) os →
      run ((left_parse r ++ forest_parse f) ++ qs) i (s + suc (kids ss)) k (rows_of os ms)
      ≡ run (forest_parse f ++ qs) (i + width r) (s + kids ss) (k + reads_in (left_parse r)) (cut (s + kids ss) (starts_else (forest_parse f ++ qs)) os (tree_made r i k w ms))
  first_runs s i k w os ms qs hs ht low =
      (λ j. run (append_assoc (left_parse r) (forest_parse f) qs j) i ((let e : s + suc (kids ss) ≡ suc (s + kids ss) = omega arith in e) j) k (rows_of os ms))
      ∙ child_runs r hr hs (s + kids ss) i k w os ms (forest_parse f ++ qs) ht low

  numbers : (s i k : ℕ) (qs : List Production) (rs : Rows) → run qs (i + width r + length (forest_parse f)) s (k + reads_in (left_parse r) + reads_in (forest_parse f)) rs ≡ run qs (i + length (left_parse r ++ forest_parse f)) s (k + reads_in (left_parse r ++ forest_parse f)) rs
  numbers s i k qs rs =
      (λ j.
      run qs ((let g = length-append (left_parse r) (forest_parse f) in let e : i + width r + length (forest_parse f) ≡ i + length (left_parse r ++ forest_parse f) = omega arith in e) j) s
      ((let g = reads_both (left_parse r) (forest_parse f) in let e : k + reads_in (left_parse r) + reads_in (forest_parse f) ≡ k + reads_in (left_parse r ++ forest_parse f) = omega arith in e) j) rs)

  pub tree_runs : TreesRun (tree r f)
  tree_runs false s i k os us ms qs own tell hs ht lu lf lt cf ct ce =
      let split = not_first (has_if a) (has_statement ss) hs in
      let all = (left_parse r ++ forest_parse f) ++ qs in
      let next = tree_made r i k (tell (ends ss)) ms in
      ap (λ (x : Rows). run all i (s + suc (kids ss)) k x) (cut_low (s + suc (kids ss)) (starts_else all) os ms (low_more (suc s) (s + suc (kids ss)) os (omega arith) (lf refl)))
      ∙ first_runs s i k (tell (ends ss)) os ms qs split.0 (ht (ends ss)) (low_more (suc s) (suc (s + kids ss)) os (omega arith) (lf refl))
      ∙ hf false s (i + width r) (k + reads_in (left_parse r)) os us next qs own tell split.1 ht lu lf lt cf ct (λ e. absurd (cc))
      ∙ numbers s i k qs (cut s (starts_else qs) us (forest_made false own tell f (i + width r) (k + reads_in (left_parse r)) next))
  tree_runs true s i k os us ms qs own tell hs ht lu lf lt cf ct ce = by (ends ss) refl
    where
      split : (has_if a ≡ false) × (has_statement ss ≡ false)
      split = not_first (has_if a) (has_statement ss) hs

      all : List Production
      all = (left_parse r ++ forest_parse f) ++ qs

      shut : (b : Bool) → List Made
      shut b = if b then tree_made r i k (tell (ends ss)) (own ms) else forest_made true own tell f (i + width r) (k + reads_in (left_parse r)) (tree_made r i k (tell (ends ss)) ms)

      by : (b : Bool) → ends ss ≡ b → run all i (s + suc (kids ss)) k (cut (s + suc (kids ss)) (starts_else all) os ms) ≡ run qs (i + length (left_parse r ++ forest_parse f)) s (k + reads_in (left_parse r ++ forest_parse f)) (cut s (starts_else qs) us (if ends ss then tree_made r i k (tell (ends ss)) (own ms) else forest_made true own tell f (i + width r) (k + reads_in (left_parse r)) (tree_made r i k (tell (ends ss)) ms)))
      by true e =
          let z = ends_kids f e in
          let level : s + suc (kids ss) ≡ suc s = (let g = z.0 in omega arith) in
          ap (λ (x : ℕ). run all i (s + suc (kids ss)) k (cut x (starts_else all) os ms)) level
          ∙ ap (λ (x : Rows). run all i (s + suc (kids ss)) k x) (ct refl (starts_else all) ms)
          ∙ first_runs s i k (tell (ends ss)) us (own ms) qs split.0 (ht (ends ss)) (low_more (suc s) (suc (s + kids ss)) us (omega arith) lu)
          ∙ (λ j.
          run (z.1 j ++ qs) ((let g : i + width r ≡ i + width r + length (forest_parse f) = (let h : length (forest_parse f) ≡ 0 = ap length z.1 in omega arith) in g) j) ((let g : s + kids ss ≡ s = (let h = z.0 in omega arith) in g) j)
          ((let g : k + reads_in (left_parse r) ≡ k + reads_in (left_parse r) + reads_in (forest_parse f) = (let h : reads_in (forest_parse f) ≡ 0 = ap reads_in z.1 in omega arith) in g) j)
          (cut ((let g : s + kids ss ≡ s = (let h = z.0 in omega arith) in g) j) (starts_else (z.1 j ++ qs)) us (tree_made r i k (tell (ends ss)) (own ms))))
          ∙ numbers s i k qs (cut s (starts_else qs) us (tree_made r i k (tell (ends ss)) (own ms)))
          ∙ ap (λ b. run qs (i + length (left_parse r ++ forest_parse f)) s (k + reads_in (left_parse r ++ forest_parse f)) (cut s (starts_else qs) us (shut b))) (sym e)
      by false e =
          let m = more_kids ss e in
          let next = tree_made r i k (tell (ends ss)) ms in
          ap (λ (x : Rows). run all i (s + suc (kids ss)) k x) (cut_low (s + suc (kids ss)) (starts_else all) os ms (low_more (suc (suc s)) (s + suc (kids ss)) os (omega arith) (lt refl)))
          ∙ first_runs s i k (tell (ends ss)) os ms qs split.0 (ht (ends ss)) (low_more (suc (suc s)) (suc (s + kids ss)) os (omega arith) (lt refl))
          ∙ hf true s (i + width r) (k + reads_in (left_parse r)) os us next qs own tell split.1 ht lu lf lt cf ct (λ g. e)
          ∙ numbers s i k qs (cut s (starts_else qs) us (forest_made true own tell f (i + width r) (k + reads_in (left_parse r)) next))
          ∙ ap (λ b. run qs (i + length (left_parse r ++ forest_parse f)) s (k + reads_in (left_parse r ++ forest_parse f)) (cut s (starts_else qs) us (shut b))) (sym e)
