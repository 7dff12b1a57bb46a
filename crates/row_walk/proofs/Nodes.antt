-- What a walk does at one production, and so at a tree.
use Rattle.std.proofs.Common.{◌≡◌, ℕ, suc, ◌+◌, ◌-◌, ◌<◌, ◌≤◌, Bool, true, false, List, [], ◌∷◌, length, refl, sym, ap, ◌∙◌, arith}
use Rattle.std.specs.Prelude.{if◌then◌else◌, ◌&&◌, ◌||◌, nat_lt, nat_eq}
use Rattle.std.proofs.lemmas.Bool.Decides.{nat_tests}
use Rattle.source_meaning.specs.Grammar.{Nonterminal, Production, left, right, Tree, node, Forest, left_parse, forest_parse, stmts_some, stmt_if, stmt_else, else_if, ot_or, nt_and, ct_cmp, st_add, st_minus, mt_mul}
use Rattle.row_laws.specs.Emitted.{Given, is_if, is_else, is_open, is_early, ends, part}
use Rattle.row_laws.specs.Levels.{kids, width}
use Rattle.row_laws.specs.Owned.{reads_count}
use Rattle.row_laws.specs.Operands.{is_statement}
use Rattle.row_laws.specs.Joins.{is_cell, starts_else}
use Rattle.row_laws.specs.Along.{has_row}
use Rattle.row_walk.specs.Walk.{Open, Made, Rows, closed, stays, cut, opened, turned, entered}
use Rattle.row_walk.proofs.Cuts.{rows_of, Low, cut_closes, run}
use Rattle.row_walk.proofs.Recursion.{Taken, alone, taken, closes, mine, left_by, takes, reads_in}
use Rattle.row_walk.proofs.Runs.{after_is, has_statement, at_bound, stood, ArePlain, AreWaiting, takes_else}

-- ---- facts on productions
leaf_plain : (p : Production) → nat_eq (kids (right p)) 0 ≡ true → (is_early p ≡ false) × (is_if p ≡ false)
leaf_plain ot_or e = absurd (cc)
leaf_plain nt_and e = absurd (cc)
leaf_plain ct_cmp e = absurd (cc)
leaf_plain st_add e = absurd (cc)
leaf_plain st_minus e = absurd (cc)
leaf_plain mt_mul e = absurd (cc)
leaf_plain stmt_if e = absurd (cc)
leaf_plain else_if e = absurd (cc)
leaf_plain p e = (refl, refl)

pub early_plain : (p : Production) → is_early p ≡ true → (nat_eq (has_row p false) 0 ≡ false) × (ends (right p) ≡ false) × (1 ≤ kids (right p))
early_plain ot_or e = (refl, refl, omega arith)
early_plain nt_and e = (refl, refl, omega arith)
early_plain ct_cmp e = (refl, refl, omega arith)
early_plain st_add e = (refl, refl, omega arith)
early_plain st_minus e = (refl, refl, omega arith)
early_plain mt_mul e = (refl, refl, omega arith)
early_plain p e = absurd (cc)

pub no_statement : (p : Production) → is_cell p ≡ false → is_else p ≡ false → has_statement (right p) ≡ false
no_statement stmts_some e g = absurd (cc)
no_statement stmt_else e g = absurd (cc)
no_statement p e g = refl

pub takes_none : (p : Production) (y : Given (right p)) (i k : ℕ) (w : Taken) (ms : List Made) (b : Bool) → is_cell p ≡ false → is_else p ≡ false → takes p y i k w ms b ≡ alone
takes_none stmts_some y i k w ms b e g = absurd (cc)
takes_none stmt_else y i k w ms b e g = absurd (cc)
takes_none p y i k w ms b e g = refl

pub row_alike : (p : Production) (b : Bool) → is_if p ≡ false → has_row p b ≡ has_row p false
row_alike stmt_if b e = absurd (cc)
row_alike else_if b e = absurd (cc)
row_alike p b e = refl

pub none_taken : (p : Production) (f : Forest (right p)) → is_cell p ≡ false → is_else p ≡ false → takes_else (left p) (part (node p f)) ≡ false
none_taken stmts_some f c e = absurd (cc)
none_taken stmt_else f c e = absurd (cc)
none_taken p f c e = refl

pub if_plain : (p : Production) → is_if p ≡ true → (is_cell p ≡ false) × (is_else p ≡ false) × (is_early p ≡ false) × (nat_eq (has_row p false) 0 ≡ false)
if_plain stmt_if e = (refl, refl, refl, refl)
if_plain else_if e = (refl, refl, refl, refl)
if_plain p e = absurd (cc)

pub if_left : (p : Production) (i k : ℕ) (ws : List Open) (ms : List Made) → is_if p ≡ true → left_by p i k ws ms ≡ opened p i 0 k ms ∷ []
if_left stmt_if i k ws ms e = refl
if_left else_if i k ws ms e = refl
if_left p i k ws ms e = absurd (cc)

pub if_mine : (p : Production) (i k : ℕ) (w : Taken) (ms us : List Made) → is_if p ≡ true → mine p i k w ms us ≡ (if w.0 then us else closed (opened p i 0 k ms) us)
if_mine stmt_if i k (true, ws) ms us e = refl
if_mine stmt_if i k (false, ws) ms us e = refl
if_mine else_if i k (true, ws) ms us e = refl
if_mine else_if i k (false, ws) ms us e = refl
if_mine p i k w ms us e = absurd (cc)

-- what an else has behind it
body_open : (p : Production) (b : Bool) → is_statement (left p) ≡ false → is_if p || (is_else p && b) ≡ is_if p
body_open stmt_else b e = absurd (cc)
body_open p b e = refl

pub body_joins : {a : Nonterminal} (r : Tree a) → is_statement a ≡ false → is_open (part r) ≡ is_if (part r).root
body_joins (node p f) e = body_open p (is_if (part (node p f)).second) e

body_by : (p : Production) (i k : ℕ) (ms : List Made) → is_statement (left p) ≡ false → is_if p ≡ true → left_by p i k [] ms ≡ opened else_if i 0 k ms ∷ []
body_by stmt_if i k ms e g = absurd (cc)
body_by else_if i k ms e g = refl
body_by p i k ms e g = absurd (cc)

pub body_left : {a : Nonterminal} (r : Tree a) (i k : ℕ) (ms : List Made) → is_statement a ≡ false → is_if (part r).root ≡ true → left_by (part r).root i k [] ms ≡ opened else_if i 0 k ms ∷ []
body_left (node p f) i k ms e g = body_by p i k ms e g

-- ---- rows that are left, and taken
pub taken_plain : (i k : ℕ) (ws : List Open) (ms : List Made) → AreWaiting ws → ArePlain (taken i k ws ms)
taken_plain i k [] ms h = (refl, tt)
taken_plain i k (o ∷ os) ms h = (refl, h.1)

pub left_waits : (p : Production) (i k : ℕ) (ws : List Open) (ms : List Made) → AreWaiting ws → AreWaiting (left_by p i k ws ms)
left_waits stmt_if i k ws ms h = (refl, tt)
left_waits else_if i k ws ms h = (refl, tt)
left_waits stmt_else i k ws ms h = (refl, taken_plain i k ws ms h)
left_waits p i k ws ms h = tt

pub stood_low : (b l : ℕ) (ws os : List Open) → b < l → Low l os → Low l (stood b ws os)
stood_low b l [] os le h = h
stood_low b l (w ∷ ws) os le h = (le, stood_low b l ws os le h)

-- ---- rows that are closed where they may be
and_none : (b : Bool) → b && false ≡ false
and_none true = refl
and_none false = refl

pub plain_closes : (l : ℕ) (w : Bool) (o : Open) → o.bound ≡ l → o.joinable ≡ false → stays l w o ≡ false
plain_closes l w o e f = (λ j. (let g : nat_lt o.bound l ≡ false = grind (arith, nat_tests) in g) j || (w && (f j && nat_eq o.bound l))) ∙ and_none w

pub late_closes : (l : ℕ) (w : Bool) (o : Open) → o.bound ≡ l → w ≡ false → stays l w o ≡ false
late_closes l w o e f = λ j. (let g : nat_lt o.bound l ≡ false = grind (arith, nat_tests) in g) j || (f j && (o.joinable && nat_eq o.bound l))

pub wait_stays : (l : ℕ) (w : Bool) (o : Open) → o.bound ≡ l → o.joinable ≡ true → w ≡ true → stays l w o ≡ true
wait_stays l w o e f h =
    (λ j. (let g : nat_lt o.bound l ≡ false = grind (arith, nat_tests) in g) j || (h j && (f j && (let g : nat_eq o.bound l ≡ true = grind (arith, nat_tests) in g) j)))

pub bound_plain : (p : Production) (i s k : ℕ) (ms : List Made) → is_early p ≡ false → (opened p i (suc s) k ms).bound ≡ s
bound_plain p i s k ms e = ap (λ (b : Bool). if b then suc s else suc s - 1) e ∙ omega arith

-- all rows at a bound are closed there, but for one that waits
pub stood_closes : (s : ℕ) (v : Bool) (ws os : List Open) (us : List Made) → ArePlain ws → cut s v (stood s ws os) us ≡ cut s v os (closes ws us)
stood_closes s v [] os us h = refl
stood_closes s v (w ∷ ws) os us h = cut_closes s v (at_bound s w) (stood s ws os) us (plain_closes s v (at_bound s w) refl h.0) ∙ stood_closes s v ws os (closed w us) h.1

pub opened_at : (p : Production) (i s k : ℕ) (ms : List Made) → is_early p ≡ false → opened p i (suc s) k ms ≡ at_bound s (opened p i 0 k ms)
opened_at p i s k ms e =
    let o = opened p i 0 k ms in
    λ j. record { bound = bound_plain p i s k ms e j; begin = o.begin; place = o.place; own = o.own; joinable = o.joinable }

pub bound_early : (p : Production) (i s k : ℕ) (ms : List Made) → is_early p ≡ true → (opened p i (suc s) k ms).bound ≡ suc s
bound_early p i s k ms e = ap (λ (b : Bool). if b then suc s else suc s - 1) e

-- ---- a production begins
abbrev pub framed : Production → (i s k : ℕ) → List Made → List Open → List Open
framed p i s k ms os = if nat_eq (has_row p false) 0 then os else opened p i (suc s) k ms ∷ os

module _ (p : Production) (i s k : ℕ) (os : List Open) (ms : List Made) where
  abbrev entered_as : (b c : Bool) → Rows
  entered_as b c = if b then rows_of os ms else (if c then rows_of os (closed (opened p i (suc s) k ms) ms) else rows_of (opened p i (suc s) k ms ∷ os) ms)

  entered_is : (b c : Bool) → is_else p ≡ false → nat_eq (has_row p false) 0 ≡ b → nat_eq (kids (right p)) 0 ≡ c → entered p i (suc s) k (rows_of os ms) ≡ entered_as b c
  entered_is b c e f g =
      (λ j.
      if e j then rows_of (turned p i (suc s) k os ms) ms
      else (if f j then rows_of os ms else (if g j then rows_of os (closed (opened p i (suc s) k ms) ms) else rows_of (opened p i (suc s) k ms ∷ os) ms)))

  pub enters : (l : ℕ) (v : Bool) → l ≡ s + kids (right p) → is_else p ≡ false → cut l v (entered p i (suc s) k (rows_of os ms)).stack (entered p i (suc s) k (rows_of os ms)).made ≡ cut l v (framed p i s k ms os) ms
  enters l v at e = by (nat_eq (has_row p false) 0) (nat_eq (kids (right p)) 0) refl refl
    where
      by : (b c : Bool) → nat_eq (has_row p false) 0 ≡ b → nat_eq (kids (right p)) 0 ≡ c → cut l v (entered p i (suc s) k (rows_of os ms)).stack (entered p i (suc s) k (rows_of os ms)).made ≡ cut l v (framed p i s k ms os) ms
      by true c f g =
          ap (λ (x : Rows). cut l v x.stack x.made) (entered_is true c e f g)
          ∙ ap (λ (b : Bool). cut l v (if b then os else opened p i (suc s) k ms ∷ os) ms) (sym f)
      by false true f g =
          let q = leaf_plain p g in
          let none : kids (right p) ≡ 0 = grind (arith, nat_tests) in
          ap (λ (x : Rows). cut l v x.stack x.made) (entered_is false true e f g)
          ∙ sym (cut_closes l v (opened p i (suc s) k ms) os ms (plain_closes l v (opened p i (suc s) k ms) (bound_plain p i s k ms q.0 ∙ (let z : s ≡ l = omega arith in z)) q.1))
          ∙ ap (λ (b : Bool). cut l v (if b then os else opened p i (suc s) k ms ∷ os) ms) (sym f)
      by false false f g =
          ap (λ (x : Rows). cut l v x.stack x.made) (entered_is false false e f g)
          ∙ ap (λ (b : Bool). cut l v (if b then os else opened p i (suc s) k ms ∷ os) ms) (sym f)

-- the walk goes on behind a production
abbrev pub cut_at : Production → (l i s k : ℕ) (v : Bool) → List Open → List Made → Rows
cut_at p l i s k v os ms = cut l v (entered p i (suc s) k (rows_of os ms)).stack (entered p i (suc s) k (rows_of os ms)).made

pub begins : (p : Production) (i s k : ℕ) (os us : List Open) (ms : List Made) (ps : List Production) → cut_at p (s + kids (right p)) i s k (starts_else ps) os ms ≡ cut (s + kids (right p)) (starts_else ps) us ms → run (p ∷ ps) i (suc s) k (rows_of os ms) ≡ run ps (suc i) (s + kids (right p)) (k + reads_count p) (cut (s + kids (right p)) (starts_else ps) us ms)
begins p i s k os us ms ps h =
    ap (λ (x : ℕ). run ps (suc i) x (k + reads_count p) (cut_at p x i s k (starts_else ps) os ms)) (after_is s p)
    ∙ ap (λ (x : Rows). run ps (suc i) (s + kids (right p)) (k + reads_count p) x) h

pub counted : (p : Production) (f : Forest (right p)) (i s k : ℕ) (qs : List Production) (rs : Rows) → run qs (suc i + length (forest_parse f)) s (k + reads_count p + reads_in (forest_parse f)) rs ≡ run qs (i + width (node p f)) s (k + reads_in (left_parse (node p f))) rs
counted p f i s k qs rs =
    λ j. run qs ((let e : suc i + length (forest_parse f) ≡ i + width (node p f) = omega arith in e) j) s ((let e : k + reads_count p + reads_in (forest_parse f) ≡ k + reads_in (left_parse (node p f)) = omega arith in e) j) rs
