-- A walk that cuts behind each production in place of before it: a tree then begins with the rows that stay open.
use Rattle.std.proofs.Common.{◌≡◌, ℕ, suc, ◌+◌, ◌<◌, ◌≤◌, Bool, true, false, List, [], ◌∷◌, refl, sym, ap, ◌∙◌, arith}
use Rattle.std.specs.Prelude.{if◌then◌else◌, ◌&&◌, ◌||◌, nat_lt, nat_eq}
use Rattle.std.proofs.lemmas.Bool.Decides.{nat_tests}
use Rattle.source_meaning.specs.Grammar.{Production}
use Rattle.row_laws.specs.Levels.{after}
use Rattle.row_laws.specs.Owned.{reads_count}
use Rattle.row_laws.specs.Joins.{starts_else}
use Rattle.row_walk.specs.Walk.{Open, Made, Rows, Walk, closed, stays, cut, entered, step, walked, start, made_by}

abbrev pub rows_of : List Open → List Made → Rows
rows_of os ms = record { stack = os; made = ms }

-- all bounds are below a number
abbrev pub Low : ℕ → List Open → Type 0
Low s [] = Unit {0}
Low s (o ∷ os) = (o.bound < s) × Low s os

pub low_more : (s u : ℕ) (os : List Open) → s ≤ u → Low s os → Low u os
low_more s u [] le h = tt
low_more s u (o ∷ os) le h = ((let g = h.0 in omega arith), low_more s u os le h.1)

pub cut_stays : (l : ℕ) (w : Bool) (o : Open) (os : List Open) (ms : List Made) → stays l w o ≡ true → cut l w (o ∷ os) ms ≡ rows_of (o ∷ os) ms
cut_stays l w o os ms e = ap (λ (b : Bool). if b then rows_of (o ∷ os) ms else cut l w os (closed o ms)) e

pub cut_closes : (l : ℕ) (w : Bool) (o : Open) (os : List Open) (ms : List Made) → stays l w o ≡ false → cut l w (o ∷ os) ms ≡ cut l w os (closed o ms)
cut_closes l w o os ms e = ap (λ (b : Bool). if b then rows_of (o ∷ os) ms else cut l w os (closed o ms)) e

pub below_stays : (l : ℕ) (w : Bool) (o : Open) → o.bound < l → stays l w o ≡ true
below_stays l w o h = ap (λ (b : Bool). b || (w && (o.joinable && nat_eq o.bound l))) (let g : nat_lt o.bound l ≡ true = grind (arith, nat_tests) in g)

pub cut_low : (l : ℕ) (w : Bool) (os : List Open) (ms : List Made) → Low l os → cut l w os ms ≡ rows_of os ms
cut_low l w [] ms h = refl
cut_low l w (o ∷ os) ms h = cut_stays l w o os ms (below_stays l w o h.0)

none_stays : (o : Open) → stays 0 false o ≡ false
none_stays o = ap (λ (b : Bool). b || false) (let g : nat_lt o.bound 0 ≡ false = grind (arith, nat_tests) in g)

absorbed : (l : ℕ) (w : Bool) (os : List Open) (ms : List Made) → cut 0 false (cut l w os ms).stack (cut l w os ms).made ≡ cut 0 false os ms
absorbed l w [] ms = refl
absorbed l w (o ∷ os) ms = by (stays l w o) refl (absorbed l w os (closed o ms))
  where
    by : (b : Bool) → stays l w o ≡ b → cut 0 false (cut l w os (closed o ms)).stack (cut l w os (closed o ms)).made ≡ cut 0 false os (closed o ms) → cut 0 false (cut l w (o ∷ os) ms).stack (cut l w (o ∷ os) ms).made ≡ cut 0 false (o ∷ os) ms
    by true e more = ap (λ (x : Rows). cut 0 false x.stack x.made) (cut_stays l w o os ms e)
    by false e more = ap (λ (x : Rows). cut 0 false x.stack x.made) (cut_closes l w o os ms e) ∙ more ∙ sym (cut_closes 0 false o os ms (none_stays o))

-- what is closed in the end, from a place, a level and a count of tokens read on
abbrev pub run : List Production → (i l k : ℕ) → Rows → List Made
run [] i l k rs = (cut 0 false rs.stack rs.made).made
run (p ∷ ps) i l k rs =
    let e = entered p i l k rs in
    run ps (suc i) (after l p) (k + reads_count p) (cut (after l p) (starts_else ps) e.stack e.made)

abbrev finish : List Production → Walk → List Made
finish ps w = let v = walked ps w in (cut 0 false v.rows.stack v.rows.made).made

finish_runs : (ps : List Production) (w : Walk) → finish ps w ≡ run ps w.place w.level w.read (cut w.level (starts_else ps) w.rows.stack w.rows.made)
finish_runs [] w = ap (λ (x : Rows). x.made) (sym (absorbed w.level false w.rows.stack w.rows.made))
finish_runs (p ∷ ps) w = finish_runs ps (step p (starts_else (p ∷ ps)) w)

pub made_runs : (ps : List Production) → made_by ps ≡ run ps 0 1 0 (rows_of [] [])
made_runs ps = finish_runs ps start
