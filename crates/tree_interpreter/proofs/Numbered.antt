-- Numberings of statements: where they begin, and how they are taken apart.
use Rattle.std.proofs.Common.{◌≡◌, ℕ, suc, ◌+◌, List, ◌++◌, length, take, drop, refl, sym, ap, ◌∙◌}
use Rattle.std.proofs.lemmas.List.{length-append}
use Rattle.std.proofs.Math.Seq.{take-append_seam, drop-append_seam}
use Rattle.source_meaning.specs.Ast.{Stmt, var, if_only, if_else, stray_else, while, return, block, eval, print, Stmts, no_stmts, stmt}
use Rattle.source_meaning.specs.Scope.{variables_in}
use Rattle.tree_interpreter.specs.Numbering.{joined, numbers, numbers_all, next_in, length_in, first_length}
use Rattle.tree_interpreter.specs.Trees.{stmt_of}
use Rattle.tree_interpreter.specs.declared.numbering.Entry.{Entry}
use Rattle.tree_interpreter.specs.declared.rests.Branches.{Branches}

mutual
  pub begins : (n : ℕ) (s : Stmt) → next_in (numbers n s) ≡ n
  begins n (var at x ty e) = refl
  begins n (if_only at c a) = begins n a
  begins n (if_else at c a b) = refl
  begins n (stray_else at a) = begins n a
  begins n (while at c a) = begins n a
  begins n (return at e) = refl
  begins n (block at ss) = begins_all n ss
  begins n (eval e) = refl
  begins n (print at e) = refl

  pub begins_all : (n : ℕ) (ss : Stmts) → next_in (numbers_all n ss) ≡ n
  begins_all n no_stmts = refl
  begins_all n (stmt s ss) = refl

mutual
  -- the first entry says how many there are
  whole : (n : ℕ) (s : Stmt) (ys : List Entry) → length_in (numbers n s ++ ys) ≡ length (numbers n s)
  whole n (var at x ty e) ys = refl
  whole n (if_only at c a) ys = whole n a ys
  whole n (if_else at c a b) ys = sym (ap suc (length-append (numbers n a) _))
  whole n (stray_else at a) ys = whole n a ys
  whole n (while at c a) ys = whole n a ys
  whole n (return at e) ys = refl
  whole n (block at ss) ys = whole_all n ss ys
  whole n (eval e) ys = refl
  whole n (print at e) ys = refl

  whole_all : (n : ℕ) (ss : Stmts) (ys : List Entry) → length_in (numbers_all n ss ++ ys) ≡ length (numbers_all n ss)
  whole_all n no_stmts ys = refl
  whole_all n (stmt s ss) ys = sym (ap suc (length-append (numbers n s) _))

-- the two parts
pub own_part : (cs : List Entry) (m n : ℕ) (s : Stmt) (ys : List Entry) → cs ≡ joined m (numbers n s) ys → take (first_length cs) (drop 1 cs) ≡ numbers n s
own_part cs m n s ys is =
    ap (λ es. take (first_length es) (drop 1 es)) is
    ∙ ap (λ k. take k (numbers n s ++ ys)) (whole n s ys)
    ∙ take-append_seam (numbers n s) ys

pub other_part : (cs : List Entry) (m n : ℕ) (s : Stmt) (ys : List Entry) → cs ≡ joined m (numbers n s) ys → drop (first_length cs) (drop 1 cs) ≡ ys
other_part cs m n s ys is =
    ap (λ es. drop (first_length es) (drop 1 es)) is
    ∙ ap (λ k. drop k (numbers n s ++ ys)) (whole n s ys)
    ∙ drop-append_seam (numbers n s) ys

-- a numbering begins with its own number
pub numbered_so : (cs : List Entry) (n : ℕ) (s : Stmt) → cs ≡ numbers n s → (cs ≡ numbers (next_in cs) s) × (next_in cs ≡ n)
numbered_so cs n s is = (is ∙ ap (λ m. numbers m s) (sym (ap next_in is ∙ begins n s)), ap next_in is ∙ begins n s)

pub all_numbered_so : (cs : List Entry) (n : ℕ) (ss : Stmts) → cs ≡ numbers_all n ss → (cs ≡ numbers_all (next_in cs) ss) × (next_in cs ≡ n)
all_numbered_so cs n ss is = (is ∙ ap (λ m. numbers_all m ss) (sym (ap next_in is ∙ begins_all n ss)), ap next_in is ∙ begins_all n ss)

-- A statement and those behind it: where the numbering of each begins.
pub both_numbered_so : (cs own others : List Entry) (n : ℕ) (s : Stmt) (ss : Stmts) → cs ≡ joined n (numbers n s) (numbers_all (n + variables_in s) ss) →
    own ≡ take (first_length cs) (drop 1 cs) → others ≡ drop (first_length cs) (drop 1 cs) →
    (own ≡ numbers (next_in own) s) × (next_in own ≡ n) × (others ≡ numbers_all (next_in others) ss) × (next_in others ≡ n + variables_in s)
both_numbered_so cs own others n s ss is first second =
    let left = numbered_so own n s (first ∙ own_part cs n n s (numbers_all (n + variables_in s) ss) is) in
    let right = all_numbered_so others (n + variables_in s) ss (second ∙ other_part cs n n s (numbers_all (n + variables_in s) ss) is) in
    (left.0, left.1, right.0, right.1)

-- the statements of an if and its else
pub then_numbered : (q : Branches) (own : List Entry) → own ≡ take (first_length q.numbering.now) (drop 1 q.numbering.now) → (own ≡ numbers (next_in own) (stmt_of q.then.now)) × (next_in own ≡ next_in q.numbering.now)
then_numbered q own is = numbered_so own n a (is ∙ own_part q.numbering.now n n a (numbers (n + variables_in a) (stmt_of q.otherwise.now)) q.numbered)
  where
    n : ℕ
    n = next_in q.numbering.now

    a : Stmt
    a = stmt_of q.then.now

pub otherwise_numbered : (q : Branches) (own : List Entry) → own ≡ drop (first_length q.numbering.now) (drop 1 q.numbering.now) → (own ≡ numbers (next_in own) (stmt_of q.otherwise.now)) × (next_in own ≡ next_in q.numbering.now + variables_in (stmt_of q.then.now))
otherwise_numbered q own is = numbered_so own (n + variables_in a) (stmt_of q.otherwise.now) (is ∙ other_part q.numbering.now n n a (numbers (n + variables_in a) (stmt_of q.otherwise.now)) q.numbered)
  where
    n : ℕ
    n = next_in q.numbering.now

    a : Stmt
    a = stmt_of q.then.now
