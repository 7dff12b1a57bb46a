-- What the names of the folded program mean, by the rows that stay.
use Rattle.std.proofs.Common.{◌≡◌, ℕ, zero, suc, ◌+◌, ◌<◌, ◌⊎◌, inl, inr, Bool, true, false, List, [], ◌∷◌, ◌++◌, length, map, get_or, Option, Some, None, refl, sym, ap, ◌∙◌, subst, arith}
use Rattle.std.specs.Prelude.{if◌then◌else◌, option_map, cond, codes, bytes_eq, is_some}
use Rattle.std.specs.List.{range_with_len, filter, flat_map}
use Rattle.std.proofs.lemmas.List.{get_or-map}
use Rattle.source_meaning.specs.Ast.{Expr, num, truth, name, call, unary, binary, and, or, assign, Args, Stmt, var, if_only, if_else, stray_else, while, return, block, eval, print, Function, Program}
use Rattle.source_meaning.specs.Scope.{Scope, Variable, Site, Part, an_expr, a_stmt, a_param, a_function, the_program, variable_of, function_of, sites, scope_faults, scope_fault, again_faults, main_fault}
use Rattle.row_rules.specs.Visible.{nowhere, site_at, declares, declared_at, declared_by}
use Rattle.row_rules.specs.Means.{AreNames, function_of_part, function_at, function_by}
use Rattle.folding.specs.Folding.{folded_stmt, folded_function, folded_program}
use Rattle.folded_rows.specs.Columns.{Columns, number_in, many, stays, kept, rank, new_number_of, new_meant, new_declared}
use Rattle.folded_rows.proofs.Along.{Along, bit}
use Rattle.folded_rows.proofs.Left.{IsExpr, WasExpr, Was, IsLeft, Left}

-- ---- what is the same at a node that is left
declares_folded : (sc : Scope) (s : Stmt) → declares sc (a_stmt (folded_stmt s)) ≡ declares sc (a_stmt s)
declares_folded sc (var at x ty e) = refl
declares_folded sc (if_only at c a) = refl
declares_folded sc (if_else at c a b) = refl
declares_folded sc (stray_else at a) = refl
declares_folded sc (while at c a) = refl
declares_folded sc (return at e) = refl
declares_folded sc (block at ss) = refl
declares_folded sc (eval e) = refl
declares_folded sc (print at e) = refl

expr_declares : (sc : Scope) (q : Part) → IsExpr q → declares sc q ≡ None
expr_declares sc (an_expr e) h = refl
expr_declares sc (a_stmt s) h = absurd h
expr_declares sc (a_param x) h = absurd h
expr_declares sc (a_function f) h = absurd h
expr_declares sc the_program h = absurd h

expr_function : (q : Part) → IsExpr q → function_of_part q ≡ None
expr_function (an_expr e) h = refl
expr_function (a_stmt s) h = absurd h
expr_function (a_param x) h = absurd h
expr_function (a_function f) h = absurd h
expr_function the_program h = absurd h

was_expr : (e : Expr) (old : Part) → WasExpr e old → IsExpr old
was_expr (num at v) old h = h
was_expr (truth at b) old h = h
was_expr (name at x) old h = subst IsExpr (sym h) tt
was_expr (call at f es) old h = subst IsExpr (sym h.1) tt
was_expr (unary at op a) old h = h
was_expr (binary at op a b) old h = h
was_expr (and at a b) old h = h
was_expr (or at a b) old h = h
was_expr (assign at a b) old h = h

part_declares : (sc : Scope) (q old : Part) → Was q old → declares sc q ≡ declares sc old
part_declares sc (an_expr e) old h = sym (expr_declares sc old (was_expr e old h))
part_declares sc (a_stmt s) old h = ap (λ x. declares sc (a_stmt x)) h.2 ∙ declares_folded sc h.0 ∙ ap (declares sc) (sym h.1)
part_declares sc (a_param x) old h = ap (declares sc) (sym h)
part_declares sc (a_function f) old h = ap (declares sc) (sym h.1)
part_declares sc the_program old h = ap (declares sc) (sym h)

left_declares : (s t : Site) → IsLeft s t → declares t.scope t.part ≡ declares s.scope s.part
left_declares s t h = part_declares t.scope t.part s.part h.part_was ∙ ap (λ sc. declares sc s.part) h.scope_is

left_function : (q old : Part) → Was q old → function_of_part q ≡ option_map folded_function (function_of_part old)
left_function (an_expr e) old h = sym (ap (option_map folded_function) (expr_function old (was_expr e old h)))
left_function (a_stmt s) old h = ap (λ x. option_map folded_function (function_of_part x)) (sym h.1)
left_function (a_param x) old h = ap (λ y. option_map folded_function (function_of_part y)) (sym h)
left_function (a_function f) old h = ap Some h.2 ∙ ap (λ x. option_map folded_function (function_of_part x)) (sym h.1)
left_function the_program old h = ap (λ y. option_map folded_function (function_of_part y)) (sym h)

found_folded : (x : List ℕ) (p : Program) → function_of (folded_program p) x ≡ option_map folded_function (function_of p x)
found_folded x [] = refl
found_folded x (f ∷ fs) = go (bytes_eq f.name x) (found_folded x fs)
  where
    go : (b : Bool) → function_of (folded_program fs) x ≡ option_map folded_function (function_of fs x)
        → cond b (Some (folded_function f)) (function_of (folded_program fs) x) ≡ option_map folded_function (cond b (Some f) (function_of fs x))
    go true h = refl
    go false h = h

-- ---- old and new numbers
module _ (test : ℕ → Bool) (rank : ℕ → ℕ) (ranks : (k : ℕ) → rank (k + 1) ≡ rank k + bit (test k)) where
  -- row k has the new number m
  record IsMoved (i n : ℕ) (ss ts : List Site) (k m : ℕ) : Type 0 where
    within : k < n
    there : m < length ts
    stays_is : test (i + k) ≡ true
    number_is : get_or (filter test (range_with_len i n)) m 0 ≡ i + k
    rank_is : rank (i + k) ≡ rank i + m
    left_is : IsLeft (get_or ss k nowhere) (get_or ts m nowhere)

  moved_on : (i n k m : ℕ) (ss ts : List Site) (s t : Site) → test i ≡ true → IsMoved (i + 1) n ss ts k m → IsMoved i (suc n) (s ∷ ss) (t ∷ ts) (suc k) (suc m)
  moved_on i n k m ss ts s t e h =
      let z : (i + 1) + k ≡ i + suc k = omega arith in
      let w = h.within in
      let l = h.there in
      let r = ranks i ∙ ap (λ b. rank i + bit b) e in
      let q = h.rank_is in
      record {
        within = omega arith;
        there = omega arith;
        stays_is = ap test (sym z) ∙ h.stays_is;
        number_is = ap (λ b. get_or (if b then i ∷ filter test (range_with_len (i + 1) n) else filter test (range_with_len (i + 1) n)) (suc m) 0) e ∙ h.number_is ∙ z;
        rank_is = ap rank (sym z) ∙ omega arith;
        left_is = h.left_is;
      }

  moved_past : (i n k m : ℕ) (ss ts : List Site) (s : Site) → test i ≡ false → IsMoved (i + 1) n ss ts k m → IsMoved i (suc n) (s ∷ ss) ts (suc k) m
  moved_past i n k m ss ts s e h =
      let z : (i + 1) + k ≡ i + suc k = omega arith in
      let w = h.within in
      let r = ranks i ∙ ap (λ b. rank i + bit b) e in
      let q = h.rank_is in
      record {
        within = omega arith;
        there = h.there;
        stays_is = ap test (sym z) ∙ h.stays_is;
        number_is = ap (λ b. get_or (if b then i ∷ filter test (range_with_len (i + 1) n) else filter test (range_with_len (i + 1) n)) m 0) e ∙ h.number_is ∙ z;
        rank_is = ap rank (sym z) ∙ omega arith;
        left_is = h.left_is;
      }

  moved_here : (i n : ℕ) (ss ts : List Site) (s t : Site) → test i ≡ true → IsLeft s t → IsMoved i (suc n) (s ∷ ss) (t ∷ ts) 0 0
  moved_here i n ss ts s t e h =
      let z : i + 0 ≡ i = omega arith in
      record {
        within = omega arith;
        there = omega arith;
        stays_is = ap test z ∙ e;
        number_is = ap (λ b. get_or (if b then i ∷ filter test (range_with_len (i + 1) n) else filter test (range_with_len (i + 1) n)) 0 0) e ∙ sym z;
        rank_is = ap rank z ∙ omega arith;
        left_is = h;
      }

  -- from the new number
  moved_from : (bs : List Bool) (ss ts : List Site) (i : ℕ) → Left bs ss ts → Along (λ k b. test k ≡ b) i bs → (m : ℕ) → m < length ts → (k : ℕ) × IsMoved i (length bs) ss ts k m
  moved_from [] [] [] i h a m l = absurd (omega arith)
  moved_from [] [] (t ∷ ts) i h a m l = absurd h
  moved_from [] (s ∷ ss) ts i h a m l = absurd h
  moved_from (b ∷ bs) [] ts i h a m l = absurd h
  moved_from (true ∷ bs) (s ∷ ss) [] i h a m l = absurd h
  moved_from (true ∷ bs) (s ∷ ss) (t ∷ ts) i h a zero l = (0, moved_here i (length bs) ss ts s t a.0 h.0)
  moved_from (true ∷ bs) (s ∷ ss) (t ∷ ts) i h a (suc m) l = let r = moved_from bs ss ts (i + 1) h.1 a.1 m (omega arith) in (suc r.0, moved_on i (length bs) r.0 m ss ts s t a.0 r.1)
  moved_from (false ∷ bs) (s ∷ ss) ts i h a m l = let r = moved_from bs ss ts (i + 1) h.1 a.1 m l in (suc r.0, moved_past i (length bs) r.0 m ss ts s a.0 r.1)

  -- from the old number: a row that doesn't stay is an expression
  moved_to : (bs : List Bool) (ss ts : List Site) (i : ℕ) → Left bs ss ts → Along (λ k b. test k ≡ b) i bs → (k : ℕ) → k < length ss
      → ((test (i + k) ≡ false) × IsExpr (get_or ss k nowhere).part) ⊎ ((m : ℕ) × IsMoved i (length bs) ss ts k m)
  moved_to [] [] [] i h a k l = absurd (omega arith)
  moved_to [] [] (t ∷ ts) i h a k l = absurd h
  moved_to [] (s ∷ ss) ts i h a k l = absurd h
  moved_to (b ∷ bs) [] ts i h a k l = absurd h
  moved_to (true ∷ bs) (s ∷ ss) [] i h a k l = absurd h
  moved_to (true ∷ bs) (s ∷ ss) (t ∷ ts) i h a zero l = inr (0, moved_here i (length bs) ss ts s t a.0 h.0)
  moved_to (true ∷ bs) (s ∷ ss) (t ∷ ts) i h a (suc k) l = elim (moved_to bs ss ts (i + 1) h.1 a.1 k (omega arith)) [
    | inl r ↦ let z : (i + 1) + k ≡ i + suc k = omega arith in inl (ap test (sym z) ∙ r.0, r.1)
    | inr r ↦ inr (suc r.0, moved_on i (length bs) k r.0 ss ts s t a.0 r.1)
  ]
  moved_to (false ∷ bs) (s ∷ ss) ts i h a zero l = let z : i + 0 ≡ i = omega arith in inl (ap test z ∙ a.0, h.0)
  moved_to (false ∷ bs) (s ∷ ss) ts i h a (suc k) l = elim (moved_to bs ss ts (i + 1) h.1 a.1 k (omega arith)) [
    | inl r ↦ let z : (i + 1) + k ≡ i + suc k = omega arith in inl (ap test (sym z) ∙ r.0, r.1)
    | inr r ↦ inr (r.0, moved_past i (length bs) k r.0 ss ts s a.0 r.1)
  ]

left_many : (bs : List Bool) (ss ts : List Site) → Left bs ss ts → length ss ≡ length bs
left_many [] [] [] h = refl
left_many [] [] (t ∷ ts) h = absurd h
left_many [] (s ∷ ss) ts h = absurd h
left_many (b ∷ bs) [] ts h = absurd h
left_many (true ∷ bs) (s ∷ ss) [] h = absurd h
left_many (true ∷ bs) (s ∷ ss) (t ∷ ts) h = ap suc (left_many bs ss ts h.1)
left_many (false ∷ bs) (s ∷ ss) ts h = ap suc (left_many bs ss ts h.1)

count_left : (test : ℕ → Bool) (bs : List Bool) (ss ts : List Site) (i : ℕ) → Left bs ss ts → Along (λ k b. test k ≡ b) i bs → length (filter test (range_with_len i (length bs))) ≡ length ts
count_left test [] [] [] i h a = refl
count_left test [] [] (t ∷ ts) i h a = absurd h
count_left test [] (s ∷ ss) ts i h a = absurd h
count_left test (b ∷ bs) [] ts i h a = absurd h
count_left test (true ∷ bs) (s ∷ ss) [] i h a = absurd h
count_left test (true ∷ bs) (s ∷ ss) (t ∷ ts) i h a =
    ap (λ b. length (if b then i ∷ filter test (range_with_len (i + 1) (length bs)) else filter test (range_with_len (i + 1) (length bs)))) a.0 ∙ ap suc (count_left test bs ss ts (i + 1) h.1 a.1)
count_left test (false ∷ bs) (s ∷ ss) ts i h a =
    ap (λ b. length (if b then i ∷ filter test (range_with_len (i + 1) (length bs)) else filter test (range_with_len (i + 1) (length bs)))) a.0 ∙ count_left test bs ss ts (i + 1) h.1 a.1

nil_right : {A : Type 0} (xs ys : List A) → xs ++ ys ≡ [] → ys ≡ []
nil_right [] ys h = h
nil_right (x ∷ xs) ys h = absurd (cc)

main_there : (p : Program) (end : ℕ) → scope_faults end p ≡ [] → (o : Option Function) → function_of p (codes "main") ≡ o → is_some o ≡ true
main_there p end h (Some f) e = refl
main_there p end h None e =
    let all = nil_right (flat_map (λ s. scope_fault p s.scope s.part) (sites p)) _ h in
    let last = nil_right (again_faults [] p) _ all in
    let none : main_fault end None ≡ [] = ap (main_fault end) (sym e) ∙ last in
    absurd (cc)

module _ (p : Program) (c : Columns) (values : List (Option ℕ)) (bs : List Bool) (many_is : length bs ≡ many c) (flags : Along (λ k b. stays c values k ≡ b) 0 bs) (left : Left bs (sites p) (sites (folded_program p))) where
  abbrev q : Program
  q = folded_program p

  ranks : (k : ℕ) → rank c values (k + 1) ≡ rank c values k + bit (stays c values k)
  ranks k = ap (rank c values) (let z : k + 1 ≡ suc k = omega arith in z)

  -- row k of the program is row m of the folded one
  record Moved (k m : ℕ) : Type 0 where
    within : k < length (sites p)
    there : m < length (sites q)
    stays_is : stays c values k ≡ true
    number_is : get_or (kept c values) m 0 ≡ k
    rank_is : rank c values k ≡ m
    left_is : IsLeft (site_at p k) (site_at q m)

  moved_whole : (k m : ℕ) → IsMoved (stays c values) (rank c values) ranks 0 (length bs) (sites p) (sites q) k m → Moved k m
  moved_whole k m h =
      let z : 0 + k ≡ k = omega arith in
      let w = h.within in
      let n = left_many bs (sites p) (sites q) left in
      record {
        within = omega arith;
        there = h.there;
        stays_is = ap (stays c values) (sym z) ∙ h.stays_is;
        number_is = ap (λ l. get_or (filter (stays c values) (range_with_len 0 l)) m 0) (sym many_is) ∙ h.number_is ∙ z;
        rank_is = ap (rank c values) (sym z) ∙ h.rank_is ∙ omega arith;
        left_is = h.left_is;
      }

  from : (m : ℕ) → m < length (sites q) → (k : ℕ) × Moved k m
  from m h = let r = moved_from (stays c values) (rank c values) ranks bs (sites p) (sites q) 0 left flags m h in (r.0, moved_whole r.0 m r.1)

  to : (k : ℕ) → k < length (sites p) → ((stays c values k ≡ false) × IsExpr (site_at p k).part) ⊎ ((m : ℕ) × Moved k m)
  to k h = elim (moved_to (stays c values) (rank c values) ranks bs (sites p) (sites q) 0 left flags k h) [
    | inl r ↦ let z : 0 + k ≡ k = omega arith in inl (ap (stays c values) (sym z) ∙ r.0, r.1)
    | inr r ↦ inr (r.0, moved_whole k r.0 r.1)
  ]

  kept_many : length (kept c values) ≡ length (sites q)
  kept_many = ap (λ l. length (filter (stays c values) (range_with_len 0 l))) (sym many_is) ∙ count_left (stays c values) bs (sites p) (sites q) 0 left flags

  -- what a table of the kept rows has at a new number
  kept_there : {X : Type 0} (f : ℕ → X) (d : X) (k m : ℕ) → Moved k m → get_or (map f (kept c values)) m d ≡ f k
  kept_there f d k m h = let t = h.there in let n = kept_many in get_or-map f (kept c values) m 0 d (omega arith) ∙ ap f h.number_is

  declared_moved : (o : Option ℕ) → ((j : ℕ) → o ≡ Some j → j < length (sites p)) → declared_by p o ≡ declared_by q (new_number_of c values o)
  declared_moved None h = refl
  declared_moved (Some j) h = elim (to j (h j refl)) [
    | inl r ↦ expr_declares (site_at p j).scope (site_at p j).part r.1 ∙ sym (ap (λ b. declared_by q (if b then Some (rank c values j) else None)) r.0)
    | inr r ↦
        sym (left_declares (site_at p j) (site_at q r.0) r.1.left_is)
        ∙ ap (declared_at q) (sym r.1.rank_is)
        ∙ sym (ap (λ b. declared_by q (if b then Some (rank c values j) else None)) r.1.stays_is)
  ]

  function_moved : (o : Option ℕ) → ((j : ℕ) → o ≡ Some j → j < length (sites p)) → option_map folded_function (function_by p o) ≡ function_by q (new_number_of c values o)
  function_moved None h = refl
  function_moved (Some j) h = elim (to j (h j refl)) [
    | inl r ↦ ap (option_map folded_function) (expr_function (site_at p j).part r.1) ∙ sym (ap (λ b. function_by q (if b then Some (rank c values j) else None)) r.0)
    | inr r ↦
        sym (left_function (site_at q r.0).part (site_at p j).part r.1.left_is.part_was)
        ∙ ap (function_at q) (sym r.1.rank_is)
        ∙ sym (ap (λ b. function_by q (if b then Some (rank c values j) else None)) r.1.stays_is)
  ]

  number_moved : (o : Option ℕ) → ((j : ℕ) → o ≡ Some j → j < length (sites p)) → (j' : ℕ) → new_number_of c values o ≡ Some j' → j' < length (sites q)
  number_moved None h j' e = absurd (cc)
  number_moved (Some j) h j' e = elim (to j (h j refl)) [
    | inl r ↦ absurd (let f = sym (ap (λ b. if b then Some (rank c values j) else None) r.0) ∙ e in cc)
    | inr r ↦
        let f : Some (rank c values j) ≡ Some j' = sym (ap (λ b. if b then Some (rank c values j) else None) r.1.stays_is) ∙ e in
        let g : rank c values j ≡ j' = cc in
        let t = r.1.there in
        let z = r.1.rank_is in
        omega arith
  ]

  module _ (meant : List (Option ℕ)) (numbers : List ℕ) (main end : ℕ) (faultless : scope_faults end p ≡ []) (names : AreNames p (λ k. get_or meant k None) (λ k. get_or numbers k 0) main) where
    meant_within : (k : ℕ) → k < length (sites p) → (j : ℕ) → get_or meant k None ≡ Some j → j < length (sites p)
    meant_within k h j e = names.within k j h e

    meant_there : (k m : ℕ) → Moved k m → get_or (new_meant c values meant) m None ≡ new_number_of c values (get_or meant k None)
    meant_there k m h = kept_there (λ j. new_number_of c values (get_or meant j None)) None k m h

    name_left : (m at : ℕ) (x : List ℕ) → m < length (sites q) → (site_at q m).part ≡ an_expr (name at x) → variable_of (site_at q m).scope x ≡ declared_by q (get_or (new_meant c values meant) m None)
    name_left m at x h e =
        let r = from m h in
        let k = r.0 in
        let old : (site_at p k).part ≡ an_expr (name at x) = subst (λ y. Was y (site_at p k).part) e r.1.left_is.part_was in
        ap (λ sc. variable_of sc x) r.1.left_is.scope_is
        ∙ names.names k at x r.1.within old
        ∙ declared_moved (get_or meant k None) (meant_within k r.1.within)
        ∙ sym (ap (declared_by q) (meant_there k m r.1))

    call_left : (m at : ℕ) (f : List ℕ) (es : Args) → m < length (sites q) → (site_at q m).part ≡ an_expr (call at f es) → function_of q f ≡ function_by q (get_or (new_meant c values meant) m None)
    call_left m at f es h e =
        let r = from m h in
        let k = r.0 in
        let old : (es' : Args) × ((site_at p k).part ≡ an_expr (call at f es')) = subst (λ y. Was y (site_at p k).part) e r.1.left_is.part_was in
        found_folded f p
        ∙ ap (option_map folded_function) (names.calls k at f old.0 r.1.within old.1)
        ∙ function_moved (get_or meant k None) (meant_within k r.1.within)
        ∙ sym (ap (function_by q) (meant_there k m r.1))

    within_left : (m j : ℕ) → m < length (sites q) → get_or (new_meant c values meant) m None ≡ Some j → j < length (sites q)
    within_left m j h e =
        let r = from m h in
        number_moved (get_or meant r.0 None) (meant_within r.0 r.1.within) j (sym (meant_there r.0 m r.1) ∙ e)

    number_left : (m : ℕ) (v : Variable) → m < length (sites q) → declared_at q m ≡ Some v → get_or (new_declared c values numbers) m 0 ≡ v.number
    number_left m v h e =
        let r = from m h in
        kept_there (number_in numbers) 0 r.0 m r.1 ∙ names.numbers r.0 v r.1.within (sym (left_declares (site_at p r.0) (site_at q m) r.1.left_is) ∙ e)

    starts_left : (rank c values main < length (sites q)) × (function_of q (codes "main") ≡ function_at q (rank c values main))
    starts_left =
        let some : is_some (function_at p main) ≡ true = main_there p end faultless (function_at p main) names.starts.1 in
        elim (to main names.starts.0) [
          | inl r ↦ absurd (let f = sym (ap is_some (expr_function (site_at p main).part r.1)) ∙ some in cc)
          | inr r ↦ (
            subst (λ m. m < length (sites q)) (sym r.1.rank_is) r.1.there,
            found_folded (codes "main") p
                ∙ ap (option_map folded_function) names.starts.1
                ∙ sym (left_function (site_at q r.0).part (site_at p main).part r.1.left_is.part_was)
                ∙ ap (function_at q) (sym r.1.rank_is),
          )
        ]

    pub names_left : AreNames q (λ k. get_or (new_meant c values meant) k None) (λ k. get_or (new_declared c values numbers) k 0) (rank c values main)
    names_left = record { names = name_left; calls = call_left; within = within_left; numbers = number_left; starts = starts_left }
