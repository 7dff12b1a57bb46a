-- A folded program does what the program does, where that doesn't overrun its stack.
use Rattle.std.proofs.Common.{◌≡◌, ℕ, zero, suc, ◌+◌, ◌-◌, ◌≤◌, List, [], ◌∷◌, ◌++◌, replicate, Option, Some, None, Bool, true, false, cond, refl, sym, ap, ◌∙◌, subst, arith}
use Rattle.std.specs.Prelude.{nat_lt, codes, bytes_eq, option_map}
use Rattle.std.proofs.lemmas.Bool.{ltb-true, ltb-false}
use Rattle.source_meaning.specs.Ast.{Expr, num, truth, name, call, unary, binary, and, or, assign, Args, no_args, arg, Stmt, var, if_only, if_else, stray_else, while, return, block, eval, print, Stmts, no_stmts, stmt, Function, Program}
use Rattle.source_meaning.specs.declared.kinds.ValueType.{ValueType}
use Rattle.source_meaning.specs.declared.kinds.ValueType.TheVariants.{Int, Bool as BoolType}
use Rattle.source_meaning.specs.declared.kinds.UnaryOp.{UnaryOp}
use Rattle.source_meaning.specs.declared.kinds.BinaryOp.{BinaryOp}
use Rattle.source_meaning.specs.Operators.{flag, unary_value, binary_value}
use Rattle.source_meaning.specs.Typing.{unary_operand, binary_type, group_of}
use Rattle.source_meaning.specs.Scope.{Scope, function_of, past, behind, inner, body_scope}
use Rattle.source_meaning.specs.Frames.{frame}
use Rattle.source_meaning.specs.Meaning.{Deep, More, Outcome, Ended, Stopped, End, ends_as, Table, Run, gave, stopped, gives, stops, behind_one, behind_all, ◌>>=◌, World, returned_as, returned, called, value, values, then_next, loop, run, run_all, ended, new_table, call_in, main_in, meaning}
use Rattle.folding.specs.Folding.{constant, constant_of, folded, folded_args, folded_unary, folded_binary, folded_and, folded_or, folded_stmt, folded_stmts, folded_function, folded_program}
use Rattle.folding.specs.Keeps.{IsFront, Means, KeepsAs, Keeps}
use Rattle.folding.proofs.Shrinks.{variables_same, frame_less}

abbrev printed_by : {A : Type 0} → Run A → List ℕ
printed_by (gave x t ns) = ns
printed_by (stopped s ns) = ns

-- the second is the first, or the first overran the stack and its output is a front
abbrev KeepsRun : {A : Type 0} → Run A → Run A → Type 0
KeepsRun (gave x t ns) r = gave x t ns ≡ r
KeepsRun (stopped Deep ns) r = IsFront ns (printed_by r)
KeepsRun (stopped More ns) r = stopped More ns ≡ r

one_printed : {A : Type 0} (n : ℕ) (r : Run A) → printed_by (behind_one n r) ≡ n ∷ printed_by r
one_printed n (gave x t ns) = refl
one_printed n (stopped s ns) = refl

all_printed : {A : Type 0} (ns : List ℕ) (r : Run A) → printed_by (behind_all ns r) ≡ ns ++ printed_by r
all_printed [] r = refl
all_printed (n ∷ ns) r = one_printed n (behind_all ns r) ∙ ap (λ q. n ∷ q) (all_printed ns r)

front_all : (ns : List ℕ) → IsFront ns ns
front_all [] = ([], refl)
front_all (n ∷ ns) = let h = front_all ns in (h.0, ap (λ q. n ∷ q) h.1)

front_behind : (ns us vs : List ℕ) → IsFront ns us → IsFront ns (us ++ vs)
front_behind [] us vs h = (us ++ vs, refl)
front_behind (n ∷ ns) [] vs h = absurd (cc)
front_behind (n ∷ ns) (u ∷ us) vs h =
    let first : u ≡ n = cc in
    let rest : us ≡ ns ++ h.0 = cc in
    let r = front_behind ns us vs (h.0, rest) in (r.0, λ i. first i ∷ r.1 i)

-- what a run printed stands in front of what it prints with more behind it
bind_printed : {A B : Type 0} (ns : List ℕ) (s : Run A) (g : A → Table → Run B) → IsFront ns (printed_by s) → IsFront ns (printed_by (s >>= g))
bind_printed ns (gave x t us) g h = subst (λ q. IsFront ns q) (sym (all_printed us (g x t))) (front_behind ns us (printed_by (g x t)) h)
bind_printed ns (stopped s us) g h = h

behind_keeps : {A : Type 0} (n : ℕ) (r s : Run A) → KeepsRun r s → KeepsRun (behind_one n r) (behind_one n s)
behind_keeps n (gave x t ns) s h = ap (behind_one n) h
behind_keeps n (stopped Deep ns) s h = subst (λ q. IsFront (n ∷ ns) q) (sym (one_printed n s)) (h.0, ap (λ q. n ∷ q) h.1)
behind_keeps n (stopped More ns) s h = ap (behind_one n) h

all_keep : {A : Type 0} (ns : List ℕ) (r s : Run A) → KeepsRun r s → KeepsRun (behind_all ns r) (behind_all ns s)
all_keep [] r s h = h
all_keep (n ∷ ns) r s h = behind_keeps n (behind_all ns r) (behind_all ns s) (all_keep ns r s h)

bound : {A B : Type 0} (r s : Run A) (f g : A → Table → Run B) → KeepsRun r s → ((x : A) (t : Table) → KeepsRun (f x t) (g x t)) → KeepsRun (r >>= f) (s >>= g)
bound (gave x t ns) s f g h k = subst (λ q. KeepsRun (behind_all ns (f x t)) (q >>= g)) h (all_keep ns (f x t) (g x t) (k x t))
bound (stopped Deep ns) s f g h k = bind_printed ns s g h
bound (stopped More ns) s f g h k = ap (λ q. q >>= g) h

-- the second may be put otherwise
to : {A : Type 0} (r s u : Run A) → KeepsRun r s → s ≡ u → KeepsRun r u
to r s u h e = subst (λ q. KeepsRun r q) e h

pub found_folded : (x : List ℕ) (p : Program) → function_of (folded_program p) x ≡ option_map folded_function (function_of p x)
found_folded x [] = refl
found_folded x (f ∷ fs) = go (bytes_eq f.name x) (found_folded x fs)
  where
    go : (b : Bool) → function_of (folded_program fs) x ≡ option_map folded_function (function_of fs x)
        → cond b (Some (folded_function f)) (function_of (folded_program fs) x) ≡ option_map folded_function (cond b (Some f) (function_of fs x))
    go true h = refl
    go false h = h

-- a constant's value, and what is made a constant
module _ (w : World) (sc : Scope) (t : Table) where
  constant_gives : (e : Expr) (x : ℕ) → constant e ≡ Some x → value w sc t e ≡ gives x t
  constant_gives (num at v) x h = let e : v ≡ x = cc in ap (λ n. gives n t) e
  constant_gives (truth at b) x h = let e : flag b ≡ x = cc in ap (λ n. gives n t) e
  constant_gives (name at y) x h = absurd (cc)
  constant_gives (call at f es) x h = absurd (cc)
  constant_gives (unary at op a) x h = absurd (cc)
  constant_gives (binary at op a b) x h = absurd (cc)
  constant_gives (and at a b) x h = absurd (cc)
  constant_gives (or at a b) x h = absurd (cc)
  constant_gives (assign at a b) x h = absurd (cc)

  made_gives : (ty : ValueType) (at v : ℕ) → value w sc t (constant_of ty at v) ≡ gives v t
  made_gives Int at v = refl
  made_gives BoolType at zero = refl
  made_gives BoolType at (suc zero) = refl
  made_gives BoolType at (suc (suc n)) = refl

  unary_same : (at : ℕ) (op : UnaryOp) (a : Expr) (o : Option ℕ) → constant a ≡ o → value w sc t (unary at op a) ≡ value w sc t (folded_unary at op a o)
  unary_same at op a None h = refl
  unary_same at op a (Some x) h = ap (λ r. r >>= λ y u. gives (unary_value op y) u) (constant_gives a x h) ∙ sym (made_gives (unary_operand op) at (unary_value op x))

  binary_same : (at : ℕ) (op : BinaryOp) (a b : Expr) (o q : Option ℕ) → constant a ≡ o → constant b ≡ q → value w sc t (binary at op a b) ≡ value w sc t (folded_binary at op a b o q)
  binary_same at op a b None q h k = refl
  binary_same at op a b (Some x) None h k = refl
  binary_same at op a b (Some x) (Some y) h k =
      ap (λ r. r >>= λ z u. value w sc u b >>= λ y v. gives (binary_value op z y) v) (constant_gives a x h)
      ∙ ap (λ r. r >>= λ y v. gives (binary_value op x y) v) (constant_gives b y k)
      ∙ sym (made_gives (binary_type (group_of op)) at (binary_value op x y))

  and_same : (at : ℕ) (a b : Expr) (o : Option ℕ) → constant a ≡ o → value w sc t (and at a b) ≡ value w sc t (folded_and at a b o)
  and_same at a b None h = refl
  and_same at a b (Some zero) h = ap (λ r. r >>= λ x u. elim x [ zero ↦ gives zero u | suc n ↦ value w sc u b ]) (constant_gives a zero h)
  and_same at a b (Some (suc n)) h = ap (λ r. r >>= λ x u. elim x [ zero ↦ gives zero u | suc n ↦ value w sc u b ]) (constant_gives a (suc n) h)

  or_same : (at : ℕ) (a b : Expr) (o : Option ℕ) → constant a ≡ o → value w sc t (or at a b) ≡ value w sc t (folded_or at a b o)
  or_same at a b None h = refl
  or_same at a b (Some zero) h = ap (λ r. r >>= λ x u. elim x [ zero ↦ value w sc u b | suc n ↦ gives (suc n) u ]) (constant_gives a zero h)
  or_same at a b (Some (suc n)) h = ap (λ r. r >>= λ x u. elim x [ zero ↦ value w sc u b | suc n ↦ gives (suc n) u ]) (constant_gives a (suc n) h) ∙ sym (made_gives BoolType at (suc n))

pub past_same : (sc : Scope) (s : Stmt) → past sc (folded_stmt s) ≡ past sc s
past_same sc s = ap (λ n. record sc { next = sc.next + n }) (variables_same s)

pub behind_same : (sc : Scope) (s : Stmt) → behind sc (folded_stmt s) ≡ behind sc s
behind_same sc (var at x ty e) = refl
behind_same sc (if_only at c a) = past_same sc (if_only at c a)
behind_same sc (if_else at c a b) = past_same sc (if_else at c a b)
behind_same sc (stray_else at a) = past_same sc (stray_else at a)
behind_same sc (while at c a) = past_same sc (while at c a)
behind_same sc (return at e) = past_same sc (return at e)
behind_same sc (block at ss) = past_same sc (block at ss)
behind_same sc (eval e) = past_same sc (eval e)
behind_same sc (print at e) = past_same sc (print at e)

returned_printed : (o : Outcome) (ns : List ℕ) (t : Table) → printed_by (returned_as o ns t) ≡ ns
returned_printed (Ended x) ns t = refl
returned_printed (Stopped s) ns t = refl

module _ (w v : World) (programs : v.program ≡ folded_program w.program) (turns : w.turns ≡ v.turns) (calls : (f : Function) (args : List ℕ) → Keeps (w.calls f args) (v.calls (folded_function f) args)) where
  returned_keeps : (o : Outcome) (ns : List ℕ) (q : End) (t : Table) → KeepsAs o (record { outcome = o; printed = ns }) q → KeepsRun (returned_as o ns t) (returned q t)
  returned_keeps (Ended x) ns q t h = ap (λ z. returned z t) (sym h)
  returned_keeps (Stopped Deep) ns q t h = subst (λ z. IsFront ns z) (sym (returned_printed q.outcome q.printed t)) h
  returned_keeps (Stopped More) ns q t h = ap (λ z. returned z t) (sym h)

  called_keeps : (o : Option Function) (args : List ℕ) (t : Table) → KeepsRun (called w o args t) (called v (option_map folded_function o) args t)
  called_keeps None args t = refl
  called_keeps (Some f) args t = returned_keeps (w.calls f args).outcome (w.calls f args).printed (v.calls (folded_function f) args) t (calls f args)

  found : (x : List ℕ) → option_map folded_function (function_of w.program x) ≡ function_of v.program x
  found x = sym (found_folded x w.program) ∙ ap (λ q. function_of q x) (sym programs)

  and_keeps : (b : Expr) (sc : Scope) → ((u : Table) → KeepsRun (value w sc u b) (value v sc u (folded b))) → (x : ℕ) (u : Table) → KeepsRun (elim x [ zero ↦ gives zero u | suc n ↦ value w sc u b ]) (elim x [ zero ↦ gives zero u | suc n ↦ value v sc u (folded b) ])
  and_keeps b sc h zero u = refl
  and_keeps b sc h (suc n) u = h u

  or_keeps : (b : Expr) (sc : Scope) → ((u : Table) → KeepsRun (value w sc u b) (value v sc u (folded b))) → (x : ℕ) (u : Table) → KeepsRun (elim x [ zero ↦ value w sc u b | suc n ↦ gives (suc n) u ]) (elim x [ zero ↦ value v sc u (folded b) | suc n ↦ gives (suc n) u ])
  or_keeps b sc h zero u = h u
  or_keeps b sc h (suc n) u = refl

  mutual
    value_keeps : (e : Expr) (sc : Scope) (t : Table) → KeepsRun (value w sc t e) (value v sc t (folded e))
    value_keeps (num at n) sc t = refl
    value_keeps (truth at b) sc t = refl
    value_keeps (name at x) sc t = refl
    value_keeps (call at f es) sc t =
        bound (values w sc t es) (values v sc t (folded_args es)) _ _ (values_keep es sc t)
        (λ args u. subst (λ q. KeepsRun (called w (function_of w.program f) args u) (called v q args u)) (found f) (called_keeps (function_of w.program f) args u))
    value_keeps (unary at op a) sc t =
        to _ (value v sc t (unary at op (folded a))) _ (bound (value w sc t a) (value v sc t (folded a)) _ _ (value_keeps a sc t) (λ x u. refl))
        (unary_same v sc t at op (folded a) (constant (folded a)) refl)
    value_keeps (binary at op a b) sc t =
        to _ (value v sc t (binary at op (folded a) (folded b))) _
        (bound (value w sc t a) (value v sc t (folded a)) _ _ (value_keeps a sc t) (λ x u. bound (value w sc u b) (value v sc u (folded b)) _ _ (value_keeps b sc u) (λ y z. refl)))
        (binary_same v sc t at op (folded a) (folded b) (constant (folded a)) (constant (folded b)) refl refl)
    value_keeps (and at a b) sc t =
        to _ (value v sc t (and at (folded a) (folded b))) _ (bound (value w sc t a) (value v sc t (folded a)) _ _ (value_keeps a sc t) (and_keeps b sc (λ u. value_keeps b sc u)))
        (and_same v sc t at (folded a) (folded b) (constant (folded a)) refl)
    value_keeps (or at a b) sc t =
        to _ (value v sc t (or at (folded a) (folded b))) _ (bound (value w sc t a) (value v sc t (folded a)) _ _ (value_keeps a sc t) (or_keeps b sc (λ u. value_keeps b sc u)))
        (or_same v sc t at (folded a) (folded b) (constant (folded a)) refl)
    value_keeps (assign at l a) sc t = bound (value w sc t a) (value v sc t (folded a)) _ _ (value_keeps a sc t) (λ x u. refl)

    values_keep : (es : Args) (sc : Scope) (t : Table) → KeepsRun (values w sc t es) (values v sc t (folded_args es))
    values_keep no_args sc t = refl
    values_keep (arg e es) sc t =
        bound (value w sc t e) (value v sc t (folded e)) _ _ (value_keeps e sc t) (λ x u. bound (values w sc u es) (values v sc u (folded_args es)) _ _ (values_keep es sc u) (λ xs z. refl))

  -- a condition's value, and what it decides
  chosen : (r s p q : Run (Option ℕ)) → KeepsRun r s → KeepsRun p q → (x : ℕ) → KeepsRun (elim x [ zero ↦ r | suc n ↦ p ]) (elim x [ zero ↦ s | suc n ↦ q ])
  chosen r s p q h k zero = h
  chosen r s p q h k (suc n) = k

  then_keeps : (r : Option ℕ) (f g : Table → Run (Option ℕ)) (t : Table) → ((u : Table) → KeepsRun (f u) (g u)) → KeepsRun (then_next r f t) (then_next r g t)
  then_keeps None f g t h = h t
  then_keeps (Some x) f g t h = refl

  module _ (ca cb : Table → Run ℕ) (ba bb : Table → Run (Option ℕ)) (hc : (u : Table) → KeepsRun (ca u) (cb u)) (hb : (u : Table) → KeepsRun (ba u) (bb u)) where
    loop_keeps : (n : ℕ) (t : Table) → KeepsRun (loop ca ba n t) (loop cb bb n t)
    loop_keeps zero t = bound (ca t) (cb t) _ _ (hc t) (λ x u. chosen (gives None u) (gives None u) (stops More) (stops More) refl refl x)
    loop_keeps (suc n) t =
        bound (ca t) (cb t) _ _ (hc t) (λ x u. chosen (gives None u) (gives None u) (ba u >>= λ r z. then_next r (λ q. loop ca ba n q) z) _ refl
        (bound (ba u) (bb u) _ _ (hb u) (λ r z. then_keeps r (λ q. loop ca ba n q) (λ q. loop cb bb n q) z (λ q. loop_keeps n q))) x)

  mutual
    run_keeps : (s : Stmt) (sc : Scope) (t : Table) → KeepsRun (run w sc t s) (run v sc t (folded_stmt s))
    run_keeps (var at x ty e) sc t = bound (value w sc t e) (value v sc t (folded e)) _ _ (value_keeps e sc t) (λ y u. refl)
    run_keeps (if_only at c a) sc t =
        bound (value w sc t c) (value v sc t (folded c)) _ _ (value_keeps c sc t) (λ x u. chosen (gives None u) (gives None u) (run w sc u a) (run v sc u (folded_stmt a)) refl (run_keeps a sc u) x)
    run_keeps (if_else at c a b) sc t =
        bound (value w sc t c) (value v sc t (folded c)) _ _ (value_keeps c sc t)
        (λ x u. chosen (run w (past sc a) u b) (run v (past sc (folded_stmt a)) u (folded_stmt b)) (run w sc u a) (run v sc u (folded_stmt a))
        (to _ (run v (past sc a) u (folded_stmt b)) _ (run_keeps b (past sc a) u) (ap (λ q. run v q u (folded_stmt b)) (sym (past_same sc a)))) (run_keeps a sc u) x)
    run_keeps (stray_else at a) sc t = refl
    run_keeps (while at c a) sc t =
        to _ (loop (λ u. value v sc u (folded c)) (λ u. run v sc u (folded_stmt a)) w.turns t) _
        (loop_keeps (λ u. value w sc u c) (λ u. value v sc u (folded c)) (λ u. run w sc u a) (λ u. run v sc u (folded_stmt a)) (λ u. value_keeps c sc u) (λ u. run_keeps a sc u) w.turns t)
        (ap (λ n. loop (λ u. value v sc u (folded c)) (λ u. run v sc u (folded_stmt a)) n t) turns)
    run_keeps (return at e) sc t = bound (value w sc t e) (value v sc t (folded e)) _ _ (value_keeps e sc t) (λ x u. refl)
    run_keeps (block at ss) sc t = run_all_keep ss (inner sc) t
    run_keeps (eval e) sc t = bound (value w sc t e) (value v sc t (folded e)) _ _ (value_keeps e sc t) (λ x u. refl)
    run_keeps (print at e) sc t = bound (value w sc t e) (value v sc t (folded e)) _ _ (value_keeps e sc t) (λ x u. refl)

    run_all_keep : (ss : Stmts) (sc : Scope) (t : Table) → KeepsRun (run_all w sc t ss) (run_all v sc t (folded_stmts ss))
    run_all_keep no_stmts sc t = refl
    run_all_keep (stmt s ss) sc t =
        bound (run w sc t s) (run v sc t (folded_stmt s)) _ _ (run_keeps s sc t)
        (λ r u. then_keeps r (λ z. run_all w (behind sc s) z ss) (λ z. run_all v (behind sc (folded_stmt s)) z (folded_stmts ss)) u
        (λ z. to _ (run_all v (behind sc s) z (folded_stmts ss)) _ (run_all_keep ss (behind sc s) z) (ap (λ q. run_all v q z (folded_stmts ss)) (sym (behind_same sc s)))))

ended_printed : (r : Run (Option ℕ)) → (ended r).printed ≡ printed_by r
ended_printed (gave None t ns) = refl
ended_printed (gave (Some x) t ns) = refl
ended_printed (stopped s ns) = refl

ended_keeps : (r s : Run (Option ℕ)) → KeepsRun r s → Keeps (ended r) (ended s)
ended_keeps (gave None t ns) s h = ap ended (sym h)
ended_keeps (gave (Some x) t ns) s h = ap ended (sym h)
ended_keeps (stopped Deep ns) s h = subst (λ q. IsFront ns q) (sym (ended_printed s)) h
ended_keeps (stopped More ns) s h = ap ended (sym h)

-- a frame that doesn't fit, or one that does; then the folded one fits too
framed : (left left' bytes bytes' : ℕ) (o q : End) → left ≤ left' → bytes' ≤ bytes → (bytes ≤ left → Keeps o q) → (a b : Bool) → nat_lt left bytes ≡ a → nat_lt left' bytes' ≡ b
    → Keeps (elim a [ true ↦ ends_as (Stopped Deep) | false ↦ o ]) (elim b [ true ↦ ends_as (Stopped Deep) | false ↦ q ])
framed left left' bytes bytes' o q le small h true true ea eb = ([], refl)
framed left left' bytes bytes' o q le small h true false ea eb = (q.printed, refl)
framed left left' bytes bytes' o q le small h false true ea eb = absurd (omega (arith, ltb-false left bytes ea, ltb-true left' bytes' eb))
framed left left' bytes bytes' o q le small h false false ea eb = h (ltb-false left bytes ea)

table_same : (f : Function) (args : List ℕ) → new_table f args ≡ new_table (folded_function f) args
table_same f args = ap (λ n. args ++ replicate n 0) (sym (variables_same f.body))

call_keeps : (p : Program) (turns n left left' : ℕ) → left ≤ left' → (f : Function) (args : List ℕ) → Keeps (call_in p turns n left f args) (call_in (folded_program p) turns n left' (folded_function f) args)
call_keeps p turns zero left left' le f args =
    framed left left' (frame f).bytes (frame (folded_function f)).bytes (ends_as (Stopped More)) (ends_as (Stopped More)) le (frame_less f) (λ fits. refl) (nat_lt left (frame f).bytes) (nat_lt left' (frame (folded_function f)).bytes) refl refl
call_keeps p turns (suc n) left left' le f args =
    let g = folded_function f in
    let wa : World = record { program = p; turns = turns; calls = call_in p turns n (left - (frame f).bytes) } in
    let wb : World = record { program = folded_program p; turns = turns; calls = call_in (folded_program p) turns n (left' - (frame g).bytes) } in
    framed left left' (frame f).bytes (frame g).bytes _ _ le (frame_less f)
    (λ fits. ended_keeps (run wa (body_scope f) (new_table f args) f.body) (run wb (body_scope g) (new_table g args) g.body)
    (to _ (run wb (body_scope f) (new_table f args) g.body) _
    (run_keeps wa wb refl refl (λ h vs. call_keeps p turns n (left - (frame f).bytes) (left' - (frame g).bytes) (omega (arith, frame_less f)) h vs) f.body (body_scope f) (new_table f args))
    (ap (λ t. run wb (body_scope f) t g.body) (table_same f args))))
    (nat_lt left (frame f).bytes) (nat_lt left' (frame g).bytes) refl refl

main_keeps : (p : Program) (stack n : ℕ) (o : Option Function) → Keeps (main_in p stack n o) (main_in (folded_program p) stack n (option_map folded_function o))
main_keeps p stack n None = refl
main_keeps p stack n (Some f) = call_keeps p n n stack stack (omega arith) f []

pub meaning_keeps : (p : Program) (stack n : ℕ) → Keeps (meaning p stack n) (meaning (folded_program p) stack n)
meaning_keeps p stack n =
    subst (λ o. Keeps (meaning p stack n) (main_in (folded_program p) stack n o)) (sym (found_folded (codes "main") p)) (main_keeps p stack n (function_of p (codes "main")))

-- the same, outcome by outcome
pub ended_stays : (p : Program) (stack n v : ℕ) (out : List ℕ) → Means p stack n (Ended v) out → Means (folded_program p) stack n (Ended v) out
ended_stays p stack n v out h = subst (λ e. Keeps e (meaning (folded_program p) stack n)) h (meaning_keeps p stack n)

pub more_stays : (p : Program) (stack n : ℕ) (out : List ℕ) → Means p stack n (Stopped More) out → Means (folded_program p) stack n (Stopped More) out
more_stays p stack n out h = subst (λ e. Keeps e (meaning (folded_program p) stack n)) h (meaning_keeps p stack n)

pub deep_front : (p : Program) (stack n : ℕ) (out : List ℕ) → Means p stack n (Stopped Deep) out → IsFront out (meaning (folded_program p) stack n).printed
deep_front p stack n out h = subst (λ e. Keeps e (meaning (folded_program p) stack n)) h (meaning_keeps p stack n)
