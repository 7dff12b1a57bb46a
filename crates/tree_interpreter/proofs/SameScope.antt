-- What a tree does rests on the names in scope and their numbers alone.
use Rattle.std.proofs.Common.{◌≡◌, ℕ, zero, suc, ◌+◌, List, ◌∷◌, map, Option, Some, None, option_map, slice_set, refl, sym, ap, ◌∙◌}
use Rattle.source_meaning.specs.Ast.{Expr, num, truth, name, call, unary, binary, and, or, assign, Args, no_args, arg, Stmt, var, if_only, if_else, stray_else, while, return, block, eval, print, Stmts, no_stmts, stmt}
use Rattle.source_meaning.specs.Scope.{Scope, variable_of, past, behind, inner, variables_in}
use Rattle.source_meaning.specs.Meaning.{Run, gave, stopped, behind_all, gives, stops, More, ◌>>=◌, Table, World, value, values, run, run_all, loop, then_next, target, value_in, stored_in}
use Rattle.tree_interpreter.specs.Running.{name_of, number_named, value_numbered, stored_numbered}
use Rattle.tree_interpreter.proofs.Named.{named_number, value_by_number, stored_by_number}

alike : {A B : Type 0} (r s : Run A) (f g : A → Table → Run B) → r ≡ s → ((x : A) (t : Table) → f x t ≡ g x t) → (r >>= f) ≡ (s >>= g)
alike r s f g same h = ap (λ q. q >>= f) same ∙ go s
  where
    go : (q : _) → (q >>= f) ≡ (q >>= g)
    go (gave x t ns) = ap (behind_all ns) (h x t)
    go (stopped e ns) = refl

-- the same names with the same numbers
abbrev Names : Scope → Scope → Type 0
Names sc sd = map name_of sc.variables ≡ map name_of sd.variables

numbers : (sc sd : Scope) (x : List ℕ) → Names sc sd → option_map (λ v. v.number) (variable_of sc x) ≡ option_map (λ v. v.number) (variable_of sd x)
numbers sc sd x h = sym (named_number x sc.variables) ∙ ap (λ ns. number_named ns x) h ∙ named_number x sd.variables

found : (sc sd : Scope) (x : List ℕ) (t : Table) → Names sc sd → value_in (variable_of sc x) t ≡ value_in (variable_of sd x) t
found sc sd x t h = value_by_number (variable_of sc x) t ∙ ap (λ n. value_numbered n t) (numbers sc sd x h) ∙ sym (value_by_number (variable_of sd x) t)

stored : (sc sd : Scope) (x : List ℕ) (y : ℕ) (t : Table) → Names sc sd → stored_in (variable_of sc x) y t ≡ stored_in (variable_of sd x) y t
stored sc sd x y t h = stored_by_number (variable_of sc x) y t ∙ ap (λ n. stored_numbered n y t) (numbers sc sd x h) ∙ sym (stored_by_number (variable_of sd x) y t)

aimed : (sc sd : Scope) (e : Expr) (y : ℕ) (t : Table) → Names sc sd → stored_in (target sc e) y t ≡ stored_in (target sd e) y t
aimed sc sd (num at v) y t h = refl
aimed sc sd (truth at b) y t h = refl
aimed sc sd (name at x) y t h = stored sc sd x y t h
aimed sc sd (call at f es) y t h = refl
aimed sc sd (unary at op a) y t h = refl
aimed sc sd (binary at op a b) y t h = refl
aimed sc sd (and at a b) y t h = refl
aimed sc sd (or at a b) y t h = refl
aimed sc sd (assign at a b) y t h = refl

unless : {A : Type 0} (x : ℕ) (a b c : Run A) → b ≡ c → ◌≡◌ {A = Run A} (elim x [ zero ↦ a | suc n ↦ b ]) (elim x [ zero ↦ a | suc n ↦ c ])
unless zero a b c h = refl
unless (suc n) a b c h = h

either : (x : ℕ) (t : Table) (a b : Run ℕ) → a ≡ b → ◌≡◌ {A = Run ℕ} (elim x [ zero ↦ a | suc n ↦ gives (suc n) t ]) (elim x [ zero ↦ b | suc n ↦ gives (suc n) t ])
either zero t a b h = h
either (suc n) t a b h = refl

branches : (x : ℕ) (a b c d : Run (Option ℕ)) → a ≡ c → b ≡ d → ◌≡◌ {A = Run (Option ℕ)} (elim x [ zero ↦ a | suc n ↦ b ]) (elim x [ zero ↦ c | suc n ↦ d ])
branches zero a b c d h k = h
branches (suc n) a b c d h k = k

mutual
  pub value_alike : (w : World) (e : Expr) (sc sd : Scope) (t : Table) → Names sc sd → value w sc t e ≡ value w sd t e
  value_alike w (num at v) sc sd t h = refl
  value_alike w (truth at b) sc sd t h = refl
  value_alike w (name at x) sc sd t h = ap (λ v. gives v t) (found sc sd x t h)
  value_alike w (call at f es) sc sd t h = alike _ _ _ _ (values_alike w es sc sd t h) (λ vs u. refl)
  value_alike w (unary at op a) sc sd t h = alike _ _ _ _ (value_alike w a sc sd t h) (λ x u. refl)
  value_alike w (binary at op a b) sc sd t h = alike _ _ _ _ (value_alike w a sc sd t h) (λ x u. alike _ _ _ _ (value_alike w b sc sd u h) (λ y v. refl))
  value_alike w (and at a b) sc sd t h = alike _ _ _ _ (value_alike w a sc sd t h) (λ x u. unless x (gives zero u) (value w sc u b) (value w sd u b) (value_alike w b sc sd u h))
  value_alike w (or at a b) sc sd t h = alike _ _ _ _ (value_alike w a sc sd t h) (λ x u. either x u (value w sc u b) (value w sd u b) (value_alike w b sc sd u h))
  value_alike w (assign at a b) sc sd t h = alike _ _ _ _ (value_alike w b sc sd t h) (λ x u. ap (λ v. gives x v) (aimed sc sd a x u h))

  values_alike : (w : World) (es : Args) (sc sd : Scope) (t : Table) → Names sc sd → values w sc t es ≡ values w sd t es
  values_alike w no_args sc sd t h = refl
  values_alike w (arg e es) sc sd t h = alike _ _ _ _ (value_alike w e sc sd t h) (λ x u. alike _ _ _ _ (values_alike w es sc sd u h) (λ xs v. refl))

next_alike : (r : Option ℕ) (f g : Table → Run (Option ℕ)) (t : Table) → ((u : Table) → f u ≡ g u) → then_next r f t ≡ then_next r g t
next_alike None f g t h = h t
next_alike (Some v) f g t h = refl

looped : (x : ℕ) (u : Table) (a b : Run (Option ℕ)) → a ≡ b → ◌≡◌ {A = Run (Option ℕ)} (elim x [ zero ↦ gives None u | suc k ↦ a ]) (elim x [ zero ↦ gives None u | suc k ↦ b ])
looped zero u a b h = refl
looped (suc n) u a b h = h

pub loop_alike : (c d : Table → Run ℕ) (a b : Table → Run (Option ℕ)) → ((t : Table) → c t ≡ d t) → ((t : Table) → a t ≡ b t) → (n : ℕ) (t : Table) → loop c a n t ≡ loop d b n t
loop_alike c d a b h k zero t = ap (λ q. q >>= λ x u. elim x [ zero ↦ gives None u | suc j ↦ stops More ]) (h t)
loop_alike c d a b h k (suc n) t = turn (loop_alike c d a b h k n)
  where
    turn : ((u : Table) → loop c a n u ≡ loop d b n u) → loop c a (suc n) t ≡ loop d b (suc n) t
    turn again = alike _ _ _ _ (h t) (λ x u. looped x u _ _ (alike _ _ _ _ (k u) (λ r v. next_alike r _ _ v again)))

-- the same names, and as many declared
abbrev pub Same : Scope → Scope → Type 0
Same sc sd = (map name_of sc.variables ≡ map name_of sd.variables) × (sc.next ≡ sd.next)

past_alike : (sc sd : Scope) (s : Stmt) → Same sc sd → Same (past sc s) (past sd s)
past_alike sc sd s (h, k) = (h, ap (λ n. n + variables_in s) k)

behind_alike : (sc sd : Scope) (s : Stmt) → Same sc sd → Same (behind sc s) (behind sd s)
behind_alike sc sd (var at x ty e) (h, k) = ((λ i. (x, k i) ∷ h i), ap (λ n. n + 1) k)
behind_alike sc sd (if_only at c a) h = past_alike sc sd (if_only at c a) h
behind_alike sc sd (if_else at c a b) h = past_alike sc sd (if_else at c a b) h
behind_alike sc sd (stray_else at a) h = past_alike sc sd (stray_else at a) h
behind_alike sc sd (while at c a) h = past_alike sc sd (while at c a) h
behind_alike sc sd (return at e) h = past_alike sc sd (return at e) h
behind_alike sc sd (block at ss) h = past_alike sc sd (block at ss) h
behind_alike sc sd (eval e) h = past_alike sc sd (eval e) h
behind_alike sc sd (print at e) h = past_alike sc sd (print at e) h

mutual
  pub run_alike : (w : World) (s : Stmt) (sc sd : Scope) (t : Table) → Same sc sd → run w sc t s ≡ run w sd t s
  run_alike w (var at x ty e) sc sd t (h, k) = alike _ _ _ _ (value_alike w e sc sd t h) (λ y u. ap (λ n. gives None (slice_set u n y)) k)
  run_alike w (if_only at c a) sc sd t h = alike _ _ _ _ (value_alike w c sc sd t h.0) (λ x u. branches x _ _ _ _ refl (run_alike w a sc sd u h))
  run_alike w (if_else at c a b) sc sd t h = alike _ _ _ _ (value_alike w c sc sd t h.0) (λ x u. branches x _ _ _ _ (run_alike w b (past sc a) (past sd a) u (past_alike sc sd a h)) (run_alike w a sc sd u h))
  run_alike w (stray_else at a) sc sd t h = refl
  run_alike w (while at c a) sc sd t h = loop_alike _ _ _ _ (λ u. value_alike w c sc sd u h.0) (λ u. run_alike w a sc sd u h) w.turns t
  run_alike w (return at e) sc sd t h = alike _ _ _ _ (value_alike w e sc sd t h.0) (λ x u. refl)
  run_alike w (block at ss) sc sd t h = run_all_alike w ss (inner sc) (inner sd) t h
  run_alike w (eval e) sc sd t h = alike _ _ _ _ (value_alike w e sc sd t h.0) (λ x u. refl)
  run_alike w (print at e) sc sd t h = alike _ _ _ _ (value_alike w e sc sd t h.0) (λ x u. refl)

  pub run_all_alike : (w : World) (ss : Stmts) (sc sd : Scope) (t : Table) → Same sc sd → run_all w sc t ss ≡ run_all w sd t ss
  run_all_alike w no_stmts sc sd t h = refl
  run_all_alike w (stmt s ss) sc sd t h = alike _ _ _ _ (run_alike w s sc sd t h) (λ r u. next_alike r _ _ u (λ z. run_all_alike w ss (behind sc s) (behind sd s) z (behind_alike sc sd s h)))
