-- A program without a fault of typing is one after folding: each folded expression has its expression's type.
use Rattle.std.proofs.Common.{◌≡◌, ℕ, zero, suc, ◌+◌, List, [], ◌∷◌, ◌++◌, Option, Some, None, Bool, true, false, refl, ap, ◌∙◌, subst}
use Rattle.std.specs.Prelude.{not, ◌&&◌, ◌==◌, option_map, length}
use Rattle.std.specs.List.{flat_map}
use Rattle.std.proofs.lemmas.Bool.{and_parts}
use Rattle.source_meaning.specs.declared.kinds.ValueType.{ValueType}
use Rattle.source_meaning.specs.declared.kinds.ValueType.TheVariants.{Int, Bool as BoolType}
use Rattle.source_meaning.specs.declared.kinds.UnaryOp.{UnaryOp}
use Rattle.source_meaning.specs.declared.kinds.UnaryOp.TheVariants.{Negate, LogicalNot, BitwiseNot}
use Rattle.source_meaning.specs.declared.kinds.BinaryOp.{BinaryOp}
use Rattle.source_meaning.specs.declared.kinds.BinaryOp.TheVariants.{Plus, Minus, Times, Divide, Remainder, BitwiseAnd, BitwiseOr, BitwiseXor, ShiftLeft, ShiftRight, Less, LessOrEqual, Greater, GreaterOrEqual, Equal, NotEqual}
use Rattle.source_meaning.specs.Ast.{Expr, num, truth, name, call, unary, binary, and, or, assign, Args, no_args, arg, Stmt, var, if_only, if_else, stray_else, while, return, block, eval, print, Param, Function, Program}
use Rattle.source_meaning.specs.Rows.{own_token}
use Rattle.source_meaning.specs.Operators.{flag, is_less, unary_value, binary_value}
use Rattle.source_meaning.specs.Scope.{Scope, function_of, an_expr, a_stmt, Site, site, expr_sites, args_sites, Fault, fault_if}
use Rattle.source_meaning.specs.Typing.{unary_operand, binary_type, group_of, given_type, type_of, is_same, takes, args_count, args_faults, call_faults, expr_fault, type_fault, type_faults}
use Rattle.folding.specs.Folding.{constant, constant_of, folded, folded_args, folded_unary, folded_binary, folded_and, folded_or, folded_stmt, folded_function, folded_program}
use Rattle.folding.proofs.Kept.{found_folded}
use Rattle.folding.proofs.Sites.{Free, nil_parts, nil_both, free_parts, free_both, free_one, one_free, own_sites, sites_free}

-- ---- faults and tests

none_true : (b : Bool) (at code : ℕ) → fault_if (not b) at code ≡ [] → b ≡ true
none_true true at code h = refl
none_true false at code h = absurd (cc)

true_none : (b : Bool) (at code : ℕ) → b ≡ true → fault_if (not b) at code ≡ []
true_none b at code h = ap (λ c. fault_if (not c) at code) h

same_is : (a b : ValueType) → is_same a b ≡ true → a ≡ b
same_is Int Int h = refl
same_is BoolType BoolType h = refl
same_is Int BoolType h = absurd (cc)
same_is BoolType Int h = absurd (cc)

same_self : (a : ValueType) → is_same a a ≡ true
same_self Int = refl
same_self BoolType = refl

given_same : (o : Option Function) → given_type (option_map folded_function o) ≡ given_type o
given_same None = refl
given_same (Some f) = refl

count_same : (es : Args) → args_count (folded_args es) ≡ args_count es
count_same no_args = refl
count_same (arg e es) = ap (λ n. n + 1) (count_same es)

module _ (p : Program) where
  abbrev before : Site → List Fault
  before s = type_fault p s s.part

  abbrev after : Site → List Fault
  after s = type_fault (folded_program p) s s.part

  module _ (sc : Scope) where
    -- the type of an expression as it stands, in the folded program
    type_stays : (e : Expr) → type_of (folded_program p) sc e ≡ type_of p sc e
    type_stays (num at v) = refl
    type_stays (truth at b) = refl
    type_stays (name at x) = refl
    type_stays (call at f es) = ap given_type (found_folded f p) ∙ given_same (function_of p f)
    type_stays (unary at op a) = refl
    type_stays (binary at op a b) = refl
    type_stays (and at a b) = refl
    type_stays (or at a b) = refl
    type_stays (assign at a b) = type_stays a

    -- the type of a folded expression, in the folded program
    abbrev Typed : Expr → ValueType → Type 0
    Typed e ty = type_of (folded_program p) sc e ≡ ty

    -- a constant truth value is that of a test
    constant_flag : (e : Expr) (x : ℕ) → constant e ≡ Some x → Typed e BoolType → (b : Bool) × (flag b ≡ x)
    constant_flag (num at v) x h k = absurd (cc)
    constant_flag (truth at b) x h k = let is : flag b ≡ x = cc in (b, is)
    constant_flag (name at y) x h k = absurd (cc)
    constant_flag (call at f es) x h k = absurd (cc)
    constant_flag (unary at op a) x h k = absurd (cc)
    constant_flag (binary at op a b) x h k = absurd (cc)
    constant_flag (and at a b) x h k = absurd (cc)
    constant_flag (or at a b) x h k = absurd (cc)
    constant_flag (assign at a b) x h k = absurd (cc)

    flag_typed : (at : ℕ) (b : Bool) → Typed (constant_of BoolType at (flag b)) BoolType
    flag_typed at true = refl
    flag_typed at false = refl

    not_typed : (at : ℕ) (b : Bool) → Typed (constant_of BoolType at (unary_value LogicalNot (flag b))) BoolType
    not_typed at true = refl
    not_typed at false = refl

    unary_made : (at : ℕ) (op : UnaryOp) (a : Expr) (x : ℕ) → constant a ≡ Some x → Typed a (unary_operand op) → Typed (constant_of (unary_operand op) at (unary_value op x)) (unary_operand op)
    unary_made at Negate a x h k = refl
    unary_made at LogicalNot a x h k = let f = constant_flag a x h k in subst (λ y. Typed (constant_of BoolType at (unary_value LogicalNot y)) BoolType) f.1 (not_typed at f.0)
    unary_made at BitwiseNot a x h k = refl

    binary_made : (at : ℕ) (op : BinaryOp) (x y : ℕ) → Typed (constant_of (binary_type (group_of op)) at (binary_value op x y)) (binary_type (group_of op))
    binary_made at Plus x y = refl
    binary_made at Minus x y = refl
    binary_made at Times x y = refl
    binary_made at Divide x y = refl
    binary_made at Remainder x y = refl
    binary_made at BitwiseAnd x y = refl
    binary_made at BitwiseOr x y = refl
    binary_made at BitwiseXor x y = refl
    binary_made at ShiftLeft x y = refl
    binary_made at ShiftRight x y = refl
    binary_made at Less x y = flag_typed at (is_less x y)
    binary_made at LessOrEqual x y = flag_typed at (not (is_less y x))
    binary_made at Greater x y = flag_typed at (is_less y x)
    binary_made at GreaterOrEqual x y = flag_typed at (not (is_less x y))
    binary_made at Equal x y = flag_typed at (x == y)
    binary_made at NotEqual x y = flag_typed at (not (x == y))

    module _ (g : ValueType) where
      -- no fault in the folded program, and of this type
      abbrev Clean : ℕ → Expr → ValueType → Type 0
      Clean d e ty = Free after (expr_sites g sc d e) × Typed e ty

      made_free : (d : ℕ) (ty : ValueType) (at x : ℕ) → Free after (expr_sites g sc d (constant_of ty at x))
      made_free d Int at x = refl
      made_free d BoolType at zero = refl
      made_free d BoolType at (suc zero) = refl
      made_free d BoolType at (suc (suc n)) = refl

      unary_clean : (d at : ℕ) (op : UnaryOp) (a : Expr) (o : Option ℕ) → constant a ≡ o → Clean d a (unary_operand op) → Clean d (folded_unary at op a o) (unary_operand op)
      unary_clean d at op a None e h = (
        free_both after (expr_sites g sc d a) _ h.0
            (free_one after (site g sc (Some d) (an_expr (unary at op a))) (true_none (is_same (type_of (folded_program p) sc a) (unary_operand op)) at 501 (ap (λ t. is_same t (unary_operand op)) h.1 ∙ same_self (unary_operand op)))),
        refl,
      )
      unary_clean d at op a (Some x) e h = (made_free d (unary_operand op) at (unary_value op x), unary_made at op a x e h.1)

      binary_kept : (d at : ℕ) (op : BinaryOp) (a b : Expr) (ta tb : ValueType) → takes (group_of op) ta tb ≡ true → Clean d a ta → Clean (suc d) b tb → Clean d (binary at op a b) (binary_type (group_of op))
      binary_kept d at op a b ta tb e h k = (
        free_both after (expr_sites g sc d a) _ h.0
            (free_both after (expr_sites g sc (suc d) b) _ k.0
            (free_one after (site g sc (Some d) (an_expr (binary at op a b))) (true_none (takes (group_of op) (type_of (folded_program p) sc a) (type_of (folded_program p) sc b)) at 501
            ((λ i. takes (group_of op) (h.1 i) (k.1 i)) ∙ e)))),
        refl,
      )

      binary_clean : (d at : ℕ) (op : BinaryOp) (a b : Expr) (ta tb : ValueType) (o q : Option ℕ) → takes (group_of op) ta tb ≡ true → Clean d a ta → Clean (suc d) b tb → Clean d (folded_binary at op a b o q) (binary_type (group_of op))
      binary_clean d at op a b ta tb None q e h k = binary_kept d at op a b ta tb e h k
      binary_clean d at op a b ta tb (Some x) None e h k = binary_kept d at op a b ta tb e h k
      binary_clean d at op a b ta tb (Some x) (Some y) e h k = (made_free d (binary_type (group_of op)) at (binary_value op x y), binary_made at op x y)

      both_truths : (a b : Expr) (at : ℕ) → Typed a BoolType → Typed b BoolType → fault_if (not (is_same (type_of (folded_program p) sc a) BoolType && is_same (type_of (folded_program p) sc b) BoolType)) at 501 ≡ []
      both_truths a b at h k = λ i. fault_if (not (is_same (h i) BoolType && is_same (k i) BoolType)) at 501

      and_clean : (d at : ℕ) (a b : Expr) (o : Option ℕ) → Clean d a BoolType → Clean d b BoolType → Clean d (folded_and at a b o) BoolType
      and_clean d at a b None h k = (
        free_both after (expr_sites g sc d a) _ h.0
            (free_both after (expr_sites g sc d b) _ k.0 (free_one after (site g sc (Some d) (an_expr (and at a b))) (both_truths a b at h.1 k.1))),
        refl,
      )
      and_clean d at a b (Some zero) h k = (refl, refl)
      and_clean d at a b (Some (suc n)) h k = k

      or_clean : (d at : ℕ) (a b : Expr) (o : Option ℕ) → constant a ≡ o → Clean d a BoolType → Clean d b BoolType → Clean d (folded_or at a b o) BoolType
      or_clean d at a b None e h k = (
        free_both after (expr_sites g sc d a) _ h.0
            (free_both after (expr_sites g sc d b) _ k.0 (free_one after (site g sc (Some d) (an_expr (or at a b))) (both_truths a b at h.1 k.1))),
        refl,
      )
      or_clean d at a b (Some zero) e h k = k
      or_clean d at a b (Some (suc n)) e h k =
          (made_free d BoolType at (suc n), let f = constant_flag a (suc n) e h.1 in subst (λ x. Typed (constant_of BoolType at x) BoolType) f.1 (flag_typed at f.0))

      -- ---- calls

      abbrev AreTyped : Args → Type 0
      AreTyped no_args = Unit {0}
      AreTyped (arg e es) = Typed (folded e) (type_of p sc e) × AreTyped es

      args_clean : (es : Args) (qs : List Param) → AreTyped es → args_faults p sc es qs ≡ [] → args_faults (folded_program p) sc (folded_args es) qs ≡ []
      args_clean no_args qs h k = refl
      args_clean (arg e es) [] h k = refl
      args_clean (arg e es) (q ∷ qs) h k =
          let r = nil_parts (fault_if (not (is_same (type_of p sc e) q.type)) (own_token e) 503) (args_faults p sc es qs) k in
          nil_both (fault_if (not (is_same (type_of (folded_program p) sc (folded e)) q.type)) (own_token (folded e)) 503) _
          (true_none (is_same (type_of (folded_program p) sc (folded e)) q.type) (own_token (folded e)) 503
          (ap (λ t. is_same t q.type) h.0 ∙ none_true (is_same (type_of p sc e) q.type) (own_token e) 503 r.0))
          (args_clean es qs h.1 r.1)

      call_clean : (at : ℕ) (es : Args) (o : Option Function) → AreTyped es → call_faults p sc at es o ≡ [] → call_faults (folded_program p) sc at (folded_args es) (option_map folded_function o) ≡ []
      call_clean at es None h k = refl
      call_clean at es (Some f) h k =
          let r = nil_parts (fault_if (not (args_count es == length f.params)) at 502) (args_faults p sc es f.params) k in
          nil_both (fault_if (not (args_count (folded_args es) == length f.params)) at 502) _ (ap (λ n. fault_if (not (n == length f.params)) at 502) (count_same es) ∙ r.0) (args_clean es f.params h r.1)

      -- the same of arguments as they stand, which those of a call left of an assignment are
      args_stay : (es : Args) (qs : List Param) → args_faults (folded_program p) sc es qs ≡ args_faults p sc es qs
      args_stay no_args qs = refl
      args_stay (arg e es) [] = refl
      args_stay (arg e es) (q ∷ qs) = λ i. fault_if (not (is_same (type_stays e i) q.type)) (own_token e) 503 ++ args_stay es qs i

      call_stays : (at : ℕ) (es : Args) (o : Option Function) → call_faults (folded_program p) sc at es (option_map folded_function o) ≡ call_faults p sc at es o
      call_stays at es None = refl
      call_stays at es (Some f) = ap (λ fs. fault_if (not (args_count es == length f.params)) at 502 ++ fs) (args_stay es f.params)

      left_stays : (a : Expr) → expr_fault (folded_program p) sc a ≡ expr_fault p sc a
      left_stays (num at v) = refl
      left_stays (truth at b) = refl
      left_stays (name at x) = refl
      left_stays (call at f es) = ap (λ o. call_faults (folded_program p) sc at es o) (found_folded f p) ∙ call_stays at es (function_of p f)
      left_stays (unary at op a) = ap (λ t. fault_if (not (is_same t (unary_operand op))) at 501) (type_stays a)
      left_stays (binary at op a b) = λ i. fault_if (not (takes (group_of op) (type_stays a i) (type_stays b i))) at 501
      left_stays (and at a b) = λ i. fault_if (not (is_same (type_stays a i) BoolType && is_same (type_stays b i) BoolType)) at 501
      left_stays (or at a b) = λ i. fault_if (not (is_same (type_stays a i) BoolType && is_same (type_stays b i) BoolType)) at 501
      left_stays (assign at a b) = λ i. fault_if (not (is_same (type_stays a i) (type_stays b i))) at 506

      -- what two operands of And and Or have to be
      truths : (a b : Expr) (at : ℕ) → fault_if (not (is_same (type_of p sc a) BoolType && is_same (type_of p sc b) BoolType)) at 501 ≡ [] → (type_of p sc a ≡ BoolType) × (type_of p sc b ≡ BoolType)
      truths a b at h =
          let q = and_parts (is_same (type_of p sc a) BoolType) (is_same (type_of p sc b) BoolType) (none_true (is_same (type_of p sc a) BoolType && is_same (type_of p sc b) BoolType) at 501 h) in
          (same_is (type_of p sc a) BoolType q.0, same_is (type_of p sc b) BoolType q.1)

      mutual
        expr_clean : (e : Expr) (d : ℕ) → Free before (expr_sites g sc d e) → Clean d (folded e) (type_of p sc e)
        expr_clean (num at v) d h = (refl, refl)
        expr_clean (truth at b) d h = (refl, refl)
        expr_clean (name at x) d h = (refl, refl)
        expr_clean (call at f es) d h =
            let q = free_parts before (args_sites g sc d es) (site g sc (Some d) (an_expr (call at f es)) ∷ []) h in
            let r = args_typed es d q.0 in (
              free_both after (args_sites g sc d (folded_args es)) _ r.0
                  (free_one after (site g sc (Some d) (an_expr (call at f (folded_args es))))
                  (ap (λ o. call_faults (folded_program p) sc at (folded_args es) o) (found_folded f p) ∙ call_clean at es (function_of p f) r.1 (one_free before (site g sc (Some d) (an_expr (call at f es))) q.1))),
              type_stays (call at f es),
            )
        expr_clean (unary at op a) d h =
            let q = free_parts before (expr_sites g sc d a) (site g sc (Some d) (an_expr (unary at op a)) ∷ []) h in
            let is = same_is (type_of p sc a) (unary_operand op) (none_true (is_same (type_of p sc a) (unary_operand op)) at 501 (one_free before (site g sc (Some d) (an_expr (unary at op a))) q.1)) in
            unary_clean d at op (folded a) (constant (folded a)) refl (subst (λ t. Clean d (folded a) t) is (expr_clean a d q.0))
        expr_clean (binary at op a b) d h =
            let q = free_parts before (expr_sites g sc d a) (expr_sites g sc (suc d) b ++ site g sc (Some d) (an_expr (binary at op a b)) ∷ []) h in
            let r = free_parts before (expr_sites g sc (suc d) b) (site g sc (Some d) (an_expr (binary at op a b)) ∷ []) q.1 in
            binary_clean d at op (folded a) (folded b) (type_of p sc a) (type_of p sc b) (constant (folded a)) (constant (folded b))
            (none_true (takes (group_of op) (type_of p sc a) (type_of p sc b)) at 501 (one_free before (site g sc (Some d) (an_expr (binary at op a b))) r.1)) (expr_clean a d q.0) (expr_clean b (suc d) r.0)
        expr_clean (and at a b) d h =
            let q = free_parts before (expr_sites g sc d a) (expr_sites g sc d b ++ site g sc (Some d) (an_expr (and at a b)) ∷ []) h in
            let r = free_parts before (expr_sites g sc d b) (site g sc (Some d) (an_expr (and at a b)) ∷ []) q.1 in
            let are = truths a b at (one_free before (site g sc (Some d) (an_expr (and at a b))) r.1) in
            and_clean d at (folded a) (folded b) (constant (folded a)) (subst (λ t. Clean d (folded a) t) are.0 (expr_clean a d q.0)) (subst (λ t. Clean d (folded b) t) are.1 (expr_clean b d r.0))
        expr_clean (or at a b) d h =
            let q = free_parts before (expr_sites g sc d a) (expr_sites g sc d b ++ site g sc (Some d) (an_expr (or at a b)) ∷ []) h in
            let r = free_parts before (expr_sites g sc d b) (site g sc (Some d) (an_expr (or at a b)) ∷ []) q.1 in
            let are = truths a b at (one_free before (site g sc (Some d) (an_expr (or at a b))) r.1) in
            or_clean d at (folded a) (folded b) (constant (folded a)) refl (subst (λ t. Clean d (folded a) t) are.0 (expr_clean a d q.0)) (subst (λ t. Clean d (folded b) t) are.1 (expr_clean b d r.0))
        expr_clean (assign at a b) d h =
            let q = nil_parts (before (site g sc None (an_expr a))) (flat_map before (expr_sites g sc d b ++ site g sc (Some d) (an_expr (assign at a b)) ∷ [])) h in
            let r = free_parts before (expr_sites g sc d b) (site g sc (Some d) (an_expr (assign at a b)) ∷ []) q.1 in
            let k = expr_clean b d r.0 in (
              nil_both (after (site g sc None (an_expr a))) _ (left_stays a ∙ q.0)
                  (free_both after (expr_sites g sc d (folded b)) _ k.0
                  (free_one after (site g sc (Some d) (an_expr (assign at a (folded b))))
                  ((λ i. fault_if (not (is_same (type_stays a i) (k.1 i))) at 506) ∙ one_free before (site g sc (Some d) (an_expr (assign at a b))) r.1))),
              type_stays a,
            )

        args_typed : (es : Args) (d : ℕ) → Free before (args_sites g sc d es) → Free after (args_sites g sc d (folded_args es)) × AreTyped es
        args_typed no_args d h = (refl, tt)
        args_typed (arg e es) d h =
            let q = free_parts before (expr_sites g sc d e) (args_sites g sc (suc d) es) h in
            let k = expr_clean e d q.0 in
            let ks = args_typed es (suc d) q.1 in
            (free_both after (expr_sites g sc d (folded e)) _ k.0 ks.0, (k.1, ks.1))

      own_clean : (s : Stmt) → Free before (own_sites g sc s) → before (site g sc None (a_stmt s)) ≡ [] → after (site g sc None (a_stmt (folded_stmt s))) ≡ []
      own_clean (var at x ty e) h k = ap (λ t. fault_if (not (is_same t ty)) at 506) (expr_clean e 0 h).1 ∙ k
      own_clean (if_only at c a) h k = ap (λ t. fault_if (not (is_same t BoolType)) at 504) (expr_clean c 0 h).1 ∙ k
      own_clean (if_else at c a b) h k = ap (λ t. fault_if (not (is_same t BoolType)) at 504) (expr_clean c 0 h).1 ∙ k
      own_clean (stray_else at a) h k = refl
      own_clean (while at c a) h k = ap (λ t. fault_if (not (is_same t BoolType)) at 504) (expr_clean c 0 h).1 ∙ k
      own_clean (return at e) h k = ap (λ t. fault_if (not (is_same t g)) at 505) (expr_clean e 0 h).1 ∙ k
      own_clean (block at ss) h k = refl
      own_clean (eval e) h k = refl
      own_clean (print at e) h k = ap (λ t. fault_if (not (is_same t Int)) at 507) (expr_clean e 0 h).1 ∙ k

  pub type_clean : type_faults p ≡ [] → type_faults (folded_program p) ≡ []
  type_clean = sites_free before after (λ g sc d e h. (expr_clean sc g e d h).0) (λ g sc s h k. own_clean sc g s h k) (λ g sc q h. refl) (λ g f. refl) refl p
