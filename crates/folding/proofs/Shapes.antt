-- A program without a fault of shape is one after folding.
use Rattle.std.proofs.Common.{◌≡◌, ℕ, zero, suc, [], ◌∷◌, ◌++◌, Option, Some, None, refl}
use Rattle.std.specs.Prelude.{not, true}
use Rattle.source_meaning.specs.declared.kinds.ValueType.{ValueType}
use Rattle.source_meaning.specs.declared.kinds.ValueType.TheVariants.{Int, Bool as BoolType}
use Rattle.source_meaning.specs.declared.kinds.UnaryOp.{UnaryOp}
use Rattle.source_meaning.specs.declared.kinds.BinaryOp.{BinaryOp}
use Rattle.source_meaning.specs.Ast.{Expr, num, truth, name, call, unary, binary, and, or, assign, Args, no_args, arg, Stmt, var, if_only, if_else, stray_else, while, return, block, eval, print, Stmts, no_stmts, stmt, Program}
use Rattle.source_meaning.specs.Operators.{unary_value, binary_value}
use Rattle.source_meaning.specs.Typing.{unary_operand, binary_type, group_of}
use Rattle.source_meaning.specs.Scope.{fault_if}
use Rattle.source_meaning.specs.Shape.{is_name, expr_shape, args_shape, stmt_shape, stmts_shape, params_shape, shape_faults}
use Rattle.folding.specs.Folding.{constant, constant_of, folded, folded_args, folded_unary, folded_binary, folded_and, folded_or, folded_stmt, folded_stmts, folded_program}
use Rattle.folding.proofs.Sites.{nil_parts, nil_both}

made_shape : (ty : ValueType) (at x : ℕ) → expr_shape (constant_of ty at x) ≡ []
made_shape Int at x = refl
made_shape BoolType at zero = refl
made_shape BoolType at (suc zero) = refl
made_shape BoolType at (suc (suc n)) = refl

unary_shape : (at : ℕ) (op : UnaryOp) (a : Expr) (o : Option ℕ) → expr_shape a ≡ [] → expr_shape (folded_unary at op a o) ≡ []
unary_shape at op a None h = h
unary_shape at op a (Some x) h = made_shape (unary_operand op) at (unary_value op x)

binary_shape : (at : ℕ) (op : BinaryOp) (a b : Expr) (o q : Option ℕ) → expr_shape a ≡ [] → expr_shape b ≡ [] → expr_shape (folded_binary at op a b o q) ≡ []
binary_shape at op a b None q h k = nil_both (expr_shape a) (expr_shape b) h k
binary_shape at op a b (Some x) None h k = nil_both (expr_shape a) (expr_shape b) h k
binary_shape at op a b (Some x) (Some y) h k = made_shape (binary_type (group_of op)) at (binary_value op x y)

and_shape : (at : ℕ) (a b : Expr) (o : Option ℕ) → expr_shape a ≡ [] → expr_shape b ≡ [] → expr_shape (folded_and at a b o) ≡ []
and_shape at a b None h k = nil_both (expr_shape a) (expr_shape b) h k
and_shape at a b (Some zero) h k = refl
and_shape at a b (Some (suc n)) h k = k

or_shape : (at : ℕ) (a b : Expr) (o : Option ℕ) → expr_shape a ≡ [] → expr_shape b ≡ [] → expr_shape (folded_or at a b o) ≡ []
or_shape at a b None h k = nil_both (expr_shape a) (expr_shape b) h k
or_shape at a b (Some zero) h k = k
or_shape at a b (Some (suc n)) h k = made_shape BoolType at (suc n)

mutual
  expr_clean : (e : Expr) → expr_shape e ≡ [] → expr_shape (folded e) ≡ []
  expr_clean (num at v) h = refl
  expr_clean (truth at b) h = refl
  expr_clean (name at x) h = refl
  expr_clean (call at f es) h = args_clean es h
  expr_clean (unary at op a) h = unary_shape at op (folded a) (constant (folded a)) (expr_clean a h)
  expr_clean (binary at op a b) h =
      let q = nil_parts (expr_shape a) (expr_shape b) h in binary_shape at op (folded a) (folded b) (constant (folded a)) (constant (folded b)) (expr_clean a q.0) (expr_clean b q.1)
  expr_clean (and at a b) h = let q = nil_parts (expr_shape a) (expr_shape b) h in and_shape at (folded a) (folded b) (constant (folded a)) (expr_clean a q.0) (expr_clean b q.1)
  expr_clean (or at a b) h = let q = nil_parts (expr_shape a) (expr_shape b) h in or_shape at (folded a) (folded b) (constant (folded a)) (expr_clean a q.0) (expr_clean b q.1)
  expr_clean (assign at a b) h =
      let q = nil_parts (expr_shape a) (expr_shape b ++ fault_if (not (is_name a)) at 302) h in
      let r = nil_parts (expr_shape b) (fault_if (not (is_name a)) at 302) q.1 in
      nil_both (expr_shape a) _ q.0 (nil_both (expr_shape (folded b)) _ (expr_clean b r.0) r.1)

  args_clean : (es : Args) → args_shape es ≡ [] → args_shape (folded_args es) ≡ []
  args_clean no_args h = refl
  args_clean (arg e es) h = let q = nil_parts (expr_shape e) (args_shape es) h in nil_both (expr_shape (folded e)) _ (expr_clean e q.0) (args_clean es q.1)

mutual
  stmt_clean : (s : Stmt) → stmt_shape s ≡ [] → stmt_shape (folded_stmt s) ≡ []
  stmt_clean (var at x ty e) h = expr_clean e h
  stmt_clean (if_only at c a) h = let q = nil_parts (expr_shape c) (stmt_shape a) h in nil_both (expr_shape (folded c)) _ (expr_clean c q.0) (stmt_clean a q.1)
  stmt_clean (if_else at c a b) h =
      let q = nil_parts (expr_shape c) (stmt_shape a ++ stmt_shape b) h in
      let r = nil_parts (stmt_shape a) (stmt_shape b) q.1 in
      nil_both (expr_shape (folded c)) _ (expr_clean c q.0) (nil_both (stmt_shape (folded_stmt a)) _ (stmt_clean a r.0) (stmt_clean b r.1))
  stmt_clean (stray_else at a) h =
      let q = nil_parts (stmt_shape a) (fault_if true at 301) h in nil_both (stmt_shape (folded_stmt a)) _ (stmt_clean a q.0) q.1
  stmt_clean (while at c a) h = let q = nil_parts (expr_shape c) (stmt_shape a) h in nil_both (expr_shape (folded c)) _ (expr_clean c q.0) (stmt_clean a q.1)
  stmt_clean (return at e) h = expr_clean e h
  stmt_clean (block at ss) h = stmts_clean ss h
  stmt_clean (eval e) h = expr_clean e h
  stmt_clean (print at e) h = expr_clean e h

  stmts_clean : (ss : Stmts) → stmts_shape ss ≡ [] → stmts_shape (folded_stmts ss) ≡ []
  stmts_clean no_stmts h = refl
  stmts_clean (stmt s ss) h = let q = nil_parts (stmt_shape s) (stmts_shape ss) h in nil_both (stmt_shape (folded_stmt s)) _ (stmt_clean s q.0) (stmts_clean ss q.1)

pub shape_clean : (p : Program) → shape_faults p ≡ [] → shape_faults (folded_program p) ≡ []
shape_clean [] h = refl
shape_clean (f ∷ fs) h =
    let q = nil_parts (params_shape f.params ++ stmt_shape f.body) (shape_faults fs) h in
    let r = nil_parts (params_shape f.params) (stmt_shape f.body) q.0 in
    nil_both (params_shape f.params ++ stmt_shape (folded_stmt f.body)) _ (nil_both (params_shape f.params) _ r.0 (stmt_clean f.body r.1)) (shape_clean fs q.1)
