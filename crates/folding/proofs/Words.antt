-- The value of an operator on words is a word, so the numbers of a folded program are words where the program's are.
use Rattle.std.proofs.Common.{ℕ, zero, suc, ◌≡◌, ◌-◌, ◌%◌, ◌^◌, ◌<◌, ℤ, pos, negsuc, [], ◌∷◌, Option, Some, None, Bool, true, false, refl, arith}
use Rattle.std.specs.Prelude.{if◌then◌else◌, ◌==◌, not, ◌/◌, ltb, int_div, int_rem}
use Rattle.std.specs.Int.{int_shr}
use Rattle.std.specs.Int.Bits.{and_lt}
use Rattle.std.specs.Int.Signed.{mag, mag_rem, mag_shr}
use Rattle.std.proofs.Math.IntN.{neg_ℤ}
use Rattle.std.proofs.Math.Nat.{div-le_self}
use mir.Val.{sel}
use Rattle.std.proofs.lemmas.Nat.{xor_of_32, or_lt, mod_below}
use Rattle.std.proofs.lemmas.Bool.{ltb-true, ltb-false}
use Rattle.source_meaning.specs.declared.kinds.ValueType.{ValueType}
use Rattle.source_meaning.specs.declared.kinds.ValueType.TheVariants.{Int, Bool as BoolType}
use Rattle.source_meaning.specs.declared.kinds.UnaryOp.{UnaryOp}
use Rattle.source_meaning.specs.declared.kinds.UnaryOp.TheVariants.{Negate, LogicalNot, BitwiseNot}
use Rattle.source_meaning.specs.declared.kinds.BinaryOp.{BinaryOp}
use Rattle.source_meaning.specs.declared.kinds.BinaryOp.TheVariants.{Plus, Minus, Times, Divide, Remainder, BitwiseAnd, BitwiseOr, BitwiseXor, ShiftLeft, ShiftRight, Less, LessOrEqual, Greater, GreaterOrEqual, Equal, NotEqual}
use Rattle.source_meaning.specs.Ast.{Expr, num, truth, name, call, unary, binary, and, or, assign, Args, no_args, arg, Stmt, var, if_only, if_else, stray_else, while, return, block, eval, print, Stmts, no_stmts, stmt, Program}
use Rattle.source_meaning.specs.Operators.{flag, is_less, signed, word_of, unary_value, binary_value}
use Rattle.source_meaning.specs.Typing.{unary_operand, binary_type, group_of}
use Rattle.folding.specs.Folding.{constant, constant_of, folded, folded_args, folded_unary, folded_binary, folded_and, folded_or, folded_stmt, folded_stmts, folded_program}
use Rattle.folding.specs.Words.{IsWord, HasWords, ArgsHaveWords, StmtHasWords, StmtsHaveWords, ProgramHasWords}

word_small : (z : ℤ) → mag z < 2 ^ 32 → IsWord (word_of z)
word_small (pos n) h = h
word_small (negsuc n) h = omega arith

signed_small : (x : ℕ) → IsWord x → mag (signed x) < 2 ^ 31
signed_small x h = go (ltb x (2 ^ 31)) refl
  where
    go : (b : Bool) → ltb x (2 ^ 31) ≡ b → mag (sel b (pos x) (negsuc (2 ^ 32 - suc x))) < 2 ^ 31
    go true e = ltb-true x (2 ^ 31) e
    go false e = let ge = ltb-false x (2 ^ 31) e in omega arith

minus_small : (n k : ℕ) → n < k → mag (neg_ℤ (pos n)) < k
minus_small zero k h = h
minus_small (suc n) k h = omega arith

cut_small : (a b k : ℕ) → a < k → a / b < k
cut_small a b k h = omega (arith, div-le_self a b)

div_small : (x y : ℤ) (k : ℕ) → mag x < k → mag (int_div x y) < suc k
div_small (pos a) (pos b) k h = cut_small a b (suc k) (omega arith)
div_small (pos a) (negsuc b) k h = minus_small (a / suc b) (suc k) (cut_small a (suc b) (suc k) (omega arith))
div_small (negsuc a) (pos b) k h = minus_small (suc a / b) (suc k) (cut_small (suc a) b (suc k) (omega arith))
div_small (negsuc a) (negsuc b) k h = cut_small (suc a) (suc b) (suc k) (omega arith)

quotient_small : (x y : ℕ) → IsWord x → IsWord (word_of (int_div (signed x) (signed y)))
quotient_small x y h = word_small (int_div (signed x) (signed y)) (omega (arith, div_small (signed x) (signed y) (2 ^ 31) (signed_small x h)))

flag_small : (b : Bool) → IsWord (flag b)
flag_small true = omega arith
flag_small false = omega arith

chosen_small : (b : Bool) (x y : ℕ) → IsWord x → IsWord y → IsWord (if b then x else y)
chosen_small true x y h k = h
chosen_small false x y h k = k

pub unary_word : (op : UnaryOp) (x : ℕ) → IsWord x → IsWord (unary_value op x)
unary_word Negate x h = mod_below _ (2 ^ 32) (omega arith)
unary_word LogicalNot x h = xor_of_32 x 1 h (omega arith)
unary_word BitwiseNot x h = xor_of_32 x (2 ^ 32 - 1) h (omega arith)

pub binary_word : (op : BinaryOp) (x y : ℕ) → IsWord x → IsWord y → IsWord (binary_value op x y)
binary_word Plus x y h k = mod_below _ (2 ^ 32) (omega arith)
binary_word Minus x y h k = mod_below _ (2 ^ 32) (omega arith)
binary_word Times x y h k = mod_below _ (2 ^ 32) (omega arith)
binary_word Divide x y h k = chosen_small (y == 0) (2 ^ 32 - 1) _ (omega arith) (quotient_small x y h)
binary_word Remainder x y h k = chosen_small (y == 0) x _ h (word_small (int_rem (signed x) (signed y)) (omega (arith, mag_rem (signed x) (signed y), signed_small x h)))
binary_word BitwiseAnd x y h k = and_lt 32 x y h k
binary_word BitwiseOr x y h k = or_lt 32 x y h k
binary_word BitwiseXor x y h k = xor_of_32 x y h k
binary_word ShiftLeft x y h k = mod_below _ (2 ^ 32) (omega arith)
binary_word ShiftRight x y h k = word_small (int_shr (signed x) (y % 32)) (omega (arith, mag_shr (signed x) (2 ^ (y % 32)), signed_small x h))
binary_word Less x y h k = flag_small (is_less x y)
binary_word LessOrEqual x y h k = flag_small (not (is_less y x))
binary_word Greater x y h k = flag_small (is_less y x)
binary_word GreaterOrEqual x y h k = flag_small (not (is_less x y))
binary_word Equal x y h k = flag_small (x == y)
binary_word NotEqual x y h k = flag_small (not (x == y))

-- ---- constants

constant_word : (e : Expr) (x : ℕ) → constant e ≡ Some x → HasWords e → IsWord x
constant_word (num at v) x h w = let is : v ≡ x = cc in omega arith
constant_word (truth at b) x h w = let is : flag b ≡ x = cc in omega (arith, flag_small b)
constant_word (name at y) x h w = absurd (cc)
constant_word (call at f es) x h w = absurd (cc)
constant_word (unary at op a) x h w = absurd (cc)
constant_word (binary at op a b) x h w = absurd (cc)
constant_word (and at a b) x h w = absurd (cc)
constant_word (or at a b) x h w = absurd (cc)
constant_word (assign at a b) x h w = absurd (cc)

made_word : (ty : ValueType) (at x : ℕ) → IsWord x → HasWords (constant_of ty at x)
made_word Int at x h = h
made_word BoolType at zero h = tt
made_word BoolType at (suc zero) h = tt
made_word BoolType at (suc (suc n)) h = h

unary_has : (at : ℕ) (op : UnaryOp) (a : Expr) (o : Option ℕ) → constant a ≡ o → HasWords a → HasWords (folded_unary at op a o)
unary_has at op a None e h = h
unary_has at op a (Some x) e h = made_word (unary_operand op) at (unary_value op x) (unary_word op x (constant_word a x e h))

binary_has : (at : ℕ) (op : BinaryOp) (a b : Expr) (o q : Option ℕ) → constant a ≡ o → constant b ≡ q → HasWords a → HasWords b → HasWords (folded_binary at op a b o q)
binary_has at op a b None q e r h k = (h, k)
binary_has at op a b (Some x) None e r h k = (h, k)
binary_has at op a b (Some x) (Some y) e r h k =
    made_word (binary_type (group_of op)) at (binary_value op x y) (binary_word op x y (constant_word a x e h) (constant_word b y r k))

and_has : (at : ℕ) (a b : Expr) (o : Option ℕ) → HasWords a → HasWords b → HasWords (folded_and at a b o)
and_has at a b None h k = (h, k)
and_has at a b (Some zero) h k = tt
and_has at a b (Some (suc n)) h k = k

or_has : (at : ℕ) (a b : Expr) (o : Option ℕ) → constant a ≡ o → HasWords a → HasWords b → HasWords (folded_or at a b o)
or_has at a b None e h k = (h, k)
or_has at a b (Some zero) e h k = k
or_has at a b (Some (suc n)) e h k = made_word BoolType at (suc n) (constant_word a (suc n) e h)

mutual
  expr_has : (e : Expr) → HasWords e → HasWords (folded e)
  expr_has (num at v) h = h
  expr_has (truth at b) h = tt
  expr_has (name at x) h = tt
  expr_has (call at f es) h = args_have es h
  expr_has (unary at op a) h = unary_has at op (folded a) (constant (folded a)) refl (expr_has a h)
  expr_has (binary at op a b) h = binary_has at op (folded a) (folded b) (constant (folded a)) (constant (folded b)) refl refl (expr_has a h.0) (expr_has b h.1)
  expr_has (and at a b) h = and_has at (folded a) (folded b) (constant (folded a)) (expr_has a h.0) (expr_has b h.1)
  expr_has (or at a b) h = or_has at (folded a) (folded b) (constant (folded a)) refl (expr_has a h.0) (expr_has b h.1)
  expr_has (assign at a b) h = (h.0, expr_has b h.1)

  args_have : (es : Args) → ArgsHaveWords es → ArgsHaveWords (folded_args es)
  args_have no_args h = tt
  args_have (arg e es) h = (expr_has e h.0, args_have es h.1)

mutual
  stmt_has : (s : Stmt) → StmtHasWords s → StmtHasWords (folded_stmt s)
  stmt_has (var at x ty e) h = expr_has e h
  stmt_has (if_only at c a) h = (expr_has c h.0, stmt_has a h.1)
  stmt_has (if_else at c a b) h = (expr_has c h.0, stmt_has a h.1, stmt_has b h.2)
  stmt_has (stray_else at a) h = stmt_has a h
  stmt_has (while at c a) h = (expr_has c h.0, stmt_has a h.1)
  stmt_has (return at e) h = expr_has e h
  stmt_has (block at ss) h = stmts_have ss h
  stmt_has (eval e) h = expr_has e h
  stmt_has (print at e) h = expr_has e h

  stmts_have : (ss : Stmts) → StmtsHaveWords ss → StmtsHaveWords (folded_stmts ss)
  stmts_have no_stmts h = tt
  stmts_have (stmt s ss) h = (stmt_has s h.0, stmts_have ss h.1)

pub program_has : (p : Program) → ProgramHasWords p → ProgramHasWords (folded_program p)
program_has [] h = tt
program_has (f ∷ fs) h = (stmt_has f.body h.0, program_has fs h.1)
