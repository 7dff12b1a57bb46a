-- A worked program of eight statements, and the tree that folding makes of it.
use Rattle.std.specs.Prelude.{ℕ, ◌-◌, ◌^◌, true, false, [], ◌∷◌, codes}
use Rattle.source_meaning.specs.declared.kinds.ValueType.TheVariants.{Int}
use Rattle.source_meaning.specs.declared.kinds.BinaryOp.TheVariants.{Plus, Equal}
use Rattle.source_meaning.specs.Ast.{Expr, num, truth, name, binary, and, or, assign, Stmt, var, if_only, if_else, while, return, block, print, no_stmts, stmt, Program}
use Rattle.source_meaning.specs.Grammar.{node, done, leaf, tree, a_assign, a_none, block_braces, c_tail, call_none, ct_cmp, ct_none, e_tail, else_if, fn, m_tail, mt_mul, mt_none, n_tail, nt_and, nt_none, o_tail, ot_none, ot_or, p_false, p_group, p_ident, p_num, p_true, params_none, prog_end, prog_fn, s_tail, st_add, st_minus, st_none, stmt_else, stmt_if, stmt_print, stmt_return, stmt_var, stmt_while, stmts_none, stmts_some, type_int, u_minus, u_primary, u_unop}
use Rattle.source_meaning.specs.Worked.{Worked, leaf_at}

-- Sums and products; a division by 0; the least number; an assignment, which stays; shifts by 32 and by -1; an And and an Or with each kind of
-- left side in the next two; a remainder by 0. The conditions ask for the value that was assigned, so an assignment that is folded, or the wrong
-- side of an And, shows in what is printed.
abbrev pub eight : Worked
eight = record {
  text = codes "fn main(): int { var a: int = 2 * 3 + 4; print 1 / 0; print -2147483647 - 1; print (a = 5) + 1; print (1 << 32) - (-8 >> -1); while !true && a == 5 || a == 2 && true { print 0; } if 1 < 2 && a == 5 || false { print 9; } else if true || a == 4 { return 1; } return 7 % 0; }";
  parsed = λ ts. node prog_fn (tree (node fn (leaf (leaf_at ts 0) (leaf (leaf_at ts 1) (leaf (leaf_at ts 2) (tree (node params_none done) (leaf (leaf_at ts 3) (leaf (leaf_at ts 4) (tree (node type_int (leaf (leaf_at ts 5) done)) (tree (node block_braces (leaf (leaf_at ts 6) (tree (node stmts_some (tree (node stmt_var (leaf (leaf_at ts 7) (leaf (leaf_at ts 8) (leaf (leaf_at ts 9) (tree (node type_int (leaf (leaf_at ts 10) done)) (leaf (leaf_at ts 11) (tree (node e_tail (tree (node o_tail (tree (node n_tail (tree (node c_tail (tree (node s_tail (tree (node m_tail (tree (node u_primary (tree (node p_num (leaf (leaf_at ts 12) done)) done)) (tree (node mt_mul (leaf (leaf_at ts 13) (tree (node u_primary (tree (node p_num (leaf (leaf_at ts 14) done)) done)) (tree (node mt_none done) done)))) done))) (tree (node st_add (leaf (leaf_at ts 15) (tree (node m_tail (tree (node u_primary (tree (node p_num (leaf (leaf_at ts 16) done)) done)) (tree (node mt_none done) done))) (tree (node st_none done) done)))) done))) (tree (node ct_none done) done))) (tree (node nt_none done) done))) (tree (node ot_none done) done))) (tree (node a_none done) done))) (leaf (leaf_at ts 17) done)))))))) (tree (node stmts_some (tree (node stmt_print (leaf (leaf_at ts 18) (tree (node e_tail (tree (node o_tail (tree (node n_tail (tree (node c_tail (tree (node s_tail (tree (node m_tail (tree (node u_primary (tree (node p_num (leaf (leaf_at ts 19) done)) done)) (tree (node mt_mul (leaf (leaf_at ts 20) (tree (node u_primary (tree (node p_num (leaf (leaf_at ts 21) done)) done)) (tree (node mt_none done) done)))) done))) (tree (node st_none done) done))) (tree (node ct_none done) done))) (tree (node nt_none done) done))) (tree (node ot_none done) done))) (tree (node a_none done) done))) (leaf (leaf_at ts 22) done)))) (tree (node stmts_some (tree (node stmt_print (leaf (leaf_at ts 23) (tree (node e_tail (tree (node o_tail (tree (node n_tail (tree (node c_tail (tree (node s_tail (tree (node m_tail (tree (node u_minus (leaf (leaf_at ts 24) (tree (node u_primary (tree (node p_num (leaf (leaf_at ts 25) done)) done)) done))) (tree (node mt_none done) done))) (tree (node st_minus (leaf (leaf_at ts 26) (tree (node u_primary (tree (node p_num (leaf (leaf_at ts 27) done)) done)) (tree (node mt_none done) (tree (node st_none done) done))))) done))) (tree (node ct_none done) done))) (tree (node nt_none done) done))) (tree (node ot_none done) done))) (tree (node a_none done) done))) (leaf (leaf_at ts 28) done)))) (tree (node stmts_some (tree (node stmt_print (leaf (leaf_at ts 29) (tree (node e_tail (tree (node o_tail (tree (node n_tail (tree (node c_tail (tree (node s_tail (tree (node m_tail (tree (node u_primary (tree (node p_group (leaf (leaf_at ts 30) (tree (node e_tail (tree (node o_tail (tree (node n_tail (tree (node c_tail (tree (node s_tail (tree (node m_tail (tree (node u_primary (tree (node p_ident (leaf (leaf_at ts 31) (tree (node call_none done) done))) done)) (tree (node mt_none done) done))) (tree (node st_none done) done))) (tree (node ct_none done) done))) (tree (node nt_none done) done))) (tree (node ot_none done) done))) (tree (node a_assign (leaf (leaf_at ts 32) (tree (node e_tail (tree (node o_tail (tree (node n_tail (tree (node c_tail (tree (node s_tail (tree (node m_tail (tree (node u_primary (tree (node p_num (leaf (leaf_at ts 33) done)) done)) (tree (node mt_none done) done))) (tree (node st_none done) done))) (tree (node ct_none done) done))) (tree (node nt_none done) done))) (tree (node ot_none done) done))) (tree (node a_none done) done))) done))) done))) (leaf (leaf_at ts 34) done)))) done)) (tree (node mt_none done) done))) (tree (node st_add (leaf (leaf_at ts 35) (tree (node m_tail (tree (node u_primary (tree (node p_num (leaf (leaf_at ts 36) done)) done)) (tree (node mt_none done) done))) (tree (node st_none done) done)))) done))) (tree (node ct_none done) done))) (tree (node nt_none done) done))) (tree (node ot_none done) done))) (tree (node a_none done) done))) (leaf (leaf_at ts 37) done)))) (tree (node stmts_some (tree (node stmt_print (leaf (leaf_at ts 38) (tree (node e_tail (tree (node o_tail (tree (node n_tail (tree (node c_tail (tree (node s_tail (tree (node m_tail (tree (node u_primary (tree (node p_group (leaf (leaf_at ts 39) (tree (node e_tail (tree (node o_tail (tree (node n_tail (tree (node c_tail (tree (node s_tail (tree (node m_tail (tree (node u_primary (tree (node p_num (leaf (leaf_at ts 40) done)) done)) (tree (node mt_mul (leaf (leaf_at ts 41) (tree (node u_primary (tree (node p_num (leaf (leaf_at ts 42) done)) done)) (tree (node mt_none done) done)))) done))) (tree (node st_none done) done))) (tree (node ct_none done) done))) (tree (node nt_none done) done))) (tree (node ot_none done) done))) (tree (node a_none done) done))) (leaf (leaf_at ts 43) done)))) done)) (tree (node mt_none done) done))) (tree (node st_minus (leaf (leaf_at ts 44) (tree (node u_primary (tree (node p_group (leaf (leaf_at ts 45) (tree (node e_tail (tree (node o_tail (tree (node n_tail (tree (node c_tail (tree (node s_tail (tree (node m_tail (tree (node u_minus (leaf (leaf_at ts 46) (tree (node u_primary (tree (node p_num (leaf (leaf_at ts 47) done)) done)) done))) (tree (node mt_mul (leaf (leaf_at ts 48) (tree (node u_minus (leaf (leaf_at ts 49) (tree (node u_primary (tree (node p_num (leaf (leaf_at ts 50) done)) done)) done))) (tree (node mt_none done) done)))) done))) (tree (node st_none done) done))) (tree (node ct_none done) done))) (tree (node nt_none done) done))) (tree (node ot_none done) done))) (tree (node a_none done) done))) (leaf (leaf_at ts 51) done)))) done)) (tree (node mt_none done) (tree (node st_none done) done))))) done))) (tree (node ct_none done) done))) (tree (node nt_none done) done))) (tree (node ot_none done) done))) (tree (node a_none done) done))) (leaf (leaf_at ts 52) done)))) (tree (node stmts_some (tree (node stmt_while (leaf (leaf_at ts 53) (tree (node e_tail (tree (node o_tail (tree (node n_tail (tree (node c_tail (tree (node s_tail (tree (node m_tail (tree (node u_unop (leaf (leaf_at ts 54) (tree (node u_primary (tree (node p_true (leaf (leaf_at ts 55) done)) done)) done))) (tree (node mt_none done) done))) (tree (node st_none done) done))) (tree (node ct_none done) done))) (tree (node nt_and (leaf (leaf_at ts 56) (tree (node c_tail (tree (node s_tail (tree (node m_tail (tree (node u_primary (tree (node p_ident (leaf (leaf_at ts 57) (tree (node call_none done) done))) done)) (tree (node mt_none done) done))) (tree (node st_none done) done))) (tree (node ct_cmp (leaf (leaf_at ts 58) (tree (node s_tail (tree (node m_tail (tree (node u_primary (tree (node p_num (leaf (leaf_at ts 59) done)) done)) (tree (node mt_none done) done))) (tree (node st_none done) done))) (tree (node ct_none done) done)))) done))) (tree (node nt_none done) done)))) done))) (tree (node ot_or (leaf (leaf_at ts 60) (tree (node n_tail (tree (node c_tail (tree (node s_tail (tree (node m_tail (tree (node u_primary (tree (node p_ident (leaf (leaf_at ts 61) (tree (node call_none done) done))) done)) (tree (node mt_none done) done))) (tree (node st_none done) done))) (tree (node ct_cmp (leaf (leaf_at ts 62) (tree (node s_tail (tree (node m_tail (tree (node u_primary (tree (node p_num (leaf (leaf_at ts 63) done)) done)) (tree (node mt_none done) done))) (tree (node st_none done) done))) (tree (node ct_none done) done)))) done))) (tree (node nt_and (leaf (leaf_at ts 64) (tree (node c_tail (tree (node s_tail (tree (node m_tail (tree (node u_primary (tree (node p_true (leaf (leaf_at ts 65) done)) done)) (tree (node mt_none done) done))) (tree (node st_none done) done))) (tree (node ct_none done) done))) (tree (node nt_none done) done)))) done))) (tree (node ot_none done) done)))) done))) (tree (node a_none done) done))) (tree (node block_braces (leaf (leaf_at ts 66) (tree (node stmts_some (tree (node stmt_print (leaf (leaf_at ts 67) (tree (node e_tail (tree (node o_tail (tree (node n_tail (tree (node c_tail (tree (node s_tail (tree (node m_tail (tree (node u_primary (tree (node p_num (leaf (leaf_at ts 68) done)) done)) (tree (node mt_none done) done))) (tree (node st_none done) done))) (tree (node ct_none done) done))) (tree (node nt_none done) done))) (tree (node ot_none done) done))) (tree (node a_none done) done))) (leaf (leaf_at ts 69) done)))) (tree (node stmts_none done) done))) (leaf (leaf_at ts 70) done)))) done)))) (tree (node stmts_some (tree (node stmt_if (leaf (leaf_at ts 71) (tree (node e_tail (tree (node o_tail (tree (node n_tail (tree (node c_tail (tree (node s_tail (tree (node m_tail (tree (node u_primary (tree (node p_num (leaf (leaf_at ts 72) done)) done)) (tree (node mt_none done) done))) (tree (node st_none done) done))) (tree (node ct_cmp (leaf (leaf_at ts 73) (tree (node s_tail (tree (node m_tail (tree (node u_primary (tree (node p_num (leaf (leaf_at ts 74) done)) done)) (tree (node mt_none done) done))) (tree (node st_none done) done))) (tree (node ct_none done) done)))) done))) (tree (node nt_and (leaf (leaf_at ts 75) (tree (node c_tail (tree (node s_tail (tree (node m_tail (tree (node u_primary (tree (node p_ident (leaf (leaf_at ts 76) (tree (node call_none done) done))) done)) (tree (node mt_none done) done))) (tree (node st_none done) done))) (tree (node ct_cmp (leaf (leaf_at ts 77) (tree (node s_tail (tree (node m_tail (tree (node u_primary (tree (node p_num (leaf (leaf_at ts 78) done)) done)) (tree (node mt_none done) done))) (tree (node st_none done) done))) (tree (node ct_none done) done)))) done))) (tree (node nt_none done) done)))) done))) (tree (node ot_or (leaf (leaf_at ts 79) (tree (node n_tail (tree (node c_tail (tree (node s_tail (tree (node m_tail (tree (node u_primary (tree (node p_false (leaf (leaf_at ts 80) done)) done)) (tree (node mt_none done) done))) (tree (node st_none done) done))) (tree (node ct_none done) done))) (tree (node nt_none done) done))) (tree (node ot_none done) done)))) done))) (tree (node a_none done) done))) (tree (node block_braces (leaf (leaf_at ts 81) (tree (node stmts_some (tree (node stmt_print (leaf (leaf_at ts 82) (tree (node e_tail (tree (node o_tail (tree (node n_tail (tree (node c_tail (tree (node s_tail (tree (node m_tail (tree (node u_primary (tree (node p_num (leaf (leaf_at ts 83) done)) done)) (tree (node mt_none done) done))) (tree (node st_none done) done))) (tree (node ct_none done) done))) (tree (node nt_none done) done))) (tree (node ot_none done) done))) (tree (node a_none done) done))) (leaf (leaf_at ts 84) done)))) (tree (node stmts_none done) done))) (leaf (leaf_at ts 85) done)))) done)))) (tree (node stmts_some (tree (node stmt_else (leaf (leaf_at ts 86) (tree (node else_if (leaf (leaf_at ts 87) (tree (node e_tail (tree (node o_tail (tree (node n_tail (tree (node c_tail (tree (node s_tail (tree (node m_tail (tree (node u_primary (tree (node p_true (leaf (leaf_at ts 88) done)) done)) (tree (node mt_none done) done))) (tree (node st_none done) done))) (tree (node ct_none done) done))) (tree (node nt_none done) done))) (tree (node ot_or (leaf (leaf_at ts 89) (tree (node n_tail (tree (node c_tail (tree (node s_tail (tree (node m_tail (tree (node u_primary (tree (node p_ident (leaf (leaf_at ts 90) (tree (node call_none done) done))) done)) (tree (node mt_none done) done))) (tree (node st_none done) done))) (tree (node ct_cmp (leaf (leaf_at ts 91) (tree (node s_tail (tree (node m_tail (tree (node u_primary (tree (node p_num (leaf (leaf_at ts 92) done)) done)) (tree (node mt_none done) done))) (tree (node st_none done) done))) (tree (node ct_none done) done)))) done))) (tree (node nt_none done) done))) (tree (node ot_none done) done)))) done))) (tree (node a_none done) done))) (tree (node block_braces (leaf (leaf_at ts 93) (tree (node stmts_some (tree (node stmt_return (leaf (leaf_at ts 94) (tree (node e_tail (tree (node o_tail (tree (node n_tail (tree (node c_tail (tree (node s_tail (tree (node m_tail (tree (node u_primary (tree (node p_num (leaf (leaf_at ts 95) done)) done)) (tree (node mt_none done) done))) (tree (node st_none done) done))) (tree (node ct_none done) done))) (tree (node nt_none done) done))) (tree (node ot_none done) done))) (tree (node a_none done) done))) (leaf (leaf_at ts 96) done)))) (tree (node stmts_none done) done))) (leaf (leaf_at ts 97) done)))) done)))) done))) (tree (node stmts_some (tree (node stmt_return (leaf (leaf_at ts 98) (tree (node e_tail (tree (node o_tail (tree (node n_tail (tree (node c_tail (tree (node s_tail (tree (node m_tail (tree (node u_primary (tree (node p_num (leaf (leaf_at ts 99) done)) done)) (tree (node mt_mul (leaf (leaf_at ts 100) (tree (node u_primary (tree (node p_num (leaf (leaf_at ts 101) done)) done)) (tree (node mt_none done) done)))) done))) (tree (node st_none done) done))) (tree (node ct_none done) done))) (tree (node nt_none done) done))) (tree (node ot_none done) done))) (tree (node a_none done) done))) (leaf (leaf_at ts 102) done)))) (tree (node stmts_none done) done))) done))) done))) done))) done))) done))) done))) done))) done))) (leaf (leaf_at ts 103) done)))) done))))))))) (tree (node prog_end done) done));
}

-- the variable, by one of its uses
abbrev a_at : (at : ℕ) → Expr
a_at at = name at (codes "a")

abbrev equals : (at : ℕ) → Expr → Expr → Expr
equals at x y = binary at Equal x y

abbrev one : Stmt → (at : ℕ) → Stmt
one s at = block at (stmt s no_stmts)

abbrev pub eight_folded : Program
eight_folded = record {
  at = 1;
  name = codes "main";
  params = [];
  type = Int;
  body = block 6
      (stmt (var 8 (codes "a") Int (num 15 10))
      (stmt (print 18 (num 20 (2 ^ 32 - 1)))
      (stmt (print 23 (num 26 (2 ^ 31)))
      (stmt (print 29 (binary 35 Plus (assign 32 (a_at 31) (num 33 5)) (num 36 1)))
      (stmt (print 38 (num 44 2))
      (stmt (while 53 (and 64 (equals 62 (a_at 61) (num 63 2)) (truth 65 true)) (one (print 67 (num 68 0)) 66))
      (stmt (if_else 71 (or 79 (equals 77 (a_at 76) (num 78 5)) (truth 80 false)) (one (print 82 (num 83 9)) 81) (if_only 87 (truth 89 true) (one (return 94 (num 95 1)) 93)))
      (stmt (return 98 (num 100 7)) no_stmts))))))));
} ∷ []
