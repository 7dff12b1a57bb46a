-- What an open call does at once.
use Rattle.std.proofs.Common.{◌≡◌, ℕ, ◌+◌, List, [], ◌∷◌, ◌++◌, Option, None, option_map, refl, sym, ap, ◌∙◌, arith}
use Rattle.std.proofs.lemmas.List.{append_assoc}
use Rattle.std.specs.Global.{Vec}
use Rattle.source_meaning.specs.Ast.{Expr as ExprTree, Args as ArgsTree, unary, binary, assign, arg, eval, stmt}
use Rattle.source_meaning.specs.Operators.{unary_value, binary_value}
use Rattle.source_meaning.specs.Scope.{past, function_of}
use Rattle.source_meaning.specs.Meaning.{gives, ◌>>=◌, value, values, called, run_all, then_next, target, stored_in}
use Rattle.tree_interpreter.specs.Trees.{stmts_of}
use Rattle.tree_interpreter.specs.Numbering.{next_in}
use Rattle.tree_interpreter.specs.Running.{scope_with, stored_numbered}
use Rattle.tree_interpreter.specs.Resuming.{opened, with_table, world_in, run_all_in}
use Rattle.tree_interpreter.specs.Weights.{stmts_weight, args_weight}
use Rattle.tree_interpreter.specs.Walking.{HasValue, Leaves, Leads, Puts}
use Rattle.source_meaning.specs.declared.kinds.UnaryOp.{UnaryOp}
use Rattle.source_meaning.specs.declared.kinds.BinaryOp.{BinaryOp}
use Rattle.tree_interpreter.specs.declared.rests.OpenCall.{OpenCall}
use Rattle.tree_interpreter.specs.declared.rests.PlacedAll.{PlacedAll}
use Rattle.tree_interpreter.proofs.Onwards.{bound_after, bound_alike}
use Rattle.tree_interpreter.proofs.Named.{stored_by_number}
use Rattle.tree_interpreter.proofs.SameScope.{value_alike}

module _ (c : OpenCall) where
  -- values of operators
  pub unary_has : (at : ℕ) (op : UnaryOp) (a : ExprTree) (x : ℕ) → HasValue c a x → HasValue c (unary at op a) (unary_value op x)
  unary_has at op a x h = λ p turns. ap (λ q. q >>= λ z u. gives (unary_value op z) u) (h p turns)

  pub binary_has : (at : ℕ) (op : BinaryOp) (a b : ExprTree) (x z : ℕ) → HasValue c a x → HasValue c b z → HasValue c (binary at op a b) (binary_value op x z)
  binary_has at op a b x z h k = λ p turns.
      ap (λ q. q >>= λ x u. value (world_in p turns (opened c)) (scope_with (opened c).names 0) u b >>= λ z t. gives (binary_value op x z) t) (h p turns)
      ∙ ap (λ q. q >>= λ z t. gives (binary_value op x z) t) (k p turns)

  -- what an expression leaves
  pub simple_leaves : (e : ExprTree) (x : ℕ) → HasValue c e x → Leaves c e x c
  simple_leaves e x h = record { has = h; kept = refl }

  pub assign_leaves : (at : ℕ) (a b : ExprTree) (n : Option ℕ) (x : ℕ) (t : Vec ℕ) → n ≡ option_map (λ z. z.number) (target (scope_with (opened c).names 0) a) → HasValue c b x →
      t.items ≡ stored_numbered n x c.table.items → Leaves c (assign at a b) x (record c { table = t })
  assign_leaves at a b n x t number is stored = record {
    has = λ p turns.
        ap (λ q. q >>= λ z u. gives z (stored_in (target (scope_with (opened c).names 0) a) z u)) (is p turns)
        ∙ ap (λ u. gives x u) (stored_by_number (target (scope_with (opened c).names 0) a) x c.table.items ∙ ap (λ m. stored_numbered m x c.table.items) (sym number) ∙ sym stored);
    kept = refl;
  }

  -- the first of some statements
  pub leads_one : (d : OpenCall) (q r : PlacedAll) (e : ExprTree) (x : ℕ) → stmts_of q.statements.now ≡ stmt (eval e) (stmts_of r.statements.now) → next_in r.numbering.now ≡ next_in q.numbering.now + 0 → Leaves c e x d → Leads c q d r
  leads_one d q r e x is begins l = record {
    does = λ p turns.
        ap (λ ss. run_all_in p turns (opened c) (next_in q.numbering.now) ss) is
        ∙ ap (λ m. (m >>= λ z u. gives None u) >>= λ s u. then_next s (λ z. run_all (world_in p turns (opened c)) (past (scope_with (opened c).names (next_in q.numbering.now)) (eval e)) z (stmts_of r.statements.now)) u)
        (value_alike (world_in p turns (opened c)) e (scope_with (opened c).names (next_in q.numbering.now)) (scope_with (opened c).names 0) c.table.items refl ∙ l.has p turns)
        ∙ ap (λ m. run_all (world_in p turns (opened c)) (scope_with (opened c).names m) d.table.items (stmts_of r.statements.now)) (sym begins)
        ∙ ap (λ o. run_all_in p turns o (next_in r.numbering.now) (stmts_of r.statements.now)) (sym l.kept);
    kept = l.kept;
    fewer = λ calls turns. omega (arith, ap (λ ss. stmts_weight calls turns ss) is);
  }

  pub leads_none : (q : PlacedAll) → Leads c q c q
  leads_none q = record { does = λ p turns. refl; kept = refl; fewer = λ calls turns. omega arith }

  pub leads_more : (d e : OpenCall) (q r s : PlacedAll) → Leads c q d r → Leads d r e s → Leads c q e s
  leads_more d e q r s a b = record {
    does = λ p turns. a.does p turns ∙ b.does p turns;
    kept = b.kept ∙ ap (λ o. with_table o e.table.items) a.kept;
    fewer = λ calls turns. omega (arith, a.fewer calls turns, b.fewer calls turns);
  }

  -- the first of some arguments
  pub puts_one : (known more : List ℕ) (e : ExprTree) (x : ℕ) (es rest : ArgsTree) → es ≡ arg e rest → HasValue c e x → more ≡ known ++ x ∷ [] → Puts c known es more rest
  puts_one known more e x es rest is has longer = record {
    does = λ p turns f.
        let W = world_in p turns (opened c) in
        ap (λ ds. values W (scope_with (opened c).names 0) c.table.items ds >>= λ vs t. called W (function_of p f) (known ++ vs) t) is
        ∙ ap (λ m. (m >>= λ z u. values W (scope_with (opened c).names 0) u rest >>= λ zs t. gives (z ∷ zs) t) >>= λ vs t. called W (function_of p f) (known ++ vs) t) (has p turns)
        ∙ bound_after (values W (scope_with (opened c).names 0) c.table.items rest) (λ zs t. gives (x ∷ zs) t) (λ vs t. called W (function_of p f) (known ++ vs) t)
        ∙ bound_alike (values W (scope_with (opened c).names 0) c.table.items rest) _ _ (λ vs t. ap (λ l. called W (function_of p f) l t) (sym (append_assoc known (x ∷ []) vs) ∙ ap (λ l. l ++ vs) (sym longer)));
    fewer = λ calls turns. omega (arith, ap (λ ds. args_weight calls turns ds) is);
  }

  pub puts_none : (known : List ℕ) (es : ArgsTree) → Puts c known es known es
  puts_none known es = record { does = λ p turns f. refl; fewer = λ calls turns. omega arith }

  pub puts_more : (known more most : List ℕ) (es ds bs : ArgsTree) → Puts c known es more ds → Puts c more ds most bs → Puts c known es most bs
  puts_more known more most es ds bs a b = record { does = λ p turns f. a.does p turns f ∙ b.does p turns f; fewer = λ calls turns. omega (arith, a.fewer calls turns, b.fewer calls turns) }
