-- The nodes of a folded tree are the folded nodes of the tree.
use Rattle.std.proofs.Common.{◌≡◌, ℕ, zero, suc, Option, Some, None, true, false, refl, sym, ap, ◌∙◌}
use Rattle.source_meaning.specs.declared.kinds.Kind.TheVariants.{And, Or, Binary, Unary, Call, Assign}
use Rattle.source_meaning.specs.declared.kinds.ValueType.{ValueType}
use Rattle.source_meaning.specs.declared.kinds.ValueType.TheVariants.{Int, Bool as BoolType}
use Rattle.source_meaning.specs.declared.kinds.UnaryOp.{UnaryOp}
use Rattle.source_meaning.specs.declared.kinds.BinaryOp.{BinaryOp}
use Rattle.source_meaning.specs.Ast.{Expr, num, truth, name, call, unary, binary, and, or, assign, Args, no_args, arg}
use Rattle.source_meaning.specs.Rows.{Node, node, last, next, one, two, expr_node, args_nodes}
use Rattle.source_meaning.specs.Operators.{unary_value, binary_value}
use Rattle.source_meaning.specs.Typing.{unary_operand, binary_type, group_of}
use Rattle.source_meaning.specs.Shape.{is_name}
use Rattle.row_rules.specs.Alignment.{IsNamed, AreNamed}
use Rattle.folding.specs.Folding.{constant, constant_of, folded, folded_args, folded_unary, folded_binary, folded_and, folded_or}
use Rattle.folded_rows.specs.Columns.{both, one_of, and_of, or_of, gives_way_by, constant_kind}
use Rattle.folded_rows.specs.Nodes.{node_value, fold_node, fold_by, fold_nodes}

-- the node of a constant, and its value
made_node : (ty : ValueType) (at x : ℕ) → node (constant_kind ty x) (Some at) last ≡ expr_node (constant_of ty at x)
made_node Int at x = refl
made_node BoolType at zero = refl
made_node BoolType at (suc zero) = refl
made_node BoolType at (suc (suc n)) = refl

made_value : (ty : ValueType) (at x : ℕ) → constant (constant_of ty at x) ≡ Some x
made_value Int at x = refl
made_value BoolType at zero = refl
made_value BoolType at (suc zero) = refl
made_value BoolType at (suc (suc n)) = refl

-- what is to be shown of an expression and of its node
pub record IsFoldedNode (c : Node) (e : Expr) : Type 0 where
  pub node_is : fold_node c ≡ expr_node e
  pub value_is : node_value c ≡ constant e

unary_is : (at : ℕ) (op : UnaryOp) (c : Node) (e : Expr) (o : Option ℕ) → constant e ≡ o → IsFoldedNode c e → IsFoldedNode (node (Unary op) (Some at) (one c)) (folded_unary at op e o)
unary_is at op c e None h k =
    let v : node_value c ≡ None = k.value_is ∙ h in
    record {
      node_is = ap (λ y. fold_by false (one_of (unary_value op) y) (Unary op) (Some at) (fold_node c) (one (fold_node c))) v ∙ ap (λ q. node (Unary op) (Some at) (one q)) k.node_is;
      value_is = ap (one_of (unary_value op)) v;
    }
unary_is at op c e (Some x) h k =
    let v : node_value c ≡ Some x = k.value_is ∙ h in
    record {
      node_is = ap (λ y. fold_by false (one_of (unary_value op) y) (Unary op) (Some at) (fold_node c) (one (fold_node c))) v ∙ made_node (unary_operand op) at (unary_value op x);
      value_is = ap (one_of (unary_value op)) v ∙ sym (made_value (unary_operand op) at (unary_value op x));
    }

binary_is : (at : ℕ) (op : BinaryOp) (c d : Node) (a b : Expr) (x y : Option ℕ) → constant a ≡ x → constant b ≡ y → IsFoldedNode c a → IsFoldedNode d b
    → IsFoldedNode (node (Binary op) (Some at) (two c d)) (folded_binary at op a b x y)
binary_is at op c d a b None y h g k l =
    let v : node_value c ≡ None = k.value_is ∙ h in
    record {
      node_is =
          ap (λ q. fold_by false (both (binary_value op) q (node_value d)) (Binary op) (Some at) (fold_node d) (two (fold_node c) (fold_node d))) v
          ∙ (λ i. node (Binary op) (Some at) (two (k.node_is i) (l.node_is i)));
      value_is = ap (λ q. both (binary_value op) q (node_value d)) v;
    }
binary_is at op c d a b (Some x) None h g k l =
    let v : node_value c ≡ Some x = k.value_is ∙ h in
    let w : node_value d ≡ None = l.value_is ∙ g in
    record {
      node_is =
          (λ i. fold_by false (both (binary_value op) (v i) (w i)) (Binary op) (Some at) (fold_node d) (two (fold_node c) (fold_node d)))
          ∙ (λ i. node (Binary op) (Some at) (two (k.node_is i) (l.node_is i)));
      value_is = λ i. both (binary_value op) (v i) (w i);
    }
binary_is at op c d a b (Some x) (Some y) h g k l =
    let v : node_value c ≡ Some x = k.value_is ∙ h in
    let w : node_value d ≡ Some y = l.value_is ∙ g in
    record {
      node_is = (λ i. fold_by false (both (binary_value op) (v i) (w i)) (Binary op) (Some at) (fold_node d) (two (fold_node c) (fold_node d))) ∙ made_node (binary_type (group_of op)) at (binary_value op x y);
      value_is = (λ i. both (binary_value op) (v i) (w i)) ∙ sym (made_value (binary_type (group_of op)) at (binary_value op x y));
    }

and_is : (at : ℕ) (c d : Node) (a b : Expr) (x : Option ℕ) → constant a ≡ x → IsFoldedNode c a → IsFoldedNode d b → IsFoldedNode (node And (Some at) (two c d)) (folded_and at a b x)
and_is at c d a b None h k l =
    let v : node_value c ≡ None = k.value_is ∙ h in
    record {
      node_is = ap (λ q. fold_by (gives_way_by And q) (and_of q (node_value d)) And (Some at) (fold_node d) (two (fold_node c) (fold_node d))) v ∙ (λ i. node And (Some at) (two (k.node_is i) (l.node_is i)));
      value_is = ap (λ q. and_of q (node_value d)) v;
    }
and_is at c d a b (Some zero) h k l =
    let v : node_value c ≡ Some zero = k.value_is ∙ h in
    record {
      node_is = ap (λ q. fold_by (gives_way_by And q) (and_of q (node_value d)) And (Some at) (fold_node d) (two (fold_node c) (fold_node d))) v;
      value_is = ap (λ q. and_of q (node_value d)) v;
    }
and_is at c d a b (Some (suc n)) h k l =
    let v : node_value c ≡ Some (suc n) = k.value_is ∙ h in
    record {
      node_is = ap (λ q. fold_by (gives_way_by And q) (and_of q (node_value d)) And (Some at) (fold_node d) (two (fold_node c) (fold_node d))) v ∙ l.node_is;
      value_is = ap (λ q. and_of q (node_value d)) v ∙ l.value_is;
    }

or_is : (at : ℕ) (c d : Node) (a b : Expr) (x : Option ℕ) → constant a ≡ x → IsFoldedNode c a → IsFoldedNode d b → IsFoldedNode (node Or (Some at) (two c d)) (folded_or at a b x)
or_is at c d a b None h k l =
    let v : node_value c ≡ None = k.value_is ∙ h in
    record {
      node_is = ap (λ q. fold_by (gives_way_by Or q) (or_of q (node_value d)) Or (Some at) (fold_node d) (two (fold_node c) (fold_node d))) v ∙ (λ i. node Or (Some at) (two (k.node_is i) (l.node_is i)));
      value_is = ap (λ q. or_of q (node_value d)) v;
    }
or_is at c d a b (Some zero) h k l =
    let v : node_value c ≡ Some zero = k.value_is ∙ h in
    record {
      node_is = ap (λ q. fold_by (gives_way_by Or q) (or_of q (node_value d)) Or (Some at) (fold_node d) (two (fold_node c) (fold_node d))) v ∙ l.node_is;
      value_is = ap (λ q. or_of q (node_value d)) v ∙ l.value_is;
    }
or_is at c d a b (Some (suc n)) h k l =
    let v : node_value c ≡ Some (suc n) = k.value_is ∙ h in
    record {
      node_is = ap (λ q. fold_by (gives_way_by Or q) (or_of q (node_value d)) Or (Some at) (fold_node d) (two (fold_node c) (fold_node d))) v ∙ made_node BoolType at (suc n);
      value_is = ap (λ q. or_of q (node_value d)) v ∙ sym (made_value BoolType at (suc n));
    }

-- the name left of an assignment
name_is : (a : Expr) → is_name a ≡ true → fold_node (expr_node a) ≡ expr_node a
name_is (name at x) h = refl
name_is (num at v) h = refl
name_is (truth at b) h = refl
name_is (call at f es) h = absurd (cc)
name_is (unary at op a) h = absurd (cc)
name_is (binary at op a b) h = absurd (cc)
name_is (and at a b) h = absurd (cc)
name_is (or at a b) h = absurd (cc)
name_is (assign at a b) h = absurd (cc)

mutual
  pub expr_is : (e : Expr) → IsNamed e → IsFoldedNode (expr_node e) (folded e)
  expr_is (num at v) ok = record { node_is = refl; value_is = refl }
  expr_is (truth at b) ok = record { node_is = refl; value_is = refl }
  expr_is (name at x) ok = record { node_is = refl; value_is = refl }
  expr_is (call at f es) ok = record { node_is = ap (λ q. node Call (Some at) q) (args_are es ok); value_is = refl }
  expr_is (unary at op a) ok = unary_is at op (expr_node a) (folded a) (constant (folded a)) refl (expr_is a ok)
  expr_is (binary at op a b) ok = binary_is at op (expr_node a) (expr_node b) (folded a) (folded b) (constant (folded a)) (constant (folded b)) refl refl (expr_is a ok.0) (expr_is b ok.1)
  expr_is (and at a b) ok = and_is at (expr_node a) (expr_node b) (folded a) (folded b) (constant (folded a)) refl (expr_is a ok.0) (expr_is b ok.1)
  expr_is (or at a b) ok = or_is at (expr_node a) (expr_node b) (folded a) (folded b) (constant (folded a)) refl (expr_is a ok.0) (expr_is b ok.1)
  expr_is (assign at a b) ok =
      let r = expr_is b ok.1 in
      record { node_is = λ i. node Assign (Some at) (two (name_is a ok.0 i) (r.node_is i)); value_is = refl }

  pub args_are : (es : Args) → AreNamed es → fold_nodes (args_nodes es) ≡ args_nodes (folded_args es)
  args_are no_args ok = refl
  args_are (arg e es) ok = λ i. next ((expr_is e ok.0).node_is i) (args_are es ok.1 i)
