-- Where no operator folds as it stands, the constants are the literals.
use Rattle.std.proofs.Common.{◌≡◌, ℕ, ◌+◌, ◌<◌, ◌≤◌, inl, inr, Bool, true, false, [], length, map, Option, Some, None, refl, sym, ap, ◌∙◌, subst, arith}
use Rattle.std.specs.Prelude.{◌&&◌}
use Rattle.std.specs.List.{range_with_len}
use Rattle.std.proofs.lemmas.Bool.{cases_lt}
use Rattle.std.proofs.lemmas.List.{get_or_past}
use Rattle.std.proofs.lemmas.List.FromFn.{get_or-map-range_with_len, length-map-range_with_len}
use Rattle.source_meaning.specs.declared.kinds.Kind.{Kind}
use Rattle.source_meaning.specs.declared.kinds.Kind.TheVariants.{Program as ProgramKind, And, Or, Binary, Unary, Num, Truth}
use Rattle.source_meaning.specs.declared.kinds.BinaryOp.{BinaryOp}
use Rattle.folded_rows.specs.Columns.{AreConstants, Columns, constant_by, folding, folds, folds_by, is_literal, kind_in, left_of, many, right_of, value_in}
use Rattle.fold_pass.specs.Rounds.{constant_at, known_after}
use Rattle.fold_pass.proofs.Rounding.{bool_or, filter_has}

no_literal : (k : Kind) → is_literal k ≡ false → constant_by k None None ≡ None
no_literal (Num v) e = absurd (cc)
no_literal (Truth b) e = absurd (cc)
no_literal k e = refl

right_none : (op : BinaryOp) (x : Option ℕ) → constant_by (Binary op) x None ≡ None
right_none op None = refl
right_none op (Some x) = refl

-- a kind whose last two children are of these kinds
stays_unknown : (k a b : Kind) → folds_by k (is_literal a) (is_literal b) ≡ false → constant_by k None None ≡ constant_by k (constant_by a None None) (constant_by b None None)
stays_unknown (Unary op) a b e = sym (ap (constant_by (Unary op) (constant_by a None None)) (no_literal b e))
stays_unknown (Binary op) a b e = elim (bool_or (is_literal b)) [
  | inl t ↦ sym (ap (λ x. constant_by (Binary op) x (constant_by b None None)) (no_literal a (sym (ap (λ y. y && is_literal a) t) ∙ e)))
  | inr f ↦ sym (ap (constant_by (Binary op) (constant_by a None None)) (no_literal b f) ∙ right_none op (constant_by a None None))
]
stays_unknown And a b e = sym (ap (λ x. constant_by And x (constant_by b None None)) (no_literal a e))
stays_unknown Or a b e = sym (ap (λ x. constant_by Or x (constant_by b None None)) (no_literal a e))
stays_unknown k a b e = refl

module _ (c : Columns) where
  none_known : (j : ℕ) → value_in (known_after c 0) j ≡ None
  none_known j = elim (cases_lt j (many c)) [
    | inl l ↦ get_or-map-range_with_len (λ k. None) 0 (many c) j j None l (omega arith)
    | inr g ↦ get_or_past (known_after c 0) j None (let n = length-map-range_with_len {X = Option ℕ} (λ k. None) 0 (many c) in omega arith)
  ]

  literal_known : (j : ℕ) → value_in (known_after c 1) j ≡ constant_by (kind_in c j) None None
  literal_known j = elim (cases_lt j (many c)) [
    | inl l ↦
        get_or-map-range_with_len (constant_at c (known_after c 0)) 0 (many c) j j None l (omega arith)
        ∙ (λ i. constant_by (kind_in c j) (none_known (left_of c j) i) (none_known (right_of c j) i))
    | inr g ↦
        get_or_past (known_after c 1) j None (let n = length-map-range_with_len (constant_at c (known_after c 0)) 0 (many c) in omega arith)
        ∙ sym (ap (λ q. constant_by q None None) (get_or_past c.kinds j ProgramKind g))
  ]

  none_folds : folding c ≡ [] → (k : ℕ) → k < many c → folds c k ≡ false
  none_folds none k l = elim (bool_or (folds c k)) [
    | inl t ↦ absurd (let r = filter_has (folds c) 0 (many c) k (omega arith) (omega arith) t in let s = r.1 in let n = ap length none in omega arith)
    | inr f ↦ f
  ]

  pub literals_alone : folding c ≡ [] → AreConstants c (known_after c 1)
  literals_alone none k l =
      literal_known k
      ∙ stays_unknown (kind_in c k) (kind_in c (left_of c k)) (kind_in c (right_of c k)) (none_folds none k l)
      ∙ sym (λ i. constant_by (kind_in c k) (literal_known (left_of c k) i) (literal_known (right_of c k) i))
