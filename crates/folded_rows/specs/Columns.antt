-- Constant folding over the columns of a program's rows: which rows are constants, which stay, and what those that stay become.
use Rattle.std.specs.Prelude.{◌≡◌, ℕ, zero, suc, ◌+◌, ◌-◌, ◌<◌, Bool, true, false, not, ◌&&◌, ◌||◌, nat_eq, nat_lt, is_some, max, Option, Some, None, List, length, map, slice_index_or, if◌then◌else◌}
use Rattle.std.specs.List.{range_with_len, filter}
use Rattle.source_meaning.specs.declared.kinds.Kind.{Kind}
use Rattle.source_meaning.specs.declared.kinds.Kind.TheVariants.{Program as ProgramKind, And, Or, Binary, Unary, Num, Truth}
use Rattle.source_meaning.specs.declared.kinds.ValueType.{ValueType}
use Rattle.source_meaning.specs.declared.kinds.ValueType.TheVariants.{Int, Bool as BoolType}
use Rattle.source_meaning.specs.Operators.{flag, unary_value, binary_value}
use Rattle.source_meaning.specs.Typing.{unary_operand, binary_type, group_of}
use Rattle.source_meaning.specs.Rows.{Row}
use Rattle.ast_rows.specs.NodeRows.{token_word, parent_numbers, lows_of, rows_from}
use Rattle.row_laws.specs.Evals.{is_eval}
use Rattle.row_laws.specs.Climbed.{parents_by, place_at}

-- the columns of rows: kinds, parents, own tokens, places among the siblings, and the first rows of subtrees
pub record Columns : Type 0 where
  pub kinds : List Kind
  pub parents : List ℕ
  pub tokens : List ℕ
  pub places : List ℕ
  pub lows : List ℕ

abbrev pub columns_of : List Row → Columns
columns_of rows = record {
  kinds = map (λ r. r.kind) rows;
  parents = parent_numbers 0 rows;
  tokens = map (λ r. token_word r.token) rows;
  places = map (λ r. r.place) rows;
  lows = lows_of (parent_numbers 0 rows);
}

-- ---- the constant that a row is, by those that its last two children are

abbrev pub both : (ℕ → ℕ → ℕ) → Option ℕ → Option ℕ → Option ℕ
both f None y = None
both f (Some x) None = None
both f (Some x) (Some y) = Some (f x y)

abbrev pub one_of : (ℕ → ℕ) → Option ℕ → Option ℕ
one_of f None = None
one_of f (Some x) = Some (f x)

-- an And is decided by 0, an Or by any other value
abbrev pub and_of : Option ℕ → Option ℕ → Option ℕ
and_of None y = None
and_of (Some zero) y = Some 0
and_of (Some (suc n)) y = y

abbrev pub or_of : Option ℕ → Option ℕ → Option ℕ
or_of None y = None
or_of (Some zero) y = y
or_of (Some (suc n)) y = Some (suc n)

abbrev pub constant_by : Kind → (left right : Option ℕ) → Option ℕ
constant_by (Num v) x y = Some v
constant_by (Truth b) x y = Some (flag b)
constant_by (Unary op) x y = one_of (unary_value op) y
constant_by (Binary op) x y = both (binary_value op) x y
constant_by And x y = and_of x y
constant_by Or x y = or_of x y
constant_by kind x y = None

-- an And or an Or whose left side is a constant that doesn't decide it gives way to its right side
abbrev pub gives_way_by : Kind → (left : Option ℕ) → Bool
gives_way_by And (Some (suc n)) = true
gives_way_by Or (Some zero) = true
gives_way_by kind x = false

-- a constant's kind is that of the type of the node that it replaces
abbrev pub constant_kind : ValueType → ℕ → Kind
constant_kind Int x = Num x
constant_kind BoolType zero = Truth false
constant_kind BoolType (suc zero) = Truth true
constant_kind BoolType (suc (suc n)) = Num (suc (suc n))

abbrev pub kind_by : Kind → Option ℕ → Kind
kind_by kind None = kind
kind_by (Unary op) (Some x) = constant_kind (unary_operand op) x
kind_by (Binary op) (Some x) = constant_kind (binary_type (group_of op)) x
kind_by And (Some x) = constant_kind BoolType x
kind_by Or (Some x) = constant_kind BoolType x
kind_by kind (Some x) = kind

-- a constant in itself
abbrev pub is_literal : Kind → Bool
is_literal (Num v) = true
is_literal (Truth b) = true
is_literal kind = false

-- an operator that folding changes as it stands, by which of its last two children are literals
abbrev pub folds_by : Kind → (left right : Bool) → Bool
folds_by (Unary op) left right = right
folds_by (Binary op) left right = right && left
folds_by And left right = left
folds_by Or left right = left
folds_by kind left right = false

abbrev pub number_in : List ℕ → ℕ → ℕ
number_in column k = slice_index_or column k 0

abbrev pub value_in : List (Option ℕ) → ℕ → Option ℕ
value_in values k = slice_index_or values k None

module _ (c : Columns) where
  abbrev pub many : ℕ
  many = length c.kinds

  abbrev pub kind_in : ℕ → Kind
  kind_in k = slice_index_or c.kinds k ProgramKind

  -- the last child of a row stands right before it, and the one before that child right before its subtree
  abbrev pub right_of : ℕ → ℕ
  right_of k = k - 1

  abbrev pub left_of : ℕ → ℕ
  left_of k = number_in c.lows (k - 1) - 1

  -- the constants that rows are, None where a row is none: each by its children
  abbrev pub AreConstants : List (Option ℕ) → Type 0
  AreConstants values = (k : ℕ) → k < many → value_in values k ≡ constant_by (kind_in k) (value_in values (left_of k)) (value_in values (right_of k))

  -- the operators that fold as they stand, in order: where there is none, nothing folds
  abbrev pub folds : ℕ → Bool
  folds k = folds_by (kind_in k) (is_literal (kind_in (left_of k))) (is_literal (kind_in (right_of k)))

  abbrev pub folding : List ℕ
  folding = filter folds (range_with_len 0 many)

  module _ (values : List (Option ℕ)) where
    -- ---- which rows stay

    -- a row whose right side stands for it
    abbrev pub gives_way : ℕ → Bool
    gives_way k = gives_way_by (kind_in k) (value_in values (left_of k))

    -- the left side of such a row
    abbrev pub is_dropped : ℕ → Bool
    is_dropped k = nat_eq (number_in c.places k) 0 && gives_way_by (kind_in (number_in c.parents k)) (value_in values k)

    -- a constant, below which no row stays: where it gives way itself, its right side stands for it, but for one that is dropped
    abbrev pub is_bare : ℕ → Bool
    is_bare k = is_some (value_in values k) && (not (gives_way k) || is_dropped k)

    -- Rows from the last one on: how many of them, with the one of this number, lie in its subtree or behind it, if no row below it stays
    abbrev pub span : ℕ → ℕ
    span m = let k = many - 1 - m in if is_bare k then many - number_in c.lows k else 0

    -- the greatest span of the rows of lesser numbers
    abbrev pub reach : ℕ → ℕ
    reach zero = 0
    reach (suc m) = max (reach m) (span m)

    -- a row below a bare one
    abbrev pub is_below : ℕ → Bool
    is_below k = nat_lt (many - 1 - k) (reach (many - 1 - k))

    abbrev pub stays : ℕ → Bool
    stays k = not (is_below k) && (not (gives_way k) && not (is_dropped k))

    -- the rows that stay, in order
    abbrev pub kept : List ℕ
    kept = filter stays (range_with_len 0 many)

    -- the new number of a row: how many rows before it stay
    abbrev pub rank : ℕ → ℕ
    rank zero = 0
    rank (suc k) = rank k + (if stays k then 1 else 0)

    -- ---- the columns of those that stay
    abbrev pub new_kinds : List Kind
    new_kinds = map (λ k. kind_by (kind_in k) (value_in values k)) kept

    abbrev pub new_lows : List ℕ
    new_lows = map (λ k. rank (number_in c.lows k)) kept

    -- a constant has the own token of the row that it replaces
    abbrev pub kept_tokens : List ℕ
    kept_tokens = map (λ k. number_in c.tokens k) kept

    -- and a statement that is a value has its value's, which stands right before it
    abbrev pub new_tokens : List ℕ
    new_tokens = map (λ m. number_in kept_tokens (if is_eval (slice_index_or new_kinds m ProgramKind) then m - 1 else m)) (range_with_len 0 (length kept))

    -- parents and places follow from the first rows of subtrees
    abbrev pub new_parents : List ℕ
    new_parents = parents_by new_lows

    abbrev pub new_places : List ℕ
    new_places = map (place_at new_parents) (range_with_len 0 (length new_lows))

    abbrev pub new_rows : List Row
    new_rows = rows_from 0 new_kinds new_parents new_tokens new_places

    -- ---- names
    -- the new number of a row that stays
    abbrev pub new_number : ℕ → Option ℕ
    new_number j = if stays j then Some (rank j) else None

    abbrev pub new_number_of : Option ℕ → Option ℕ
    new_number_of None = None
    new_number_of (Some j) = new_number j

    abbrev pub new_meant : List (Option ℕ) → List (Option ℕ)
    new_meant meant = map (λ k. new_number_of (slice_index_or meant k None)) kept

    abbrev pub new_declared : List ℕ → List ℕ
    new_declared numbers = map (λ k. number_in numbers k) kept
