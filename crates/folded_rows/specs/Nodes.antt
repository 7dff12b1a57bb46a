-- Constant folding on the nodes of a tree: the constant that each is, which of them stay, and the folded node.
use Rattle.std.specs.Prelude.{ℕ, Bool, true, false, Option, Some, None, List, [], ◌∷◌, ◌++◌}
use Rattle.source_meaning.specs.declared.kinds.Kind.{Kind}
use Rattle.source_meaning.specs.declared.kinds.Kind.TheVariants.{Program as ProgramKind}
use Rattle.source_meaning.specs.Rows.{Node, node, Nodes, last, next}
use Rattle.folded_rows.specs.Columns.{constant_by, gives_way_by, kind_by}

-- the constant that a node is, by its last child and the one before that
abbrev mutual
  pub node_value : Node → Option ℕ
  node_value (node k t cs) = constant_by k (left_value None None cs) (right_value None cs)

  pub right_value : Option ℕ → Nodes → Option ℕ
  right_value y last = y
  right_value y (next c cs) = right_value (node_value c) cs

  pub left_value : Option ℕ → Option ℕ → Nodes → Option ℕ
  left_value x y last = x
  left_value x y (next c cs) = left_value y (node_value c) cs

-- none of these nodes
abbrev mutual
  pub none_of : Node → List Bool
  none_of (node k t cs) = none_of_all cs ++ false ∷ []

  pub none_of_all : Nodes → List Bool
  none_of_all last = []
  none_of_all (next c cs) = none_of c ++ none_of_all cs

-- which nodes stay: a node that gives way to its right side doesn't, a constant alone does, and any other one does with what stays below it
abbrev pub keeps_by : Bool → Option ℕ → (right nothing all : List Bool) → List Bool
keeps_by true x right nothing all = right ++ false ∷ []
keeps_by false (Some x) right nothing all = nothing ++ true ∷ []
keeps_by false None right nothing all = all ++ true ∷ []

-- of all nodes, in postorder
abbrev mutual
  pub keeps : Node → List Bool
  keeps (node k t cs) = keeps_by (gives_way_by k (left_value None None cs)) (constant_by k (left_value None None cs) (right_value None cs)) (keeps_last cs) (none_of_all cs) (keeps_all cs)

  pub keeps_last : Nodes → List Bool
  keeps_last last = []
  keeps_last (next c last) = keeps c
  keeps_last (next c (next d cs)) = none_of c ++ keeps_last (next d cs)

  pub keeps_all : Nodes → List Bool
  keeps_all last = []
  keeps_all (next c cs) = keeps c ++ keeps_all cs

-- the folded node, by its right side and its children; statements that are values keep the own tokens that they had
abbrev pub fold_by : Bool → Option ℕ → Kind → Option ℕ → Node → Nodes → Node
fold_by true x k t right cs = right
fold_by false (Some x) k t right cs = node (kind_by k (Some x)) t last
fold_by false None k t right cs = node k t cs

abbrev mutual
  pub fold_node : Node → Node
  fold_node (node k t cs) = fold_by (gives_way_by k (left_value None None cs)) (constant_by k (left_value None None cs) (right_value None cs)) k t (fold_last cs) (fold_nodes cs)

  pub fold_last : Nodes → Node
  fold_last last = node ProgramKind None last
  fold_last (next c last) = fold_node c
  fold_last (next c (next d cs)) = fold_last (next d cs)

  pub fold_nodes : Nodes → Nodes
  fold_nodes last = last
  fold_nodes (next c cs) = next (fold_node c) (fold_nodes cs)
