-- Where the rows of a tree's nodes begin, and how many children the nodes have, in postorder.
use Rattle.std.specs.Prelude.{ℕ, suc, ◌+◌, List, [], ◌∷◌, ◌++◌, length}
use Rattle.source_meaning.specs.Rows.{Node, node, Nodes, last, next}

-- the number of the first row of each node's subtree, for nodes whose rows are numbered from i on
abbrev mutual
  pub node_lows : ℕ → Node → List ℕ
  node_lows i (node k t cs) = nodes_lows i cs ++ i ∷ []

  pub nodes_lows : ℕ → Nodes → List ℕ
  nodes_lows i last = []
  nodes_lows i (next c cs) = let lows = node_lows i c in lows ++ nodes_lows (i + length lows) cs

-- how many nodes these are
abbrev pub nodes_many : Nodes → ℕ
nodes_many last = 0
nodes_many (next c cs) = suc (nodes_many cs)

-- how many children each node has
abbrev mutual
  pub node_counts : Node → List ℕ
  node_counts (node k t cs) = nodes_counts cs ++ nodes_many cs ∷ []

  pub nodes_counts : Nodes → List ℕ
  nodes_counts last = []
  nodes_counts (next c cs) = node_counts c ++ nodes_counts cs
