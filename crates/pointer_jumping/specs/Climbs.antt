-- The way from a node of a forest up to its nearest marked proper ancestor.
use Rattle.std.specs.Prelude.{◌≡◌, ℕ, suc, ◌<◌, ◌≤◌, Bool, true, false, List, length, Option, Some, None, slice_index_or}

-- the parent of a node, if it has one
abbrev pub parent_of : List (Option ℕ) → ℕ → Option ℕ
parent_of parents i = slice_index_or parents i None

-- whether a node is marked
abbrev pub is_marked : List Bool → ℕ → Bool
is_marked marks i = slice_index_or marks i false

-- a parent's number is greater than its child's, and one of a node
abbrev pub AreUpward : List (Option ℕ) → Type 0
AreUpward parents = (i p : ℕ) → parent_of parents i ≡ Some p → (i < p) × (p < length parents)

-- From node i up, d parents are passed until a marked one comes, or the root where none is marked; which one, if any
pub data Climbs (parents : List (Option ℕ)) (marks : List Bool) : (i d : ℕ) → Option ℕ → Type 0 where
  root : {i : ℕ} → parent_of parents i ≡ None → Climbs parents marks i 0 None
  found : {i p : ℕ} → parent_of parents i ≡ Some p → is_marked marks p ≡ true → Climbs parents marks i 1 (Some p)
  passed : {i p d : ℕ} {a : Option ℕ} → parent_of parents i ≡ Some p → is_marked marks p ≡ false → Climbs parents marks p d a → Climbs parents marks i (suc d) a

-- no node passes more than d parents
abbrev pub AreWithin : List (Option ℕ) → List Bool → ℕ → Type 0
AreWithin parents marks d = (i k : ℕ) (a : Option ℕ) → i < length parents → Climbs parents marks i k a → k ≤ d
