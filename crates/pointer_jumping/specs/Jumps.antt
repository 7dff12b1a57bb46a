-- What is known of each node after some rounds of jumps.
use Rattle.std.specs.Prelude.{◌≡◌, ℕ, suc, ◌<◌, ◌≤◌, Bool, true, false, List, length, Option, Some, None, slice_index_or}
use Rattle.pointer_jumping.specs.Climbs.{parent_of, is_marked, Climbs}
use Rattle.pointer_jumping.specs.declared.jump.Jump.{Jump}
use Rattle.pointer_jumping.specs.declared.jump.Jump.TheVariants.{Root, Found, To}

-- from node i up, n parents that aren't marked are passed, the last of them j
pub data Passes (parents : List (Option ℕ)) (marks : List Bool) : (i n j : ℕ) → Type 0 where
  here : {i : ℕ} → Passes parents marks i 0 i
  up : {i p n j : ℕ} → parent_of parents i ≡ Some p → is_marked marks p ≡ false → Passes parents marks p n j → Passes parents marks i (suc n) j

-- a jump of node i has passed n parents, or come to the end within as many
abbrev pub IsJump : List (Option ℕ) → List Bool → ℕ → ℕ → Jump → Type 0
IsJump parents marks n i Root = (d : ℕ) × (d ≤ n) × Climbs parents marks i d None
IsJump parents marks n i (Found p) = (d : ℕ) × (d ≤ n) × Climbs parents marks i d (Some p)
IsJump parents marks n i (To j) = Passes parents marks i n j

-- the jump of a node
abbrev pub jump_at : List Jump → ℕ → Jump
jump_at jumps i = slice_index_or jumps i Root

-- a jump for each node
pub record AreJumps (parents : List (Option ℕ)) (marks : List Bool) (n : ℕ) (jumps : List Jump) : Type 0 where
  pub as_many : length jumps ≡ length parents
  pub each : (i : ℕ) → i < length parents → IsJump parents marks n i (jump_at jumps i)

-- whether the jump hasn't come to the end
abbrev pub is_open : Jump → Bool
is_open Root = false
is_open (Found p) = false
is_open (To j) = true

-- the node where it stands is one of this many
abbrev pub StandsBelow : ℕ → Jump → Type 0
StandsBelow n Root = Unit {0}
StandsBelow n (Found p) = Unit {0}
StandsBelow n (To j) = j < n

-- what is known ahead, at the node where the jump stands, or the same where it has come to the end
abbrev pub onwards : List Jump → Jump → Jump
onwards ahead Root = Root
onwards ahead (Found p) = Found p
onwards ahead (To j) = jump_at ahead j

-- the ancestor that the jump has found
abbrev pub found_by : Jump → Option ℕ
found_by Root = None
found_by (Found p) = Some p
found_by (To j) = None
