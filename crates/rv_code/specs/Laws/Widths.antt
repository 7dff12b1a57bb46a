-- How many words items have, linked or not.
use Rattle.std.proofs.Common.{◌≡◌, ℕ, ◌+◌, ◌-◌, ◌≤◌, List, [], ◌∷◌, ◌++◌, length, refl, ◌∙◌, arith, length-append}
use Rattle.rv_isa.specs.declared.instructions.Instr.{Instr}
use Rattle.rv_code.specs.Code.{Layout, Short, Long, Item, instr, call_of, leave, jump_over, jump_back, unless_zero, if_zero, instrs, jump_width, width, wide, jump, linked_item, linked}

-- a jump has one word, or two
pub jump_width_is : (layout : Layout) → (1 ≤ jump_width layout) × (jump_width layout ≤ 2)
jump_width_is Short = (omega arith, omega arith)
jump_width_is Long = (omega arith, omega arith)

pub jump_wide : (layout : Layout) (rd from to : ℕ) → length (jump layout rd from to) ≡ jump_width layout
jump_wide Short rd from to = refl
jump_wide Long rd from to = refl

module _ (layout : Layout) where
  pub wide_append : (xs ys : List Item) → wide layout (xs ++ ys) ≡ wide layout xs + wide layout ys
  wide_append [] ys = omega arith
  wide_append (x ∷ xs) ys = omega (arith, wide_append xs ys)

  pub wide_instrs : (is : List Instr) → wide layout (instrs is) ≡ length is
  wide_instrs [] = refl
  wide_instrs (x ∷ is) = omega (arith, wide_instrs is)

  pub item_long : (places : List ℕ → ℕ) (label at : ℕ) (it : Item) → length (linked_item layout places label at it) ≡ width layout it
  item_long places label at (instr x) = refl
  item_long places label at (call_of f) = jump_wide layout 1 at (places f)
  item_long places label at leave = jump_wide layout 0 at label
  item_long places label at (jump_over n) = jump_wide layout 0 at (at + jump_width layout + n)
  item_long places label at (jump_back n) = jump_wide layout 0 at (at - n)
  item_long places label at (unless_zero r) = refl
  item_long places label at (if_zero r) = refl

  pub linked_long : (places : List ℕ → ℕ) (label at : ℕ) (items : List Item) → length (linked layout places label at items) ≡ wide layout items
  linked_long places label at [] = refl
  linked_long places label at (it ∷ is) =
      length-append (linked_item layout places label at it) (linked layout places label (at + width layout it) is)
      ∙ (λ i. item_long places label at it i + linked_long places label (at + width layout it) is i)
