-- The least conflict of a grammar's predictions, terminal by terminal.
use Rattle.std.specs.Prelude.{◌≡◌, ◌≢◌, ℕ, ◌<◌, ◌≤◌, List, [], ◌∷◌, length, Bool, Option, Some, None, slice_index_or}
use Rattle.grammar_file.specs.declared.symbols.Symbol.TheVariants.{Nonterminal}
use Rattle.grammar_file.specs.Grammar.{Grammar}
use Rattle.grammar_file.specs.Marks.{AreMarksOf}
use Rattle.ll1_sets.specs.Predict.{IsNullable, IsFirst, IsFollow, IsPredicted, HasConflict}
use Rattle.ll1_sets.specs.declared.conflicts.Conflict.{Conflict}

-- the marks of the nonterminals that derive nothing, and of those with b in FIRST and in FOLLOW
pub record AreSets (g : Grammar) (b : ℕ) (nulls firsts follows : List Bool) : Type 0 where
  pub nullable : AreMarksOf g (λ a. IsNullable g (Nonterminal a ∷ [])) nulls
  pub first : AreMarksOf g (λ a. IsFirst g (Nonterminal a ∷ []) b) firsts
  pub follow : AreMarksOf g (λ a. IsFollow g a b) follows

-- the two least productions of a that predict b
pub record AreTwoLeast (g : Grammar) (a b p1 p2 : ℕ) : Type 0 where
  pub first : IsPredicted g a p1 b
  pub second : IsPredicted g a p2 b
  pub in_order : p1 < p2
  pub no_lesser_production : (p : ℕ) → IsPredicted g a p b → p ≢ p1 → p2 ≤ p

-- the least conflict on b
pub record IsLeastOn (g : Grammar) (b : ℕ) (k : Conflict) : Type 0 where
  pub on : k.b ≡ b
  pub pair : AreTwoLeast g k.nonterminal b k.p1 k.p2
  pub no_lesser_nonterminal : (n : ℕ) → n < k.nonterminal → ¬ HasConflict g n b

-- the least conflict on a terminal below n
pub record IsLeastBelow (g : Grammar) (n : ℕ) (k : Conflict) : Type 0 where
  pub pair : AreTwoLeast g k.nonterminal k.b k.p1 k.p2
  pub no_lesser_terminal : (c : ℕ) → c < k.b → ¬ HasConflict g k.nonterminal c
  pub no_lesser_nonterminal : (a c : ℕ) → a < k.nonterminal → c < n → ¬ HasConflict g a c

abbrev pub LeastOn : Grammar → ℕ → Option Conflict → Type 0
LeastOn g b None = (a : ℕ) → ¬ HasConflict g a b
LeastOn g b (Some k) = IsLeastOn g b k

abbrev pub LeastBelow : Grammar → ℕ → Option Conflict → Type 0
LeastBelow g n None = (a c : ℕ) → c < n → ¬ HasConflict g a c
LeastBelow g n (Some k) = IsLeastBelow g n k

-- of the first n productions b predicts at most one of a
abbrev pub HasNoConflictTo : Grammar → ℕ → ℕ → ℕ → Type 0
HasNoConflictTo g n a b = (p q : ℕ) → p ≤ n → q ≤ n → IsPredicted g a p b → IsPredicted g a q b → p ≡ q

-- the least conflict on b of the first n productions
pub record IsLeastTo (g : Grammar) (n b : ℕ) (k : Conflict) : Type 0 where
  pub on : k.b ≡ b
  pub pair : AreTwoLeast g k.nonterminal b k.p1 k.p2
  pub no_lesser_nonterminal : (a : ℕ) → a < k.nonterminal → HasNoConflictTo g n a b

abbrev pub LeastTo : Grammar → ℕ → ℕ → Option Conflict → Type 0
LeastTo g n b None = (a : ℕ) → HasNoConflictTo g n a b
LeastTo g n b (Some k) = IsLeastTo g n b k

-- what the first n productions tell of b: a production of each nonterminal that it predicts, and the least conflict on it
pub record ArePredictedTo (g : Grammar) (n b : ℕ) (predictions : List (Option ℕ)) (conflict : Option Conflict) : Type 0 where
  pub len : length predictions ≡ length g.nonterminals
  pub sound : (a p : ℕ) → slice_index_or predictions a None ≡ Some p → (p ≤ n) × IsPredicted g a p b
  pub complete : (a p : ℕ) → p ≤ n → IsPredicted g a p b → (q : ℕ) × (slice_index_or predictions a None ≡ Some q)
  pub least : LeastTo g n b conflict
