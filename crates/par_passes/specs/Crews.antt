-- What a group of workers leaves.
use Rattle.std.specs.Prelude.{◌≡◌, ℕ, ◌<◌, All, map, Result, Ok}
use Rattle.atomic_table.specs.Seated.{TableId}
use Rattle.par_passes.specs.declared.crew.Made.{Made}

-- it may be called with the number of each chunk
abbrev pub Callable : ℕ → (ℕ → Type 0) → Type 0
Callable chunks pre = (c : ℕ) → c < chunks → pre c

-- the bundle is what a call at the number of a chunk gave
abbrev pub Gave : {B E : Type 0} → ℕ → (ℕ → Result B E → Type 0) → ℕ × B → Type 0
Gave chunks post p = (p.0 < chunks) × post p.0 (Ok p.1)

-- its seat has all that weight and is spent, and the bundles are those of the chunks that it claimed
pub record Makes {B E : Type 0} (chunks : ℕ) (post : ℕ → Result B E → Type 0) (claims : TableId) (workers : ℕ) (r : Made B) : Type 0 where
  pub claims_is : r.mine.board ≡ claims
  pub weight : r.mine.view.weight ≡ workers
  pub spent : r.mine.view.share ≡ 0
  pub drawn : r.mine.view.claimed ≡ map (λ p. p.0) r.all.items
  pub made : All (Gave chunks post) r.all.items
