-- What a pass knows of a place when it has seen the places before `to`, or those from `from` on.
use Rattle.std.specs.Prelude.{◌≡◌, ℕ, ◌+◌, ◌<◌, ◌≤◌, List, length}
use Rattle.list_cuts.specs.Cuts.{number_at}

-- v is the least place behind k that ends it, if one before `to` does, and the number of all places if none does
pub record IsNextUntil (values bounds : List ℕ) (to k v : ℕ) : Type 0 where
  pub behind : k < v
  pub passed : (m : ℕ) → k < m → m < to → m < v → number_at bounds k < number_at values m
  pub found : v < to → number_at values v ≤ number_at bounds k
  pub none : to ≤ v → v ≡ length values

-- Place i ends all places from t on up to itself, and not the one before t, if that is one from `from` on
pub record IsBeginFrom (values bounds : List ℕ) (from i t : ℕ) : Type 0 where
  pub low : from ≤ t
  pub high : t ≤ i
  pub above : (k : ℕ) → t ≤ k → k < i → number_at values i ≤ number_at bounds k
  pub before : (k : ℕ) → k + 1 ≡ t → from ≤ k → number_at bounds k < number_at values i
