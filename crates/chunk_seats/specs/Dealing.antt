-- What holds of a claim board between any two steps. Word 0 is the counter, from which numbers are drawn, and word 1 the count of
-- chunks that are done.
use Rattle.std.specs.Prelude.{◌≡◌, ℕ, ◌+◌, ◌<◌, ◌≤◌, ◌^◌, ◌⊎◌, min, [], ◌∷◌, length}
use Rattle.atomic_table.specs.Table.{State}
use Rattle.chunk_seats.specs.declared.views.ClaimView.{ClaimView}
use Rattle.chunk_seats.specs.declared.views.Deal.{Deal}
use Rattle.chunk_seats.specs.Tallies.{total, times, OnceBelow, Every}

-- what holds of one seat, where this is the counter: only a spent seat has no share, and then no chunk is left
pub record Fits (d : Deal) (counter : ℕ) (v : ClaimView) : Type 0 where
  pub share_is : (v.share ≡ 0) ⊎ (v.share ≡ v.weight)
  pub spent : 0 < v.weight → v.share ≡ 0 → d.chunks ≤ counter
  pub idle : v.weight ≡ 0 → (v.claimed ≡ []) × (v.done ≡ [])
  pub within : (n : ℕ) → times n v.done ≤ times n v.claimed

-- the rule: no more numbers can be drawn than there are chunks and seats, each chunk below the counter was claimed once, and the chunks that are done are counted
pub record Dealt (d : Deal) (s : State (Unit {0}) ClaimView) : Type 0 where
  pub counter : ℕ
  pub finished : ℕ
  pub words : s.words ≡ counter ∷ finished ∷ []
  pub small : (d.chunks < 2 ^ 62) × (d.seats < 2 ^ 32)
  pub room : counter + total (λ v. v.share) s.views ≤ d.chunks + d.seats
  pub weights : total (λ v. v.weight) s.views ≡ d.seats
  pub once : OnceBelow (min counter d.chunks) (λ n. total (λ v. times n v.claimed) s.views)
  pub lengths : total (λ v. length v.claimed) s.views ≡ min counter d.chunks
  pub all_done : finished ≡ total (λ v. length v.done) s.views
  pub each : Every (Fits d counter) s.views
