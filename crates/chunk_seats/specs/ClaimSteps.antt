-- What a step on a claim board tells the seat that takes it.
use Rattle.std.specs.Prelude.{◌≡◌, ℕ, ◌<◌, ◌≤◌, length}
use Rattle.atomic_table.specs.Table.{Me, Step}
use Rattle.chunk_seats.specs.declared.views.ClaimView.{ClaimView}
use Rattle.chunk_seats.specs.Tallies.{times, OnceBelow}
use Rattle.chunk_seats.specs.Claims.{claiming, spending, finishing}

-- a seat, by its view and the slots that it holds, of which there are none
abbrev pub Hand : Type 0
Hand = Me (Unit {0}) ClaimView

-- a draw from a board of k chunks: a chunk that no seat had claimed, or a number behind the last one, where a seat of the whole weight is seen to have
-- claimed each of them, once
abbrev pub Draws : (k seats : ℕ) → Step (Unit {0}) → Hand → ℕ → Hand → Type 0
Draws k seats st m r m' =
    (m'.1 ≡ m.1)
    × (r < k → (m'.0 ≡ claiming m.0 r) × (times r m.0.claimed ≡ 0) × (length m.0.claimed < k))
    × (k ≤ r → m'.0 ≡ spending m.0)
    × (k ≤ r → m.0.weight ≡ seats → OnceBelow k (λ n. times n m.0.claimed))

-- the count of the chunk c as done; a spent seat of the whole weight is seen to have claimed each of k chunks, once
abbrev pub Finishes : (c k seats : ℕ) → Step (Unit {0}) → Hand → ℕ → Hand → Type 0
Finishes c k seats st m r m' =
    (m'.1 ≡ m.1) × (m'.0 ≡ finishing m.0 c)
    × (m.0.weight ≡ seats → m.0.share ≡ 0 → OnceBelow k (λ n. times n m.0.claimed))
