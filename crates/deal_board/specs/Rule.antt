-- What holds of a board between any two steps. Word 0 is the counter, from which numbers are drawn, and slot k is the place of item k.
use Rattle.std.specs.Prelude.{◌≡◌, ℕ, ◌<◌, ◌≤◌, List, [], ◌∷◌, ◌++◌, length, slice_get, Some}
use mathlib.Core.Option as maybe
use lib.ListN.{get_elem?}
use Rattle.atomic_table.specs.Table.{State, Me, Step}
use Rattle.chunk_seats.specs.declared.views.ClaimView.{ClaimView}
use Rattle.chunk_seats.specs.declared.views.Deal.{Deal}
use Rattle.chunk_seats.specs.Tallies.{total, times}
use Rattle.chunk_seats.specs.Claims.{claiming, spending}
use Rattle.chunk_seats.specs.Dealing.{Dealt}
use Rattle.deal_board.specs.Held.{settled}

-- a claim board of the same seats, whose chunks are done as the items come back
abbrev pub claim_board : ℕ → List ClaimView → State (Unit {0}) ClaimView
claim_board counter views = record { words = counter ∷ total (λ v. length v.done) views ∷ []; homes = []; views = views }

-- the rule: the numbers are drawn as those of a claim board, an item that was not drawn is at home as it was at first, and one that came back is at home and good for its number
pub record Served {T : Type 0} (items : List T) (good : ℕ → T → Type 0) (d : Deal) (s : State T ClaimView) : Type 0 where
  pub counter : ℕ
  pub words : s.words ≡ counter ∷ []
  pub slots : (d.chunks ≡ length items) × (length s.homes ≡ length items)
  pub dealt : Dealt d (claim_board counter s.views)
  pub waiting : (k : ℕ) (x : T) → counter ≤ k → get_elem? items k ≡ maybe.some x → get_elem? s.homes k ≡ maybe.some (maybe.some x)
  pub back : (k : ℕ) → 0 < total (λ v. times k v.done) s.views → (x : T) × (get_elem? s.homes k ≡ maybe.some (maybe.some x)) × good k x

-- a seat has at most the item that it drew last in its hand, and each other one that it drew is at home again
abbrev pub Carries : {T : Type 0} → ClaimView → List (ℕ × T) → Type 0
Carries v [] = v.done ≡ v.claimed
Carries v (x ∷ []) = v.claimed ≡ v.done ++ x.0 ∷ []
Carries v (x ∷ y ∷ xs) = ⊥

-- a draw from a board of k items: the item of the number drawn comes into the hand, or the hand is empty
abbrev pub Deals : {T : Type 0} → List T → ℕ → Step T → Me T ClaimView → ℕ → Me T ClaimView → Type 0
Deals {T} items k st m r m' =
    (r < k → (m'.0 ≡ claiming (settled m.0) r) × ((times r m.0.claimed ≡ 0) × (length m.0.claimed < k)) × ((x : T) × (m'.1 ≡ (r, x) ∷ []) × (slice_get items r ≡ Some x)))
    × (k ≤ r → (m'.0 ≡ spending (settled m.0)) × (m'.1 ≡ []))
