-- What holds of a least word between any two steps: it is at most each key that was offered, and is one of them or 2 ^ 64 - 1.
use Rattle.std.specs.Prelude.{◌≡◌, ℕ, [], ◌∷◌}
use Rattle.atomic_table.specs.Table.{State, Me, Step}
use Rattle.chunk_seats.specs.declared.views.OfferView.{OfferView}
use Rattle.chunk_seats.specs.Tallies.{total, times, Every}
use Rattle.chunk_seats.specs.Offers.{telling, LeastOf}

pub record Offered (seats : ℕ) (s : State (Unit {0}) OfferView) : Type 0 where
  pub least : ℕ
  pub words : s.words ≡ least ∷ []
  pub shared : total (λ v. v.share) s.views ≡ seats
  pub least_of : LeastOf (λ m. total (λ v. times m v.offered) s.views) least
  pub each : Every (λ v. v.share ≡ 0 → v.offered ≡ []) s.views

-- a seat, by its view and the slots that it holds, of which there are none
abbrev pub Teller : Type 0
Teller = Me (Unit {0}) OfferView

-- an offer is noted
abbrev pub Tells : Step (Unit {0}) → Teller → ℕ → Teller → Type 0
Tells st m r m' = (m'.1 ≡ m.1) × (m'.0 ≡ telling m.0 st.first)
