-- What a step on a status board tells the seat that takes it.
use Rattle.std.specs.Prelude.{◌≡◌, ℕ, All, List, [], ◌∷◌, ◌++◌}
use Rattle.atomic_table.specs.Table.{Me, Step}
use Rattle.chunk_seats.specs.Tallies.{times}
use Rattle.scan_lookback.specs.declared.views.LookView.{LookView}
use Rattle.scan_lookback.specs.Views.{showing, sealing, looking}
use Rattle.scan_lookback.specs.Posting.{Status}

-- a seat, by its view and the slots that it holds, of which there are none
abbrev pub Looker : Type 0
Looker = Me (Unit {0}) LookView

-- a sum is published
abbrev pub Shows : Step (Unit {0}) → Looker → ℕ → Looker → Type 0
Shows st m r m' = (m'.1 ≡ m.1) × (m'.0 ≡ showing m.0 st.word)

-- a prefix is published
abbrev pub Seals : Step (Unit {0}) → Looker → ℕ → Looker → Type 0
Seals st m r m' = (m'.1 ≡ m.1) × (m'.0 ≡ sealing m.0 st.word)

-- a load of 0 comes only for a chunk that the seat has not shown, and of which it has loaded nothing else
abbrev pub FoundNothing : LookView → ℕ → Type 0
FoundNothing v j = (times j v.shown ≡ 0) × All (λ p. p.0 ≡ j → p.1 ≡ 0) v.looked

-- the seat's last load was of the chunk j, and this was the word
abbrev pub LastLoaded : LookView → ℕ → ℕ → Type 0
LastLoaded v j word = (earlier : List (ℕ × ℕ)) × (v.looked ≡ earlier ++ (j, word) ∷ [])

-- the load is noted, and the word is one that the chunk may have
abbrev pub Finds : List ℕ → List ℕ → Step (Unit {0}) → Looker → ℕ → Looker → Type 0
Finds sums prefixes st m r m' =
    (m'.1 ≡ m.1) × (m'.0 ≡ looking m.0 st.word r) × Status sums prefixes st.word r × (r ≡ 0 → FoundNothing m.0 st.word)
