-- What holds of a status board between any two steps. There is a word for each chunk: 0, or four times the code of the chunk's sum
-- plus 1, or four times the code of the join of all sums up to it and with it, plus 2.
use Rattle.std.specs.Prelude.{◌≡◌, ℕ, ◌+◌, ◌*◌, ◌<◌, ◌⊎◌, max, All, List, [], length, slice_index}
use Rattle.atomic_table.specs.Table.{State}
use Rattle.chunk_seats.specs.Tallies.{total, times, Every}
use Rattle.scan_lookback.specs.declared.views.LookView.{LookView}

module _ (sums prefixes : List ℕ) where
  -- the word says the chunk's sum, or the join up to the chunk
  abbrev pub Says : ℕ → ℕ → Type 0
  Says c word = (word ≡ 4 * slice_index sums c + 1) ⊎ (word ≡ 4 * slice_index prefixes c + 2)

  abbrev pub Status : ℕ → ℕ → Type 0
  Status c word = (word ≡ 0) ⊎ Says c word

  -- what holds of one seat, where these are the words: what it has published is there, what it has found is true and still there, and a seat that is no more has shown nothing
  pub record Sees (words : List ℕ) (v : LookView) : Type 0 where
    pub shown : (c : ℕ) → 0 < times c v.shown → (c < length sums) × (0 < slice_index words c)
    pub sealed : (c : ℕ) → 0 < times c v.sealed → 0 < times c v.shown
    pub idle : v.share ≡ 0 → v.shown ≡ []
    pub looked : All (λ p. 0 < p.1 → (p.0 < length sums) × Says p.0 p.1 × (0 < slice_index words p.0)) v.looked

  -- the rule: in particular, of each chunk that has a word above 0 some seat has shown the sum
  pub record Posted (seats : ℕ) (s : State (Unit {0}) LookView) : Type 0 where
    pub wide : length s.words ≡ max (length sums) 1
    pub status : (c : ℕ) → c < length sums → Status c (slice_index s.words c)
    pub shown_by : (c : ℕ) → 0 < slice_index s.words c → 0 < total (λ v. times c v.shown) s.views
    pub shared : total (λ v. v.share) s.views ≡ seats
    pub each : Every (Sees s.words) s.views
