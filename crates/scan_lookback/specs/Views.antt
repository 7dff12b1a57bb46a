-- What a seat of a status board knows, and what each step leaves of it.
use Rattle.std.specs.Prelude.{ℕ, ◌+◌, ◌-◌, List, [], ◌∷◌, ◌++◌}
use Rattle.scan_lookback.specs.declared.views.LookView.{LookView}

abbrev pub looks : List ℕ → List ℕ → List (ℕ × ℕ) → ℕ → LookView
looks shown sealed looked share = record { shown = shown; sealed = sealed; looked = looked; share = share }

-- the view of a first seat, and of a new seat of that share
abbrev pub blank : ℕ → LookView
blank share = looks [] [] [] share

-- the sum of the chunk c is published
abbrev pub showing : LookView → ℕ → LookView
showing v c = looks (v.shown ++ c ∷ []) v.sealed v.looked v.share

-- the prefix of the chunk c is published
abbrev pub sealing : LookView → ℕ → LookView
sealing v c = looks v.shown (v.sealed ++ c ∷ []) v.looked v.share

-- the word of the chunk j is loaded
abbrev pub looking : LookView → ℕ → ℕ → LookView
looking v j word = looks v.shown v.sealed (v.looked ++ (j, word) ∷ []) v.share

-- these chunks and words are loaded, in this order
abbrev pub loading : LookView → List (ℕ × ℕ) → LookView
loading v loads = looks v.shown v.sealed (v.looked ++ loads) v.share

-- a new seat takes n of the share
abbrev pub leaving : LookView → ℕ → LookView
leaving v n = looks v.shown v.sealed v.looked (v.share - n)

-- another seat is joined to this one
abbrev pub uniting : LookView → LookView → LookView
uniting v w = looks (v.shown ++ w.shown) (v.sealed ++ w.sealed) (v.looked ++ w.looked) (v.share + w.share)
