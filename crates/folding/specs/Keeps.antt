-- What folding keeps of a program's end. Where it is ended, or met a bound, it stays, with the numbers that were printed. Where it overran its
-- stack, the folded program has printed these numbers too: it needs no more stack than before, so it overruns later or not at all.
use Rattle.std.specs.Prelude.{◌≡◌, ℕ, List, ◌++◌}
use Rattle.source_meaning.specs.Ast.{Program}
use Rattle.source_meaning.specs.Meaning.{Outcome, Ended, Stopped, Deep, More, End, meaning}

-- on a stack of this many bytes, for the bound n, the program comes to this after it printed these numbers
abbrev pub Means : Program → (stack n : ℕ) → Outcome → List ℕ → Type 0
Means p stack n o out = meaning p stack n ≡ record { outcome = o; printed = out }

-- numbers, and others behind them
abbrev pub IsFront : List ℕ → List ℕ → Type 0
IsFront out later = (more : List ℕ) × (later ≡ out ++ more)

abbrev pub KeepsAs : Outcome → End → End → Type 0
KeepsAs (Ended v) e o = o ≡ e
KeepsAs (Stopped More) e o = o ≡ e
KeepsAs (Stopped Deep) e o = IsFront e.printed o.printed

abbrev pub Keeps : End → End → Type 0
Keeps e o = KeepsAs e.outcome e o
