-- All pairs have been put once all chunks were claimed.
use Rattle.std.proofs.Common.{◌≡◌, ℕ, ◌+◌, ◌*◌, ◌/◌, ◌<◌, ◌≤◌, min, List, [], ◌∷◌, ◌++◌, sym, ap, ◌∙◌, subst, arith, lt_of_not-le}
use Rattle.std.proofs.Math.Nat.{div-mul-le_self, lt-div-mul-add}
use Rattle.std.proofs.lemmas.Nat.{div_below}
use mathlib.Core.Logic.{dite}
use native.Mathlib.Decide.{dec_le, ℕ_discrete}
use Rattle.chunk_seats.specs.Tallies.{one, times, OnceBelow}
use Rattle.chunk_seats.specs.Chunks.{chunk_count}
use Rattle.chunk_seats.specs.Laws.Counted.{chunks_all}
use Rattle.chunk_seats.specs.Laws.Totals.{times-append, times_snoc, one_same, one_other}
use Rattle.scatter_rows.specs.Worked.{Covers, IsOf}

module _ (has : ℕ → ℕ → Type 0) where
  pub covers_none : (claimed put : List ℕ) → claimed ≡ [] → Covers has claimed put
  covers_none claimed put none c i p h = absurd (let e = ap (times c) none in omega arith)

  pub covers_more : (claimed put put' : List ℕ) (c : ℕ) → Covers has claimed put → ((i : ℕ) → 0 < times i put → 0 < times i put')
      → ((i : ℕ) → has c i → 0 < times i put') → Covers has (claimed ++ c ∷ []) put'
  covers_more claimed put put' c old kept new d i p h = dite (ℕ_discrete c d)
      (λ e. new i (subst (λ (m : ℕ). has m i) (sym e) h))
      (λ ne. kept i (old d i (omega (arith, times_snoc d claimed c, one_other d c ne)) h))

  pub covers_both : (claimed claimed' put put' : List ℕ) → Covers has claimed put → Covers has claimed' put' → Covers has (claimed ++ claimed') (put ++ put')
  covers_both claimed claimed' put put' one_team other c i p h = dite (dec_le (times c claimed) 0)
      (λ none_left. omega (arith, times-append i put put', other c i (omega (arith, times-append c claimed claimed')) h))
      (λ some_left. omega (arith, times-append i put put', one_team c i (lt_of_not-le some_left) h))

  pub covers_as : (claimed claimed' put put' : List ℕ) → claimed' ≡ claimed → put' ≡ put → Covers has claimed put → Covers has claimed' put'
  covers_as claimed claimed' put put' e f = subst (λ (p : List ℕ × List ℕ). Covers has p.0 p.1) (λ i. (sym e i, sym f i))

  pub all_put : (chunks counter : ℕ) (claimed put : List ℕ) → Covers has claimed put → chunks ≤ counter → OnceBelow (min counter chunks) (λ n. times n claimed)
      → (c i : ℕ) → c < chunks → has c i → 0 < times i put
  all_put chunks counter claimed put covers over once c i near h = covers c i (omega (arith, (once c).0 (omega arith))) h

-- the chunk that has an item
pub chunk_has : (size count i : ℕ) → 0 < size → i < count → (i / size < chunk_count size count) × IsOf size count (i / size) i
chunk_has size count i some_size near =
    let all : count ≤ chunk_count size count * size = chunks_all count size some_size in (
      div_below i size (chunk_count size count) some_size (omega arith),
      record { from = div-mul-le_self i size; to = lt-div-mul-add some_size; inside = near },
    )

-- what was put stays, and the last is there
pub kept_more : (old new : List ℕ) (d : ℕ) → new ≡ old ++ d ∷ [] → (i : ℕ) → 0 < times i old → 0 < times i new
kept_more old new d is i p = subst (λ (l : List ℕ). 0 < times i l) (sym is) (omega (arith, times_snoc i old d))

pub put_more : (from : ℕ) (old new : List ℕ) (d : ℕ) → new ≡ old ++ d ∷ [] → ((i : ℕ) → from ≤ i → i < d → 0 < times i old) → (i : ℕ) → from ≤ i → i < d + 1 → 0 < times i new
put_more from old new d is before i above below = subst (λ (l : List ℕ). 0 < times i l) (sym is) (dite (ℕ_discrete d i)
    (λ e. omega (arith, times_snoc i old d, ap (one i) e ∙ one_same i))
    (λ ne. omega (arith, times_snoc i old d, before i above (omega arith))))
