-- Stretches that are settled one after the other.
use Rattle.std.proofs.Common.{◌≡◌, ℕ, zero, suc, ◌+◌, ◌<◌, ◌≤◌, ◌⊎◌, inl, inr, List, ap, subst, arith}
use Rattle.std.proofs.lemmas.Bool.{cases_lt}
use Rattle.list_cuts.specs.Cuts.{number_at, start_of}

pub start_more : (ends : List ℕ) (c : ℕ) → number_at ends c ≡ start_of ends (c + 1)
start_more ends c = ap (start_of ends) (let e : suc c ≡ c + 1 = omega arith in e)

-- no stretch begins before the end of an earlier one
pub starts_rise : (ends : List ℕ) (first last c : ℕ) → ((d : ℕ) → first ≤ d → d < last → start_of ends d ≤ number_at ends d) → first < c → c ≤ last → number_at ends first ≤ start_of ends c
starts_rise ends first last zero order lt le = absurd (omega arith)
starts_rise ends first last (suc c) order lt le = by (cases_lt first c) (λ more. starts_rise ends first last c order more (omega arith))
  where
    by : (first < c) ⊎ (c ≤ first) → (first < c → number_at ends first ≤ start_of ends c) → number_at ends first ≤ number_at ends c
    by (inl more) rest = let r = rest more in let o = order c (omega arith) (omega arith) in omega arith
    by (inr less) rest = let e : first ≡ c = omega arith in subst (λ (d : ℕ). number_at ends first ≤ number_at ends d) e (omega arith)
