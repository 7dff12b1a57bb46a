-- What is known of all places is the two lists of the definitions.
use Rattle.std.proofs.Common.{◌≡◌, ℕ, zero, suc, ◌+◌, ◌<◌, ◌≤◌, ◌⊎◌, inl, inr, Bool, true, false, List, Some, sym, ap, ◌∙◌, arith}
use Rattle.std.specs.Prelude.{nat_le, nat_lt, if◌then◌else◌}
use Rattle.std.proofs.lemmas.Bool.{cases_lt}
use Rattle.std.proofs.lemmas.Bool.Decides.{nat_tests}
use Rattle.list_cuts.specs.Cuts.{number_at}
use Rattle.row_kin.specs.Nearest.{prev_below, behind}
use Rattle.row_kin.specs.Searched.{IsBeginFrom}

pub le_true : (a b : ℕ) → a ≤ b → nat_le a b ≡ true
le_true a b h = grind (arith, nat_tests)

pub le_false : (a b : ℕ) → b < a → nat_le a b ≡ false
le_false a b h = grind (arith, nat_tests)

pub lt_true : (a b : ℕ) → a < b → nat_lt a b ≡ true
lt_true a b h = grind (arith, nat_tests)

pub lt_false : (a b : ℕ) → b ≤ a → nat_lt a b ≡ false
lt_false a b h = grind (arith, nat_tests)

-- the search backwards for a number below x
below_from : (ns : List ℕ) (x t i : ℕ) → t ≤ i → ((k : ℕ) → t ≤ k → k < i → x ≤ number_at ns k) → ((k : ℕ) → k + 1 ≡ t → number_at ns k < x) → t ≡ behind (prev_below ns i x)
below_from ns x t zero le above before = omega arith
below_from ns x t (suc i) le above before = by (cases_lt i t) (λ ge. below_from ns x t i ge (λ k a b. above k a (omega arith)) before)
  where
    by : (i < t) ⊎ (t ≤ i) → (t ≤ i → t ≡ behind (prev_below ns i x)) → t ≡ behind (prev_below ns (suc i) x)
    by (inl lt) less =
        let e : suc i ≡ t = omega arith in
        sym e ∙ sym (ap (λ (c : Bool). behind (if c then Some i else prev_below ns i x)) (lt_true (number_at ns i) x (before i (omega arith))))
    by (inr ge) less =
        less ge
        ∙ sym (ap (λ (c : Bool). behind (if c then Some i else prev_below ns i x)) (lt_false (number_at ns i) x (above i ge (omega arith))))

pub begin_is : (xs bs : List ℕ) (k t : ℕ) → IsBeginFrom xs bs 0 k t → t ≡ behind (prev_below bs k (number_at xs k))
begin_is xs bs k t is = below_from bs (number_at xs k) t k is.high is.above (λ j e. is.before j e (omega arith))
