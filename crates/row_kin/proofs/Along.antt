-- Stretches that are settled one after the other.
use Rattle.std.proofs.Common.{◌≡◌, ℕ, ◌+◌, ◌<◌, ◌≤◌, ◌⊎◌, inl, inr, List, length, ap, ◌∙◌, subst, arith}
use Rattle.std.proofs.lemmas.Bool.{cases_lt}
use Rattle.list_cuts.specs.Cuts.{number_at, start_of, AreCuts}
use Rattle.row_kin.proofs.Starts.{starts_rise}
use Rattle.row_kin.specs.Taken.{taker, taken_by}
use Rattle.row_kin.specs.Settles.{DoneAlone, Stretched}

module _ (lows parents firsts places parents' firsts' places' : List ℕ) where
  -- a stretch where nothing was written
  pub kept_alone : (from to : ℕ) → ((k : ℕ) → from ≤ k → k < to → number_at parents' k ≡ number_at parents k) → ((k : ℕ) → from ≤ k → k < to → number_at firsts' k ≡ number_at firsts k) → ((k : ℕ) → from ≤ k → k < to → number_at places' k ≡ number_at places k) → DoneAlone lows parents firsts places from to → DoneAlone lows parents' firsts' places' from to
  kept_alone from to p f l d = record {
    up = λ k a b. p k a b ∙ d.up k a b;
    first = λ k a b. f k a b ∙ d.first k a b;
    place = λ k a b e. ap (λ (n : ℕ). n + taken_by lows (taker lows k) from) (l k a b) ∙ d.place k a b e;
    root = λ k a b e. l k a b ∙ d.root k a b e;
  }

  pub stretches_left : (ends : List ℕ) (first last : ℕ) → first < last → Stretched lows parents firsts places ends first last → ((k : ℕ) → number_at ends first ≤ k → number_at parents' k ≡ number_at parents k) → ((k : ℕ) → number_at ends first ≤ k → number_at firsts' k ≡ number_at firsts k) → ((k : ℕ) → number_at ends first ≤ k → number_at places' k ≡ number_at places k) → Stretched lows parents' firsts' places' ends (first + 1) last
  stretches_left ends first last lt s p f l = record {
    order = λ d a b. s.order d (omega arith) b;
    within = λ d a b. s.within d (omega arith) b;
    alone = λ d a b.
        let r = starts_rise ends first last d s.order (omega arith) (omega arith) in
        kept_alone (start_of ends d) (number_at ends d) (λ k x y. p k (omega arith)) (λ k x y. f k (omega arith)) (λ k x y. l k (omega arith)) (s.alone d (omega arith) b);
  }

  -- one stretch more is done
  pub stretches_more : (ends : List ℕ) (last from : ℕ) → AreCuts ends (length lows) → last < length ends → from ≡ start_of ends last → ((k : ℕ) → k < from → number_at parents' k ≡ number_at parents k) → ((k : ℕ) → k < from → number_at firsts' k ≡ number_at firsts k) → ((k : ℕ) → k < from → number_at places' k ≡ number_at places k) → Stretched lows parents firsts places ends 0 last → DoneAlone lows parents' firsts' places' from (number_at ends last) → Stretched lows parents' firsts' places' ends 0 (last + 1)
  stretches_more ends last from cuts lt here p f l s own = record {
    order = λ d a b. cuts.order d (omega arith);
    within = λ d a b. cuts.within d (omega arith);
    alone = λ d a b. by d (cases_lt d last) b;
  }
    where
      by : (d : ℕ) → (d < last) ⊎ (last ≤ d) → d < last + 1 → DoneAlone lows parents' firsts' places' (start_of ends d) (number_at ends d)
      by d (inl less) b =
          let r = starts_rise ends d last last (λ e g h. cuts.order e (omega arith)) less (omega arith) in
          kept_alone (start_of ends d) (number_at ends d) (λ k x y. p k (omega arith)) (λ k x y. f k (omega arith)) (λ k x y. l k (omega arith)) (s.alone d (omega arith) less)
      by d (inr ge) b =
          let e : last ≡ d = omega arith in
          subst (λ (a : ℕ). DoneAlone lows parents' firsts' places' a (number_at ends d)) (here ∙ ap (start_of ends) e)
          (subst (λ (a : ℕ). DoneAlone lows parents' firsts' places' from (number_at ends a)) e own)
