-- Chunks that are counted as done: a first one, and then all others in order.
use Rattle.std.proofs.Common.{◌≡◌, ◌≢◌, ℕ, ◌+◌, ◌<◌, ◌≤◌, List, [], ◌∷◌, ◌++◌, sym, ap, ◌∙◌, subst, arith}
use mathlib.Core.Logic.{dite}
use native.Mathlib.Decide.{dec_le}
use Rattle.chunk_seats.specs.Tallies.{times, one, OnceBelow}
use Rattle.chunk_seats.specs.Laws.Totals.{one_same, one_other, times_snoc}

-- the first one and those below k, each once
pub record IsCounted (first k : ℕ) (done : List ℕ) : Type 0 where
  pub first_once : times first done ≡ 1
  pub below : (n : ℕ) → n < k → times n done ≡ 1
  pub others : (n : ℕ) → n ≢ first → k ≤ n → times n done ≡ 0

pub first_counted : (first : ℕ) (before done : List ℕ) → before ≡ [] → done ≡ before ++ first ∷ [] → IsCounted first 0 done
first_counted first before done none is =
    let counts : (n : ℕ) → times n done ≡ one n first = λ n. ap (times n) is ∙ times_snoc n before first ∙ (let e = ap (times n) none in omega arith) in
    record {
      first_once = counts first ∙ one_same first;
      below = λ n h. absurd (omega arith);
      others = λ n other h. counts n ∙ one_other n first (λ e. other (sym e));
    }

-- the first one was counted before
pub passed_first : (first k : ℕ) (done : List ℕ) → k ≡ first → IsCounted first k done → IsCounted first (k + 1) done
passed_first first k done is c = record {
  first_once = c.first_once;
  below = λ n h. dite (dec_le k n) (λ far. let e : first ≡ n = omega arith in subst (λ (m : ℕ). times m done ≡ 1) e c.first_once) (λ near. c.below n (omega arith));
  others = λ n other h. c.others n other (omega arith);
}

pub counted_next : (first k : ℕ) (done more : List ℕ) → k ≢ first → IsCounted first k done → more ≡ done ++ k ∷ [] → IsCounted first (k + 1) more
counted_next first k done more other c is =
    let counts : (n : ℕ) → times n more ≡ times n done + one n k = λ n. ap (times n) is ∙ times_snoc n done k in
    record {
      first_once = (let none = one_other first k other in omega (arith, counts first, c.first_once));
      below = λ n h. dite (dec_le k n)
          (λ far. let e : k ≡ n = omega arith in
          subst (λ (m : ℕ). times m more ≡ 1) e (let there = one_same k in omega (arith, counts k, c.others k other (omega arith))))
          (λ near. let none = one_other n k (λ e. absurd (omega arith)) in omega (arith, counts n, c.below n (omega arith)));
      others = λ n apart h. (let none = one_other n k (λ e. absurd (omega arith)) in omega (arith, counts n, c.others n apart (omega arith)));
    }

-- what is counted in the end
pub all_counted : (first count : ℕ) (claimed done : List ℕ) → OnceBelow count (λ n. times n claimed) → 0 < times first claimed → IsCounted first count done
    → OnceBelow count (λ n. times n done)
all_counted first count claimed done once there c =
    let inside : first < count = dite (dec_le count first) (λ far. absurd (let none = (once first).1 far in omega arith)) (λ near. omega arith) in
    λ n. (c.below n, λ far. c.others n (λ e. absurd (omega arith)) far)

-- the next one isn't counted yet
pub not_yet : (first k : ℕ) (done : List ℕ) → k ≢ first → IsCounted first k done → times k done ≡ 0
not_yet first k done other c = c.others k other (omega arith)

-- what is done once at most was claimed
pub once_within : (count : ℕ) (claimed done : List ℕ) → OnceBelow count (λ n. times n claimed) → OnceBelow count (λ n. times n done)
    → (n : ℕ) → (times n done ≤ times n claimed) × (times n claimed ≤ 1)
once_within count claimed done a b n =
    dite (dec_le count n)
    (λ far. let x = (a n).1 far in let y = (b n).1 far in (omega arith, omega arith))
    (λ near. let l : n < count = omega arith in let x = (a n).0 l in let y = (b n).0 l in (omega arith, omega arith))
