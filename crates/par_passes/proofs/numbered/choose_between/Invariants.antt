use Rattle.std.proofs.Common.{◌≡◌, ℕ, Bool, All, filter}
use Rattle.std.specs.List.{range_with_len}
use Rattle.par_passes.proofs.numbered.choose_between.Given as goal

abbrev pub invariant-loop-i : goal.invariant-loop-i
invariant-loop-i g l = (h : ℕ → Bool) → All (λ k. (r : Bool) → goal.F-post g l.f k r → r ≡ h k) (range_with_len l.from l.count) → l.out.items ≡ filter h (range_with_len l.from l.i)
