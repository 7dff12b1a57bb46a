use Rattle.std.proofs.Common.{◌≡◌, ℕ, [], length, slice_index_or}
use Rattle.llp_wide.proofs.survey.empty_groups.Given as goal

abbrev pub invariant-loop : goal.invariant-loop
invariant-loop l = record { len : length l.groups.items ≡ l.counter; none : (n : ℕ) → slice_index_or l.groups.items n [] ≡ [] }
