use Rattle.std.proofs.Common.{◌≡◌, ℕ, ◌<◌, length, get_or}
use Rattle.rv32_emul.specs.Kept.{IsKeptOf, nothing, nowhere}
use Rattle.rv32_emul.proofs.code.code_of.Given as goal

abbrev pub invariant-loop-region : goal.invariant-loop-region
invariant-loop-region l = record {
  long : length l.code.items ≡ l.region-index;
  kept : (k : ℕ) → k < l.region-index → IsKeptOf (get_or l.code.items k nothing) (get_or l.regions k nowhere);
}
