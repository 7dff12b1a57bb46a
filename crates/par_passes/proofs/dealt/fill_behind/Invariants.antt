use Rattle.std.proofs.Common.{◌≡◌, length, take}
use Rattle.std.specs.List.{range_with_len}
use Rattle.par_passes.specs.Passes.{Gives}
use Rattle.par_passes.proofs.dealt.fill_behind.Given as goal

abbrev pub invariant-loop-i : goal.invariant-loop-i
invariant-loop-i g l = record {
  len : length l.out ≡ length l.initial.out;
  values : Gives (goal.F-post g l.f) (take l.i (range_with_len l.from (length l.initial.out))) (take l.i l.out);
}
