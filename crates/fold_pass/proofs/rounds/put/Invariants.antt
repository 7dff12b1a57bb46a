use Rattle.std.proofs.Common.{◌≡◌, ℕ, ◌<◌, true, length}
use Rattle.std.specs.Prelude.{is_some}
use Rattle.folded_rows.specs.Columns.{number_in, value_in}
use Rattle.fold_pass.specs.Rounds.{AreTold}
use Rattle.fold_pass.proofs.rounds.put.Given as goal

abbrev pub invariant-loop-i : goal.invariant-loop-i
invariant-loop-i l = record {
  told : AreTold l.columns l.fresh l.told l.i l.fn.values l.values l.next.items;
  many : length l.told ≡ length l.fresh;
  as_many : length l.values ≡ length l.fn.values;
  within : (i : ℕ) → i < length l.fresh → is_some (value_in l.told i) ≡ true → number_in l.columns.parents (number_in l.fresh i) < length l.values;
}
