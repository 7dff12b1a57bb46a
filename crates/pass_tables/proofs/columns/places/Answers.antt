use Rattle.std.proofs.Common.{refl}
use Rattle.std.specs.Prelude.{decimal}
use Rattle.text_columns.specs.declared.column.Align.TheVariants.{Right}
use Rattle.pass_tables.proofs.Cells.{next_place}
use Rattle.pass_tables.proofs.columns.places.Goals as goal

pub loop-k-preserved : goal.loop-k-preserved
loop-k-preserved c = next_place decimal c.args.title.now Right c.loop-k.k (decimal c.loop-k.k) c.loop-k.column c.push_number.new.self c.loop-k.invariant c.in_ok-push_number.ensures.ok refl
