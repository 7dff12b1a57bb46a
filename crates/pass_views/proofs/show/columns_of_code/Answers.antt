use Rattle.std.proofs.Common.{length, ap, arith}
use Rattle.pass_views.proofs.show.columns_of_code.Goals as goal

pub code_columns-requires : goal.code_columns-requires
code_columns-requires c =
    let few = c.requires.few in
    let same = ap length c.deref-4.ensures.value in
    record { few = omega arith }
