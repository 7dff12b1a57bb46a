use Rattle.std.proofs.Common.{subst, sym}
use Rattle.par_lexer.specs.Stretches.{ArePartsOf}
use Rattle.par_lexer.proofs.joined.tell_by_stretches.Goals as goal

pub join-requires-clause-parts : goal.join-requires-clause-parts
join-requires-clause-parts g c =
    let m = c.args.functions.now.compositions in
    (m, subst (ArePartsOf m c.args.text.now c.as_slice-ends.result.now) (sym c.as_slice-3.ensures.value) c.in_ok-parts.ensures)
