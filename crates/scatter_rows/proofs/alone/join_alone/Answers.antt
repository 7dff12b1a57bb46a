use Rattle.std.proofs.Common.{sym, ◌++◌, ◌∙◌, arith}
use Rattle.scatter_rows.proofs.Standing.{each_number, joined_more}
use Rattle.scatter_rows.proofs.alone.join_alone.Given as given
use Rattle.scatter_rows.proofs.alone.join_alone.Goals as goal

pub make-requires : goal.make-requires
make-requires g c = each_number (given.F-pre g c.args.make.now) c.args.count c.requires.callable c.loop-c.c (omega (arith, c.loop-c-test.true))

pub loop-c-preserved : goal.loop-c-preserved
loop-c-preserved g c =
    let part = c.requires.parts c.loop-c.c c.in_ok-part.part (omega (arith, c.loop-c-test.true)) c.in_ok-part.ensures in
    c.in_ok-extend_from_slice.ensures.items ∙ (λ i. c.loop-c.invariant i ++ (c.as_slice.ensures.value ∙ part) i) ∙ sym (joined_more g.K.Parts.part c.loop-c.c)
