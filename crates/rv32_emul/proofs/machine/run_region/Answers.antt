use Rattle.rv32_emul.specs.Fixed.{fixed}
use Rattle.rv32_emul.proofs.Codes.{code-index}
use Rattle.rv32_emul.proofs.machine.run_region.Goals as goal

pub run_code-requires-clause-code : goal.run_code-requires-clause-code
run_code-requires-clause-code c =
    rw (c.start.ensures, c.instructions.ensures)
    (code-index c.args.code.now c.args.region c.index-code-region.result (fixed c.args.memory.now) c.requires.code c.if-region-code.true c.index-code-region.is)
