use Rattle.rv_text.proofs.Steps.{read_some, read_none}
use Rattle.rv_text.proofs.operands.operand_before.Goals as goal

pub returns-in-Some-clause-read : goal.returns-in-Some-clause-read
returns-in-Some-clause-read c = read_some c.args.text.now c.args.end c.read_operand.result c.in-Some.operand c.requires.comma c.read_operand.ensures.operand c.in-Some.is

pub returns-in-None-clause-read : goal.returns-in-None-clause-read
returns-in-None-clause-read c = read_none c.args.text.now c.args.end c.read_operand.result c.requires.comma c.read_operand.ensures.operand c.in-None.is
