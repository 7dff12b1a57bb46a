use Rattle.rv_text.proofs.Steps.{last_some, last_none}
use Rattle.rv_text.proofs.operands.last_operand.Goals as goal

pub returns-in-Some-clause-read : goal.returns-in-Some-clause-read
returns-in-Some-clause-read c = last_some c.args.text.now c.read_operand.result c.in-Some.operand c.requires c.read_operand.ensures.operand c.in-Some.is

pub returns-in-None-clause-read : goal.returns-in-None-clause-read
returns-in-None-clause-read c = last_none c.args.text.now c.read_operand.result c.requires c.read_operand.ensures.operand c.in-None.is
