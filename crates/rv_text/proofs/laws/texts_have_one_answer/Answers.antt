use Rattle.rv_text.proofs.Exact.{answered, one_answer}
use Rattle.rv_text.proofs.laws.texts_have_one_answer.Goals as goal

pub returns-clause-there : goal.returns-clause-there
returns-clause-there c = answered

pub returns-clause-one : goal.returns-clause-one
returns-clause-one c = one_answer
