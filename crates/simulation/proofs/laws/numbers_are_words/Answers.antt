use Rattle.simulation.proofs.Numbers.{numbers_small}
use Rattle.simulation.proofs.laws.numbers_are_words.Goals as goal

pub returns : goal.returns
returns c = numbers_small
