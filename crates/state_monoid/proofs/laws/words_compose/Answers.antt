use Rattle.std.proofs.Common.{[]}
use Rattle.state_monoid.specs.Words.{image_append, image_at}
use Rattle.state_monoid.proofs.laws.words_compose.Goals as goal

pub returns-clause-words : goal.returns-clause-words
returns-clause-words c d u v valid w = image_append d valid u v w

pub returns-clause-value : goal.returns-clause-value
returns-clause-value c d word s h = image_at d word s 0 h

pub returns-clause-identity : goal.returns-clause-identity
returns-clause-identity c d s h = image_at d [] s 0 h
