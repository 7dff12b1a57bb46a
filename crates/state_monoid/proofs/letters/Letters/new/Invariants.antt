use Rattle.state_monoid.specs.Letters.{AreLetters}
use Rattle.state_monoid.proofs.letters.Letters.new.Given as goal

abbrev pub invariant-loop-byte : goal.invariant-loop-byte
invariant-loop-byte l = AreLetters l.dfa l.byte l.functions.keys l.of_byte.items
