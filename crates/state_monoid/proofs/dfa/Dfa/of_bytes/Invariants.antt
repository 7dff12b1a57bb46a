use Rattle.std.proofs.Common.{◌≡◌, take}
use Rattle.state_monoid.specs.Image.{image}
use Rattle.state_monoid.proofs.dfa.Dfa.of_bytes.Given as goal

abbrev pub invariant-loop-byte : goal.invariant-loop-byte
invariant-loop-byte l = l.image ≡ image l.self (take l.byte-index l.bytes)
