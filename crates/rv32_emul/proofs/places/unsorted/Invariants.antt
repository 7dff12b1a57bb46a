use Rattle.rv32_emul.specs.Stretches.{stretches, HavePlaces}
use Rattle.rv32_emul.proofs.places.unsorted.Given as goal

abbrev pub invariant-loop-region : goal.invariant-loop-region
invariant-loop-region l = HavePlaces (stretches l.regions) l.region l.places.items
