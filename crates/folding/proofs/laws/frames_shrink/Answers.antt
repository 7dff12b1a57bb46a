use Rattle.folding.proofs.Shrinks.{registers_less, spills_less, locals_same, frame_less}
use Rattle.folding.proofs.laws.frames_shrink.Goals as goal

pub returns-clause-registers : goal.returns-clause-registers
returns-clause-registers c = registers_less

pub returns-clause-spills : goal.returns-clause-spills
returns-clause-spills c = spills_less

pub returns-clause-locals : goal.returns-clause-locals
returns-clause-locals c = locals_same

pub returns-clause-bytes : goal.returns-clause-bytes
returns-clause-bytes c = frame_less
