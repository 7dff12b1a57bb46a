use Rattle.std.proofs.Common.{◌≡◌, map, take}
use Rattle.pass_tables.specs.Tables.{numbers}
use Rattle.pass_tables.specs.FrameNumbers.{number_in}
use Rattle.pass_tables.proofs.frames.numbers.Given as goal

abbrev pub invariant-loop-frame : goal.invariant-loop-frame
invariant-loop-frame l = l.column ≡ numbers l.title (map (number_in l.part) (take l.frame-index l.frames))
