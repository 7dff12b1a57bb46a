use Rattle.std.proofs.Common.{◌+◌}
use Rattle.rv_select.specs.Knowns.{code_layout}
use Rattle.rv_emit.specs.OfColumns.{part_of}
use Rattle.rv_emit.proofs.write.LaidOut.write_window.Given as goal

abbrev pub ghosts-scatter_parts : goal.ghosts-scatter_parts
ghosts-scatter_parts g a = record { part = λ n. part_of a.make.now.0.now.columns.now (code_layout a.make.now.0.now.layout) a.make.now.0.now.places a.make.now.0.now.main a.make.now.2.now (a.make.now.3.now + n) }
