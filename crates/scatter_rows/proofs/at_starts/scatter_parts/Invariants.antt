use Rattle.std.proofs.Common.{◌-◌, length, flat_map}
use Rattle.std.specs.List.{range_with_len}
use Rattle.scatter_rows.proofs.at_starts.scatter_parts.Given as goal

abbrev pub ghosts-put_parts : goal.ghosts-put_parts
ghosts-put_parts g a = record { places = range_with_len 0 a.len; values = flat_map g.K.Parts.part (range_with_len 0 (length a.starts.now - 1)); limit = 4294967296 }
