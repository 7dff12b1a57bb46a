use Rattle.std.proofs.Common.{map, length}
use Rattle.word_monoid.specs.Folds.{prefixes_from}
use Rattle.scan_lookback.specs.Cuts.{sums_of}
use Rattle.scan_lookback.proofs.single_pass.scan_lifted.Given as goal

-- the lists of this run's items
abbrev pub ghosts-scan_named-N-Chunks : goal.ghosts-scan_named-N-Chunks
ghosts-scan_named-N-Chunks g a =
    let s = a.self.now in let ops = g.M.WordMonoid.ops s.monoid.now in let items = map (g.L.Lift.lifted s.lift.now.0.now) s.items.now in
    record { items = items; sums = sums_of ops s.size items }

abbrev pub ghosts-scan_named-N-Codes : goal.ghosts-scan_named-N-Codes
ghosts-scan_named-N-Codes g a =
    let s = a.self.now in let ops = g.M.WordMonoid.ops s.monoid.now in let sums = sums_of ops s.size (map (g.L.Lift.lifted s.lift.now.0.now) s.items.now) in
    record { sum_codes = map ops.code sums; prefix_codes = map ops.code (prefixes_from ops sums 1 (length sums)) }
