use Rattle.std.proofs.Common.{map, length}
use Rattle.word_monoid.specs.Folds.{prefixes_from}
use Rattle.scan_lookback.specs.Cuts.{sums_of}
use Rattle.scan_lookback.proofs.single_pass.scan.Given as goal

-- the lists of this run's items
abbrev pub ghosts-scan_named-N-Chunks : goal.ghosts-scan_named-N-Chunks
ghosts-scan_named-N-Chunks g a =
    let s = a.self.now in let ops = g.M.WordMonoid.ops s.monoid.now in let items = map (λ x. (g.M.WordMonoid.ops s.monoid.now).decode (g.K.Lifted.code_of x)) s.items.now in
    record { items = items; sums = sums_of ops s.size items }

abbrev pub ghosts-scan_named-N-Codes : goal.ghosts-scan_named-N-Codes
ghosts-scan_named-N-Codes g a =
    let s = a.self.now in let ops = g.M.WordMonoid.ops s.monoid.now in let sums = sums_of ops s.size (map (λ x. (g.M.WordMonoid.ops s.monoid.now).decode (g.K.Lifted.code_of x)) s.items.now) in
    record { sum_codes = map ops.code sums; prefix_codes = map ops.code (prefixes_from ops sums 1 (length sums)) }
