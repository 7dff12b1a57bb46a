use Rattle.std.proofs.Common.{ℕ, map, ap, ◌∙◌, subst}
use Rattle.chunk_seats.specs.Tallies.{times, OnceBelow}
use Rattle.word_monoid.specs.Folds.{prefix_of, prefixes_from}
use Rattle.scan_lookback.proofs.Totals.{starts_as}
use Rattle.scan_lookback.proofs.scanned.Scanned.find_starts.Goals as goal

pub in_order-requires : goal.in_order-requires
in_order-requires g c = record { once = subst (λ (k : ℕ). OnceBelow k (λ n. times n (map (λ p. p.0) c.close.result.items))) c.in_ok-claims.ensures.0 c.close.ensures.once }

pub returns-clause-starts : goal.returns-clause-starts
returns-clause-starts g c =
    let ops = g.M.WordMonoid.ops c.args.self.now.monoid.now in
    let all = starts_as g.M.WordMonoid.ops g.N.Chunks.sums _ _ c.in_ok-status.ensures.0 _ c.close.ensures.starts in
    c.in_ok-starts.ensures (prefix_of ops g.N.Chunks.sums) all ∙ ap (prefixes_from ops g.N.Chunks.sums 0) c.requires.count.0
