use Rattle.std.proofs.Common.{◌<◌, length, ap, arith, rules}
use Rattle.scan_lookback.specs.Laws.Coded.{length-codes}
use Rattle.scan_lookback.proofs.Posting.{finds}
use Rattle.scan_lookback.proofs.board.ScanBoard.load_word.Goals as goal

pub load-requires : goal.load-requires
load-requires g c =
    let near : c.args.j < length g.N.Codes.sum_codes = omega (arith, length-codes (g.M.WordMonoid.ops c.self.inside.monoid.now) (g.met.M.WordMonoid.lawful c.self.inside.monoid.now) g.N.Chunks.sums g.N.Codes.sum_codes g.N.Codes.prefix_codes c.self.invariant.3, c.self.invariant.2, c.requires.chunk, ap (λ b. b.chunks) c.self.view_is) in
    (search rules, search rules, finds _ _ _ _ _ _ (search rules) _ near)

pub returns-clause-loaded : goal.returns-clause-loaded
returns-clause-loaded g c = (c.args.seat.now.view.looked, search rules)
