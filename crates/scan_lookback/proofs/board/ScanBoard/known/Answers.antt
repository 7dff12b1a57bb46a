use Rattle.std.proofs.Common.{◌+◌, sym, subst, arith}
use Rattle.word_monoid.specs.Monoid.{IsItem}
use Rattle.scan_lookback.specs.Laws.Coded.{prefix_is_item}
use Rattle.scan_lookback.proofs.board.ScanBoard.known.Goals as goal

pub returns-in-Prefix : goal.returns-in-Prefix
returns-in-Prefix g c = λ word there.
    let told = rw c.in-Prefix.is at there in
    let m = c.args.self.now.monoid in (
      told.1,
      subst (IsItem (g.M.WordMonoid.ops m)) (sym told.1) (prefix_is_item (g.M.WordMonoid.ops m) (g.met.M.WordMonoid.lawful m) g.N.Chunks.sums g.N.Codes.sum_codes g.N.Codes.prefix_codes c.monoid-named.ensures.named (c.args.j + 1)),
      omega (arith, told.0),
    )
