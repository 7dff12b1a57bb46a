use Rattle.std.proofs.Common.{◌≡◌, length, arith, ap, sym, ◌∙◌}
use Rattle.scan_lookback.specs.Laws.Coded.{length-codes}
use Rattle.scan_lookback.proofs.Posting.{sees_last, says_last, found_shown}
use Rattle.scan_lookback.proofs.board.ScanBoard.close.Goals as goal

pub returns : goal.returns
returns g c =
    let last = c.close_with.ensures.values.2 in
    let m = c.self.inside.monoid.now in
    let wide : length g.N.Codes.sum_codes ≡ c.args.self.chunks = omega (arith, length-codes (g.M.WordMonoid.ops m) (g.met.M.WordMonoid.lawful m) g.N.Chunks.sums g.N.Codes.sum_codes g.N.Codes.prefix_codes c.self.invariant.3, c.self.invariant.2, ap (λ b. b.chunks) c.self.view_is) in
    let sees = sees_last _ _ _ _ _ _ _ last in
    rw (← c.seat.view_is) (record { shown = λ k h. omega (arith, (sees.shown k h).0, wide); sealed = sees.sealed; looked = says_last _ _ _ _ _ _ _ last _ wide; found = λ whole. found_shown _ _ _ _ _ _ _ last (whole ∙ sym (ap (λ b. b.seats) c.self.view_is)) })
