use Rattle.std.proofs.Common.{ap, ◌∙◌, sym, subst}
use Rattle.word_monoid.specs.Monoid.{IsItem}
use Rattle.word_monoid.specs.Laws.Folds.{prefix_next}
use Rattle.scan_lookback.specs.Laws.Coded.{sum_item}
use Rattle.scan_lookback.specs.Held.{held}
use Rattle.scan_lookback.specs.Views.{sealing, loading}
use Rattle.scan_lookback.proofs.Working.{stands_last}
use Rattle.scan_lookback.proofs.board.ScanBoard.publish.Goals as goal

pub joined_before-start-requires-clause-shown : goal.joined_before-start-requires-clause-shown
joined_before-start-requires-clause-shown g c =
    stands_last c.args.c c.args.seat.now.view.shown c.show.new.seat.view.shown (ap (λ s. s.view.shown) c.show.ensures)

pub seal-requires-clause-shown : goal.seal-requires-clause-shown
seal-requires-clause-shown g c =
    stands_last c.args.c c.args.seat.now.view.shown c.joined_before-start.new.seat.view.shown (ap (λ s. s.view.shown) c.joined_before-start.ensures.loads.1 ∙ ap (λ s. s.view.shown) c.show.ensures)

pub join-requires : goal.join-requires
join-requires g c =
    let k = c.monoid-monoid.result.now in
    let named = c.monoid-monoid.ensures.named in
    let m = c.args.self.now.monoid in
    let same = c.monoid-monoid.ensures.same in (
      subst (λ n. IsItem (g.M.WordMonoid.ops n) c.joined_before-start.result) (sym same) c.joined_before-start.ensures.item,
      subst (λ n. IsItem (g.M.WordMonoid.ops n) c.chunk_sum-sum.result) (sym same) (sum_item (g.M.WordMonoid.ops m) (g.met.M.WordMonoid.lawful m) g.N.Chunks.sums g.N.Codes.sum_codes g.N.Codes.prefix_codes named c.args.c _ c.chunk_sum-sum.ensures),
    )

pub seal-requires-clause-prefix : goal.seal-requires-clause-prefix
seal-requires-clause-prefix g c =
    let m = c.args.self.now.monoid in
    let same = c.monoid-monoid.ensures.same in
    c.join.ensures
    ∙ (ap (λ n. (g.M.WordMonoid.ops n).join c.joined_before-start.result c.chunk_sum-sum.result) same
    ∙ (ap (λ x. (g.M.WordMonoid.ops m).join x c.chunk_sum-sum.result) c.joined_before-start.ensures.joined
    ∙ sym (prefix_next (g.M.WordMonoid.ops m) g.N.Chunks.sums c.args.c c.chunk_sum-sum.result c.chunk_sum-sum.ensures)))

pub returns-clause-sealed : goal.returns-clause-sealed
returns-clause-sealed g c =
    let back = c.joined_before-start.ensures.loads in (
      back.0,
      c.seal.ensures ∙ (ap (λ s. held s.board (sealing s.view c.args.c)) back.1 ∙ ap (λ s. held s.board (sealing (loading s.view back.0) c.args.c)) c.show.ensures),
      back.2,
    )
