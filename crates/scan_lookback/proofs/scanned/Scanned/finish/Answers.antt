use Rattle.std.proofs.Common.{[], ◌∷◌, ◌++◌, ap, ◌∙◌}
use Rattle.scan_lookback.proofs.Totals.{whole, take_front}
use Rattle.scan_lookback.proofs.scanned.Scanned.finish.Goals as goal

pub returns : goal.returns
returns g c =
    whole _ c.know_laws.ensures _ _ _ _ _ c.requires.scan.scans c.fill.new.out _ c.total-last.result c.fill.ensures c.total-last.ensures
    (c.in_ok-push.ensures.items ∙ ap (λ l. l ++ c.total-last.result ∷ []) (take_front c.args.started.list.len c.fill.new.out _ (c.fill.auto.out ∙ c.as_mut_slice.ensures.len)))
