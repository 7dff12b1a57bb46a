use Rattle.std.proofs.Common.{◌≡◌, ◌-◌, suc, length, ◌∙◌, arith}
use Rattle.std.proofs.lemmas.Option.{slice_get-get_or}
use Rattle.scan_lookback.proofs.Totals.{length-out, last_two}
use Rattle.scan_lookback.proofs.scanned.Scanned.total.Goals as goal

pub offset_bounds-out-len : goal.offset_bounds-out-len
offset_bounds-out-len g c = omega (arith, length-out _ (g.met.M.WordMonoid.lawful c.args.self.now.monoid.now) _ _ _ _ _ c.requires.scan.scans c.args.out.now c.requires.out)

pub bounds-out-len : goal.bounds-out-len
bounds-out-len g c = omega (arith, length-out _ (g.met.M.WordMonoid.lawful c.args.self.now.monoid.now) _ _ _ _ _ c.requires.scan.scans c.args.out.now c.requires.out)

pub join-requires : goal.join-requires
join-requires g c =
    let items = c.args.self.now.items.now in
    let n = length items in
    let next : suc (n - 1) ≡ n = omega arith in
    let there = slice_get-get_or items (n - 1) c.index-self-len.result (omega arith) in
    let t = last_two _ (g.met.M.WordMonoid.lawful c.args.self.now.monoid.now) _ _ _ _ _ c.requires.scan.scans (n - 1) next c.args.out.now c.requires.out c.index-out-len.result c.index-out-len.is _ c.lift.result there c.lift.ensures in
    (t.0, t.1)

pub returns : goal.returns
returns g c =
    let items = c.args.self.now.items.now in
    let n = length items in
    let next : suc (n - 1) ≡ n = omega arith in
    let there = slice_get-get_or items (n - 1) c.index-self-len.result (omega arith) in
    let t = last_two _ (g.met.M.WordMonoid.lawful c.args.self.now.monoid.now) _ _ _ _ _ c.requires.scan.scans (n - 1) next c.args.out.now c.requires.out c.index-out-len.result c.index-out-len.is _ c.lift.result there c.lift.ensures in
    c.join.ensures ∙ t.2
