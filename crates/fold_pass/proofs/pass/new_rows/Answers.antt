use Rattle.std.proofs.Common.{◌∙◌, length, ap, sym, arith}
use Rattle.fold_pass.proofs.Refolded.{kept_few, new_many}
use Rattle.fold_pass.proofs.pass.new_rows.Goals as goal

pub kin-requires-clause-few : goal.kin-requires-clause-few
kin-requires-clause-few g c κs within =
    let n = new_many c.args.columns.now c.args.values.now c.in_ok-columns.columns.kinds.items c.in_ok-columns.columns.tokens.items c.in_ok-columns.columns.lows.items c.in_ok-columns.ensures in
    let m = n.2 in
    let f = kept_few c.args.columns.now c.args.values.now in
    let e = ap length c.as_slice.ensures.value in
    let q = c.requires.few in
    omega arith

pub functions-requires-clause-few : goal.functions-requires-clause-few
functions-requires-clause-few g c κs within =
    let n = new_many c.args.columns.now c.args.values.now c.in_ok-columns.columns.kinds.items c.in_ok-columns.columns.tokens.items c.in_ok-columns.columns.lows.items c.in_ok-columns.ensures in
    let m = n.0 in
    let f = kept_few c.args.columns.now c.args.values.now in
    let e = ap length c.as_slice-2.ensures.value in
    let q = c.requires.few in
    omega arith

pub lay-requires-clause-tokens : goal.lay-requires-clause-tokens
lay-requires-clause-tokens g c =
    let n = new_many c.args.columns.now c.args.values.now c.in_ok-columns.columns.kinds.items c.in_ok-columns.columns.tokens.items c.in_ok-columns.columns.lows.items c.in_ok-columns.ensures in
    n.1 ∙ sym n.0
