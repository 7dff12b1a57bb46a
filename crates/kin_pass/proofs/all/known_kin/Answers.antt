use Rattle.std.proofs.Common.{arith}
use Rattle.kin_pass.proofs.Together.{tied_alone}
use Rattle.kin_pass.proofs.all.known_kin.Goals as goal

pub returns-then-stretches-le1 : goal.returns-then-stretches-le1
returns-then-stretches-le1 g c =
    let kin = c.write_in_one.result in
    tied_alone c.args.stretches.now.lows.now c.args.stretches.now.ends.now c.requires.cuts (omega arith) kin.parents.items kin.lows.items kin.places.items c.write_in_one.ensures
