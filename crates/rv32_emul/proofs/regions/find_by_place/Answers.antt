use Rattle.std.proofs.Common.{◌<◌, List, length, None, sym, subst, arith}
use Rattle.std.proofs.lemmas.List.{length-map}
use Rattle.rv_isa.specs.Memory.{Region}
use Rattle.rv32_emul.specs.Access.{allows, IsFirst}
use Rattle.rv32_emul.specs.Stretches.{stretch_of, stretches}
use Rattle.rv32_emul.proofs.Apart.{found, found-none, found-other}
use Rattle.rv32_emul.proofs.regions.find_by_place.Goals as goal

pub returns-then-allows : goal.returns-then-allows
returns-then-allows c =
    let xs : List Region = c.args.regions.now in
    let one = c.in_ok-index.ensures (stretches xs) c.requires.memory.0 c.requires.memory.1 in
    let inside : c.in_ok-index.index < length xs = omega (arith, one.0, length-map xs stretch_of) in
    found xs c.in_ok-index.index c.args.address c.args.size c.index-regions-index.result (allows c.args.access) c.requires.memory.0 c.requires.some inside c.index-regions-index.is (sym c.if-allows.ensures)

pub returns-else-allows : goal.returns-else-allows
returns-else-allows c =
    let xs : List Region = c.args.regions.now in
    let one = c.in_ok-index.ensures (stretches xs) c.requires.memory.0 c.requires.memory.1 in
    let inside : c.in_ok-index.index < length xs = omega (arith, one.0, length-map xs stretch_of) in
    found-other xs c.args.address c.args.size c.in_ok-index.index c.index-regions-index.result (allows c.args.access) c.requires.some one inside c.index-regions-index.is (sym c.if-allows.ensures)

pub returns-in_err-index : goal.returns-in_err-index
returns-in_err-index c =
    let xs : List Region = c.args.regions.now in
    let none : IsFirst (allows c.args.access) xs c.args.address c.args.size None =
    found-none xs c.args.address c.args.size (allows c.args.access) c.region_at.result c.requires.some (c.region_at.ensures (stretches xs) c.requires.memory.0 c.requires.memory.1) c.in_err-index.was in
    subst (IsFirst (allows c.args.access) xs c.args.address c.args.size) (sym c.from_residual.ensures) none
