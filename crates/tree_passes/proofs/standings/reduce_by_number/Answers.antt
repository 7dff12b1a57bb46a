use Rattle.std.proofs.Common.{◌≡◌, ◌-◌, length, get_or, ap, ◌∙◌, arith}
use Rattle.std.proofs.lemmas.Result.{IfOk-weaker}
use Rattle.list_cuts.specs.Cuts.{number_at, start_of}
use Rattle.row_pieces.specs.Reduced.{reduced}
use Rattle.row_pieces.specs.Stretches.{pieces_in}
use Rattle.tree_passes.specs.declared.starts.Start.{Start}
use Rattle.tree_passes.specs.Stretches.{start_of_stretch}
use Rattle.tree_passes.proofs.Ranges.{value_at}
use Rattle.tree_passes.proofs.Stretched.{level_few, read_few, start_within}
use Rattle.tree_passes.proofs.standings.reduce_by_number.Goals as goal

abbrev none : Start
none = record { level = 0; read = 0 }

pub reduce_stretch-requires-clause-level : goal.reduce_stretch-requires-clause-level
reduce_stretch-requires-clause-level c =
    let numbers = c.args.parse.numbers.now in
    let ends = c.args.parse.ends.now in
    let here : get_or c.args.starts.now c.args.c none ≡ start_of_stretch numbers ends c.args.c = value_at (start_of_stretch numbers ends) none (length c.args.starts.now) c.args.starts.now c.args.c c.requires.starts c.requires.begun in
    let e = ap (λ (s : Start). s.level) here in
    let i = c.requires.inside in
    let f = level_few numbers ends c.requires.cut (start_of ends c.args.c) (start_within numbers ends c.requires.cut c.args.c (omega arith)) in
    omega arith

pub reduce_stretch-requires-clause-read : goal.reduce_stretch-requires-clause-read
reduce_stretch-requires-clause-read c =
    let numbers = c.args.parse.numbers.now in
    let ends = c.args.parse.ends.now in
    let here : get_or c.args.starts.now c.args.c none ≡ start_of_stretch numbers ends c.args.c = value_at (start_of_stretch numbers ends) none (length c.args.starts.now) c.args.starts.now c.args.c c.requires.starts c.requires.begun in
    let e = ap (λ (s : Start). s.read) here in
    let i = c.requires.inside in
    let f = read_few numbers ends c.requires.cut (start_of ends c.args.c) (start_within numbers ends c.requires.cut c.args.c (omega arith)) in
    omega arith

pub returns : goal.returns
returns c =
    let numbers = c.args.parse.numbers.now in
    let ends = c.args.parse.ends.now in
    let here : get_or c.args.starts.now c.args.c none ≡ start_of_stretch numbers ends c.args.c = value_at (start_of_stretch numbers ends) none (length c.args.starts.now) c.args.starts.now c.args.c c.requires.starts c.requires.begun in
    let from : c.stretch_start-place.result ≡ start_of ends c.args.c = c.stretch_start-place.ensures in
    IfOk-weaker c.reduce_stretch.result _ _ (λ v h. h ∙ (λ i. reduced (pieces_in numbers (number_at ends c.args.c - from i) (from i) (here i).level (here i).read))) c.reduce_stretch.ensures
