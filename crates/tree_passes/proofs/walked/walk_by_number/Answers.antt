use Rattle.std.proofs.Common.{◌≡◌, ◌-◌, ◌<◌, ◌++◌, length, get_or, sym, ap, ◌∙◌, subst, arith}
use Rattle.list_cuts.specs.Cuts.{number_at, start_of}
use Rattle.row_pieces.specs.Pieces.{Standing, acts, closes_all}
use Rattle.row_pieces.specs.Stretches.{pieces_in}
use Rattle.tree_passes.specs.declared.starts.Start.{Start}
use Rattle.tree_passes.specs.Stretches.{IsHanded, nowhere, start_of_stretch}
use Rattle.tree_passes.proofs.Ranges.{other_default, value_at}
use Rattle.tree_passes.proofs.Stretched.{level_few, read_few, start_within, walked_few, walked_inside, walked_last}
use Rattle.tree_passes.proofs.walked.walk_by_number.Goals.{then-c-ends+in_ok-close_all, else-c-ends}
use Rattle.tree_passes.proofs.walked.walk_by_number.Goals as goal

abbrev none : Start
none = record { level = 0; read = 0 }

pub walk_stretch-requires-clause-level : goal.walk_stretch-requires-clause-level
walk_stretch-requires-clause-level c =
    let numbers = c.args.numbers.now in
    let ends = c.args.stretches.now.ends.now in
    let i = c.requires.inside in
    let b = c.requires.stretches.begun in
    let here : get_or c.args.stretches.now.starts.now c.args.c none ≡ start_of_stretch numbers ends c.args.c = value_at (start_of_stretch numbers ends) none (length c.args.stretches.now.starts.now) c.args.stretches.now.starts.now c.args.c c.requires.stretches.starts (omega arith) in
    let e = ap (λ (s : Start). s.level) here in
    let f = level_few numbers ends c.requires.stretches.cut (start_of ends c.args.c) (start_within numbers ends c.requires.stretches.cut c.args.c (omega arith)) in
    omega arith

pub walk_stretch-requires-clause-read : goal.walk_stretch-requires-clause-read
walk_stretch-requires-clause-read c =
    let numbers = c.args.numbers.now in
    let ends = c.args.stretches.now.ends.now in
    let i = c.requires.inside in
    let b = c.requires.stretches.begun in
    let here : get_or c.args.stretches.now.starts.now c.args.c none ≡ start_of_stretch numbers ends c.args.c = value_at (start_of_stretch numbers ends) none (length c.args.stretches.now.starts.now) c.args.stretches.now.starts.now c.args.c c.requires.stretches.starts (omega arith) in
    let e = ap (λ (s : Start). s.read) here in
    let f = read_few numbers ends c.requires.stretches.cut (start_of ends c.args.c) (start_within numbers ends c.requires.stretches.cut c.args.c (omega arith)) in
    omega arith

pub close_all-requires : goal.close_all-requires
close_all-requires c =
    let numbers = c.args.numbers.now in
    let ends = c.args.stretches.now.ends.now in
    let k = c.args.c in
    let i : k < length ends = c.requires.inside in
    let b = c.requires.stretches.begun in
    let m = c.requires.stretches.handed.many in
    let here : get_or c.args.stretches.now.starts.now k none ≡ start_of_stretch numbers ends k = value_at (start_of_stretch numbers ends) none (length c.args.stretches.now.starts.now) c.args.stretches.now.starts.now k c.requires.stretches.starts (omega arith) in
    let from : c.stretch_start-place.result ≡ start_of ends k = c.stretch_start-place.ensures in
    let s : Standing = c.in_ok-standing.standing in
    let known : IsHanded numbers ends k s = subst (IsHanded numbers ends k) (sym (c.in_ok-standing.ensures ∙ other_default c.args.stretches.now.handed.now k c.index-stretches-c.result nowhere (omega arith))) (c.requires.stretches.handed.each k i) in
    walked_few numbers ends c.requires.stretches.cut k s c.walk_stretch.new.standing i known (c.in_ok-walk_stretch.ensures.stands ∙ (λ j. acts (pieces_in numbers (number_at ends k - from j) (from j) (here j).level (here j).read) s))

pub returns : goal.returns
returns c =
    let numbers = c.args.numbers.now in
    let ends = c.args.stretches.now.ends.now in
    let k = c.args.c in
    let i : k < length ends = c.requires.inside in
    let b = c.requires.stretches.begun in
    let m = c.requires.stretches.handed.many in
    let here : get_or c.args.stretches.now.starts.now k none ≡ start_of_stretch numbers ends k = value_at (start_of_stretch numbers ends) none (length c.args.stretches.now.starts.now) c.args.stretches.now.starts.now k c.requires.stretches.starts (omega arith) in
    let from : c.stretch_start-place.result ≡ start_of ends k = c.stretch_start-place.ensures in
    let s : Standing = c.in_ok-standing.standing in
    let known : IsHanded numbers ends k s = subst (IsHanded numbers ends k) (sym (c.in_ok-standing.ensures ∙ other_default c.args.stretches.now.handed.now k c.index-stretches-c.result nowhere (omega arith))) (c.requires.stretches.handed.each k i) in
    let stands = c.in_ok-walk_stretch.ensures.stands ∙ (λ j. acts (pieces_in numbers (number_at ends k - from j) (from j) (here j).level (here j).read) s) in
    let rows = c.in_ok-walk_stretch.ensures.rows ∙ (λ j. c.new-made.ensures.items j ++ closes_all (pieces_in numbers (number_at ends k - from j) (from j) (here j).level (here j).read) s) in
    elim c.if-c-ends.branch [
      | then-c-ends+in_ok-close_all w ↦ ap (λ v. v.items) w.made-is ∙ walked_last numbers ends c.requires.stretches.cut k s c.walk_stretch.new.standing c.walk_stretch.new.out.items w.close_all.new.out.items (let t = w.if-c-ends.true in omega arith) known stands rows w.in_ok-close_all.ensures.rows
      | else-c-ends w ↦ ap (λ v. v.items) w.made-is ∙ walked_inside numbers ends c.requires.stretches.cut k s c.walk_stretch.new.out.items (let t = w.if-c-ends.false in omega arith) known rows
    ]
