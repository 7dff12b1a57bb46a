use Rattle.std.proofs.Common.{◌≡◌, ℕ, suc, ◌+◌, ◌-◌, ◌<◌, [], ◌∷◌, ◌++◌, length, map, sym, ap, ◌∙◌, arith}
use Rattle.std.specs.List.{range_with_len}
use Rattle.list_cuts.specs.Cuts.{number_at, start_of}
use Rattle.row_pieces.specs.Stretches.{kids_in, reads_in}
use Rattle.row_pieces.specs.declared.tally.Tally.{Tally}
use Rattle.tree_passes.specs.Stretches.{start_of_stretch}
use Rattle.tree_passes.proofs.Ranges.{many_of, map_next}
use Rattle.tree_passes.proofs.Stretched.{kids_end_few, kids_step, level_there, reads_end_few, reads_step}
use Rattle.tree_passes.proofs.starts.add_up.Goals as goal

abbrev none : Tally
none = record { kids = 0; reads = 0 }

pub overflow_add-kids : goal.overflow_add-kids
overflow_add-kids c =
    let h : c.loop-c.c < length c.args.tallies.now = c.loop-c-test.true in
    let few = c.requires.few in
    let e = kids_step c.args.parse.numbers.now c.args.parse.ends.now c.requires.cut c.args.tallies.now c.requires.tallies few c.loop-c.c h c.loop-c.kids c.loop-c.invariant.kids none in
    let f = kids_end_few c.args.parse.numbers.now c.args.parse.ends.now c.requires.cut c.loop-c.c (omega arith) in
    omega arith

pub overflow_add-read : goal.overflow_add-read
overflow_add-read c =
    let h : c.loop-c.c < length c.args.tallies.now = c.loop-c-test.true in
    let few = c.requires.few in
    let e = reads_step c.args.parse.numbers.now c.args.parse.ends.now c.requires.cut c.args.tallies.now c.requires.tallies few c.loop-c.c h c.loop-c.read c.loop-c.invariant.read none in
    let f = reads_end_few c.args.parse.numbers.now c.args.parse.ends.now c.requires.cut c.loop-c.c (omega arith) in
    omega arith

pub level_at-level-requires : goal.level_at-level-requires
level_at-level-requires c =
    let h : c.loop-c.c < length c.args.tallies.now = c.loop-c-test.true in
    let few = c.requires.few in
    let e = kids_step c.args.parse.numbers.now c.args.parse.ends.now c.requires.cut c.args.tallies.now c.requires.tallies few c.loop-c.c h c.loop-c.kids c.loop-c.invariant.kids none in
    let f = kids_end_few c.args.parse.numbers.now c.args.parse.ends.now c.requires.cut c.loop-c.c (omega arith) in
    omega arith

pub loop-c-preserved : goal.loop-c-preserved
loop-c-preserved c =
    let numbers = c.args.parse.numbers.now in
    let ends = c.args.parse.ends.now in
    let k = c.loop-c.c in
    let h : k < length c.args.tallies.now = c.loop-c-test.true in
    let few = c.requires.few in
    let inside : k < length ends = omega arith in
    let more : suc k ≡ k + 1 = omega arith in
    let kids = kids_step numbers ends c.requires.cut c.args.tallies.now c.requires.tallies few k h c.loop-c.kids c.loop-c.invariant.kids none in
    let read = reads_step numbers ends c.requires.cut c.args.tallies.now c.requires.tallies few k h c.loop-c.read c.loop-c.invariant.read none in
    let there = level_there numbers ends c.requires.cut (number_at ends k) (c.requires.cut.cuts.within k inside) in
    record {
      kids = kids ∙ ap (λ (n : ℕ). kids_in numbers (start_of ends n) 0) more;
      read = read ∙ ap (λ (n : ℕ). reads_in numbers (start_of ends n) 0) more;
      starts =
          c.in_ok-push-2.ensures.items
          ∙ (λ i. c.loop-c.invariant.starts i ++ record { level = (c.level_at-level.ensures ∙ ap (λ (n : ℕ). suc n - number_at ends k) kids ∙ sym there) i; read = read i } ∷ [])
          ∙ sym (map_next (start_of_stretch numbers ends) (suc k))
          ∙ ap (λ (n : ℕ). map (start_of_stretch numbers ends) (range_with_len 0 (suc n))) more;
    }

pub returns-clause-many : goal.returns-clause-many
returns-clause-many c =
    let n = many_of (start_of_stretch c.args.parse.numbers.now c.args.parse.ends.now) (suc c.loop-c.c) c.loop-c.starts.items c.loop-c.invariant.starts in
    let a = c.loop-c.auto.c-end in
    let b = c.loop-c-test.false in
    omega arith

pub returns-clause-starts : goal.returns-clause-starts
returns-clause-starts c =
    let f = start_of_stretch c.args.parse.numbers.now c.args.parse.ends.now in
    c.loop-c.invariant.starts ∙ ap (λ (n : ℕ). map f (range_with_len 0 n)) (sym (many_of f (suc c.loop-c.c) c.loop-c.starts.items c.loop-c.invariant.starts))
