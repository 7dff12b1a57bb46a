use Rattle.std.proofs.Common.{◌≡◌, ℕ, suc, ◌+◌, ◌<◌, [], ◌∷◌, ◌++◌, length, get_or, sym, ap, ◌∙◌, arith}
use Rattle.std.proofs.lemmas.Option.{slice_get-get_or}
use Rattle.list_cuts.specs.Cuts.{number_at, start_of}
use Rattle.name_pass.specs.RowNames.{count_in}
use Rattle.name_pass.specs.Stretches.{counts_of_stretches}
use Rattle.name_pass.proofs.Counting.{count_small, counted_next}
use Rattle.name_pass.proofs.Ranged.{map_next}
use Rattle.name_pass.proofs.declared.counts_before.Goals as goal

pub behind-before-requires : goal.behind-before-requires
behind-before-requires c =
    let rows = c.args.input.now.rows.now in
    let ends = c.args.ends.now in
    let k = c.loop-c.c in
    let many = c.requires.many in
    let inside : k < length ends = (let t = c.loop-c-test.true in omega arith) in
    let part = get_or c.args.parts.now k c.index-parts-c.result in
    let few = (c.requires.each k part (slice_get-get_or c.args.parts.now k c.index-parts-c.result (omega arith))).few in
    let small = count_small rows (start_of ends k) in
    let order = c.requires.cuts.order k inside in
    let within = c.requires.cuts.within k inside in
    let most = c.requires.few in
    let before = c.loop-c.invariant.before in
    omega arith

pub loop-c-preserved : goal.loop-c-preserved
loop-c-preserved c =
    let input = c.args.input.now in
    let rows = input.rows.now in
    let ends = c.args.ends.now in
    let k = c.loop-c.c in
    let many = c.requires.many in
    let part = get_or c.args.parts.now k c.index-parts-c.result in
    let at = slice_get-get_or c.args.parts.now k c.index-parts-c.result (let t = c.loop-c-test.true in omega arith) in
    let more : suc k ≡ k + 1 = omega arith in
    record {
      before =
          counted_next input.text input.tokens.now rows (start_of ends k) (number_at ends k) c.loop-c.before c.behind-before.result part.keys.items part.tally (c.requires.each k part at) c.loop-c.invariant.before c.behind-before.ensures
          ∙ ap (λ (n : ℕ). count_in rows (start_of ends n)) more;
      counts =
          c.in_ok-push.ensures.items
          ∙ (λ i. c.loop-c.invariant.counts i ++ c.loop-c.invariant.before i ∷ [])
          ∙ sym (map_next (λ (n : ℕ). count_in rows (start_of ends n)) k);
    }

pub returns : goal.returns
returns c =
    let rows = c.args.input.now.rows.now in
    let ends = c.args.ends.now in
    let a = c.loop-c.auto.c-end in
    let b = c.loop-c-test.false in
    let many = c.requires.many in
    let all : c.loop-c.c ≡ length ends = omega arith in
    c.loop-c.invariant.counts ∙ ap (counts_of_stretches rows ends) all
