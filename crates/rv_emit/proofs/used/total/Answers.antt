use Rattle.std.proofs.Common.{◌≡◌, sym, ap, ◌∙◌, get_or, length, arith}
use Rattle.word_monoid.specs.Folds.{prefixes}
use Rattle.word_monoid.specs.Instances.{count}
use Rattle.rv_select.specs.Laws.Laid.{prefix_first, prefix_step}
use Rattle.rv_emit.proofs.used.total.Goals as goal

pub loop-k-init : goal.loop-k-init
loop-k-init c = (sym (prefix_first count c.args.sizes.now), omega arith)

pub overflow_add-words : goal.overflow_add-words
overflow_add-words c = let low = c.loop-k.invariant.1 in let few = c.requires.len in let within = c.loop-k-test.true in omega arith

pub loop-k-preserved : goal.loop-k-preserved
loop-k-preserved c =
    let so_far = c.loop-k.invariant.0 in
    let low = c.loop-k.invariant.1 in
    let few = c.requires.len in
    let within = c.loop-k-test.true in
    let next = prefix_step count c.args.sizes.now c.loop-k.k within in
    (omega arith, omega arith)

pub returns-clause-value : goal.returns-clause-value
returns-clause-value c =
    let end : c.loop-k.k ≡ length c.args.sizes.now = (let le = c.loop-k.auto.k-end in let stop = c.loop-k-test.false in omega arith) in
    c.loop-k.invariant.0 ∙ ap (λ k. get_or (prefixes count c.args.sizes.now) k 0) end

pub returns-clause-small : goal.returns-clause-small
returns-clause-small c = let low = c.loop-k.invariant.1 in let few = c.requires.len in let le = c.loop-k.auto.k-end in omega arith
