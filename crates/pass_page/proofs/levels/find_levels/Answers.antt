use Rattle.std.proofs.Common.{◌≡◌, ℕ, ◌+◌, ◌-◌, ◌<◌, List, ◌∙◌, ap, length, get_or, arith}
use Rattle.std.proofs.lemmas.List.{drop-set, length-set}
use Rattle.ast_rows.specs.NodeRows.{parent_numbers}
use Rattle.pass_page.proofs.Told.{level_told, parent_is, room}
use Rattle.pass_page.proofs.levels.find_levels.Goals as goal

pub level_of-requires-clause-behind : goal.level_of-requires-clause-behind
level_of-requires-clause-behind c =
    let rows = c.args.rows.now in
    let many = c.loop-k.invariant.0 in
    let k = c.loop-k.k - 1 in
    let within : k < length rows = omega (arith, many, c.loop-k.auto.k, c.loop-k-test.true) in
    let kept : c.number.result ≡ get_or (parent_numbers 0 rows) k 0 = c.number.ensures ∙ ap (λ (xs : List ℕ). get_or xs k 0) c.parents.ensures in
    let parent = parent_is rows k within in
    omega (arith, kept, parent)

pub level_of-requires-clause-room : goal.level_of-requires-clause-room
level_of-requires-clause-room c =
    λ further.
    let rows = c.args.rows.now in
    let many = c.loop-k.invariant.0 in
    room rows c.loop-k.found (c.loop-k.k - 1) c.loop-k.k c.number.result c.requires.few (omega (arith, c.loop-k-test.true)) (omega (arith, many, c.loop-k.auto.k, c.loop-k-test.true)) further c.loop-k.invariant.1

pub loop-k-preserved : goal.loop-k-preserved
loop-k-preserved c =
    let rows = c.args.rows.now in
    let many = c.loop-k.invariant.0 in
    let k = c.loop-k.k - 1 in
    let next : k + 1 ≡ c.loop-k.k = omega (arith, c.loop-k-test.true) in
    let within : k < length rows = omega (arith, many, c.loop-k.auto.k, c.loop-k-test.true) in
    let kept : c.number.result ≡ get_or (parent_numbers 0 rows) k 0 = c.number.ensures ∙ ap (λ (xs : List ℕ). get_or xs k 0) c.parents.ensures in (
      length-set c.loop-k.found k c.level_of.result ∙ many,
      drop-set c.loop-k.found k c.level_of.result (omega (arith, many, within))
          ∙ level_told rows c.loop-k.found k c.loop-k.k c.number.result c.level_of.result within next kept c.loop-k.invariant.1 c.level_of.ensures,
    )
