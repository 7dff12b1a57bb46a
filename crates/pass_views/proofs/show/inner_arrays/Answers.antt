use Rattle.pass_views.proofs.Showing.{are_pairs, are_states}
use Rattle.pass_views.proofs.show.inner_arrays.Goals as goal

pub returns-clause-states : goal.returns-clause-states
returns-clause-states c = are_states c.args.source.now c.in_ok-arrays_of_states.field-0.items c.requires.lexed.fits c.in_ok-arrays_of_states.ensures

pub returns-clause-pairs : goal.returns-clause-pairs
returns-clause-pairs c =
    let t = c.requires.parsed in
    let is = c.in_ok-arrays_of_pairs.ensures in
    are_pairs c.args.source.now c.args.tokens.now c.kinds.result.now c.in_ok-arrays_of_pairs.field-0.items t.0 is.0 c.requires.lexed t.1 c.kinds.ensures is.1 is.2
