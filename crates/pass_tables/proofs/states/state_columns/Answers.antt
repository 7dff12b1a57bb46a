use Rattle.std.proofs.Common.{◌++◌, ◌∷◌, ◌∙◌, ℕ, List, map}
use Rattle.std.specs.List.{range_with_len}
use Rattle.text_columns.specs.Columns.{Column}
use Rattle.pass_tables.specs.Tables.{next_states}
use Rattle.pass_tables.proofs.states.state_columns.Goals as goal

pub returns : goal.returns
returns c =
    let functions : ℕ → List Column = λ n. map (next_states c.args.dfa.now c.args.text.now) (range_with_len 0 n) in
    c.in_ok-push_states.ensures
    ∙ (λ i. (c.in_ok-columns.ensures.items i) ++ functions (c.states-count.ensures.value i))
    ∙ (λ i. c.in_ok-places.ensures i ∷ c.in_ok-values.ensures i ∷ c.in_ok-states.ensures i ∷ functions c.args.dfa.now.states)
