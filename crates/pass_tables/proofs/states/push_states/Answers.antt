use Rattle.std.proofs.Common.{◌≡◌, ◌++◌, ◌∙◌, ℕ, ap, map, arith}
use Rattle.std.specs.List.{range_with_len}
use Rattle.pass_tables.specs.Tables.{next_states}
use Rattle.pass_tables.proofs.Walked.{one_more}
use Rattle.pass_tables.proofs.states.push_states.Goals as goal

pub loop-state-preserved : goal.loop-state-preserved
loop-state-preserved c =
    one_more (next_states c.args.dfa.now c.args.text.now) c.args.columns.now.items c.loop-state.columns.items c.push.new.self.items c.loop-state.state _ c.loop-state.invariant
    c.in_ok-push.ensures.items c.in_ok-states_from.ensures

pub returns : goal.returns
returns c =
    let all : c.loop-state.state ≡ c.args.count = omega (arith, c.loop-state-test.false, c.loop-state.auto.state-end) in
    c.loop-state.invariant ∙ ap (λ (n : ℕ). c.args.columns.now.items ++ map (next_states c.args.dfa.now c.args.text.now) (range_with_len 0 n)) all
