use Rattle.std.proofs.Common.{◌≡◌, ℕ, ◌+◌, ◌∙◌, ap, sym, get_or, length, map, take, arith}
use Rattle.std.specs.Prelude.{codes, decimal}
use Rattle.std.specs.List.{range_with_len}
use Rattle.state_monoid.specs.Automaton.{run, step}
use Rattle.text_columns.specs.declared.column.Align.TheVariants.{Right}
use Rattle.pass_tables.specs.Tables.{numbers}
use Rattle.pass_tables.proofs.Cells.{next_given}
use Rattle.pass_tables.proofs.Walked.{run_next}
use Rattle.pass_tables.proofs.states.states_behind.Goals as goal

pub loop-byte-preserved : goal.loop-byte-preserved
loop-byte-preserved c =
    let d = c.args.dfa.now in
    let text = c.args.text.now in
    let i = c.loop-byte.byte-index in
    let so_far = c.loop-byte.invariant in
    let state : c.next-state.result ≡ run d 0 (take (i + 1) text) =
    c.next-state.ensures.value ∙ ap (λ (s : ℕ). step d s (get_or text i 0)) so_far.state_is ∙ sym (run_next d 0 text i c.loop-byte-test.true) in
    record {
      column_is = next_given decimal (λ (k : ℕ). run d 0 (take (k + 1) text)) (codes "state") Right i (decimal c.from.result) c.loop-byte.column c.push_number.new.self so_far.column_is
          c.in_ok-push_number.ensures.ok (ap decimal (c.from.ensures ∙ state));
      state_is = state;
      within = c.next-state.ensures.within;
    }

pub returns : goal.returns
returns c =
    let all : c.loop-byte.byte-index ≡ length c.args.text.now = omega arith in
    c.loop-byte.invariant.column_is ∙ ap (λ (n : ℕ). numbers (codes "state") (map (λ k. run c.args.dfa.now 0 (take (k + 1) c.args.text.now)) (range_with_len 0 n))) all
