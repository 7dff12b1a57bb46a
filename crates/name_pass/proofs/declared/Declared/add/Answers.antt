use Rattle.std.proofs.Common.{◌≡◌, true, false, [], ◌∷◌, ◌++◌, sym, ap, ◌∙◌}
use Rattle.std.proofs.lemmas.List.{append-nil}
use Rattle.name_pass.specs.RowNames.{declares, count_step, row}
use Rattle.name_pass.specs.Stretches.{count_behind}
use Rattle.name_pass.proofs.Counting.{key_alone, none_alone, not_counted}
use Rattle.name_pass.proofs.declared.Declared.add.Goals as goal

pub returns-in_ok-push-clause-keys : goal.returns-in_ok-push-clause-keys
returns-in_ok-push-clause-keys c =
    let input = c.args.input.now in
    let old = c.args.self.now.keys.items in
    let is : declares (row input.rows.now c.args.row).kind ≡ true = sym (c.declares.ensures ∙ ap declares c.kind-kind.ensures) ∙ c.if-declares.true in
    c.in_ok-push.ensures.items
    ∙ ap (λ k. old ++ k ∷ []) c.key_of.ensures.is
    ∙ ap (λ l. old ++ l) (sym (key_alone input.text input.tokens.now input.rows.now c.args.row is))

pub returns-in_ok-push-clause-counts : goal.returns-in_ok-push-clause-counts
returns-in_ok-push-clause-counts c = λ before. c.with-self.ensures.counts before ∙ ap (λ k. count_step k (count_behind c.args.self.now.tally before)) c.kind-kind.ensures

pub returns-else-declares-clause-keys : goal.returns-else-declares-clause-keys
returns-else-declares-clause-keys c =
    let input = c.args.input.now in
    let old = c.args.self.now.keys.items in
    let is : declares (row input.rows.now c.args.row).kind ≡ false = sym (c.declares.ensures ∙ ap declares c.kind-kind.ensures) ∙ c.if-declares.false in
    sym (ap (λ l. old ++ l) (none_alone input.text input.tokens.now input.rows.now c.args.row is) ∙ append-nil old)

pub returns-else-declares-clause-counts : goal.returns-else-declares-clause-counts
returns-else-declares-clause-counts c = λ before.
    let input = c.args.input.now in
    let is : declares (row input.rows.now c.args.row).kind ≡ false = sym (c.declares.ensures ∙ ap declares c.kind-kind.ensures) ∙ c.if-declares.false in
    sym (not_counted (row input.rows.now c.args.row).kind (count_behind c.args.self.now.tally before) is)
