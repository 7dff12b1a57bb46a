use Rattle.std.proofs.Common.{rules, ◌≡◌, ℕ, ◌+◌, List, ◌∷◌, ◌++◌, false, drop, map, sym, ap, ◌∙◌, append_assoc}
use Rattle.std.proofs.lemmas.List.{append-nil, drop_more}
use Rattle.text_columns.specs.Columns.{Column, spaced, spaces}
use Rattle.text_columns.specs.Lines.{padded_in, written_in}
use Rattle.text_columns.proofs.Joined.{gap, part_more}
use Rattle.text_columns.proofs.table.push_parts.Goals.{then-not-begins+in_ok-extend_from_slice, else-not-begins}
use Rattle.text_columns.proofs.table.push_parts.Goals as goal

pub loop-column-preserved : goal.loop-column-preserved
loop-column-preserved c =
    let old = c.args.out.now.items in
    let part = c.loop-column.invariant.0 in
    let begins = c.loop-column.begins in
    let k = c.loop-column.column-index in
    let columns = c.args.columns.now in
    let column = c.column-item.result in
    let front = part ++ spaces c.loop-column.lacking in
    let rest = map (padded_in c.args.line) (drop (k + 1) columns) in
    let before : c.push_spaces.new.out.items ≡ old ++ front =
    c.in_ok-push_spaces.ensures ∙ ap (λ (x : List ℕ). x ++ spaces c.loop-column.lacking) c.loop-column.invariant.1 ∙ append_assoc old part (spaces c.loop-column.lacking) in
    let gapped : c.if-not-begins.out.items ≡ c.push_spaces.new.out.items ++ gap begins = elim c.if-not-begins.branch [
      | then-not-begins+in_ok-extend_from_slice w ↦ search rules
      | else-not-begins w ↦ (λ i. (w.out-is i).items) ∙ sym (append-nil c.push_spaces.new.out.items) ∙ ap (λ b. c.push_spaces.new.out.items ++ gap b) (sym w.if-not-begins.false)
    ] in
    let more : drop k columns ≡ column ∷ drop (k + 1) columns = drop_more columns k column c.loop-column-test.true ∙ ap (λ (x : Column). x ∷ drop (k + 1) columns) (sym c.column-item.is) in (
      (front ++ gap begins) ++ written_in c.args.line column,
      c.in_ok-lacking.ensures.0 ∙ ap (λ (x : List ℕ). x ++ written_in c.args.line column) (gapped ∙ ap (λ (x : List ℕ). x ++ gap begins) before ∙ append_assoc old front (gap begins))
          ∙ append_assoc old (front ++ gap begins) (written_in c.args.line column),
      ap (λ (n : ℕ). (((front ++ gap begins) ++ written_in c.args.line column) ++ spaces n) ++ spaced false rest) c.in_ok-lacking.ensures.1
          ∙ part_more begins front c.args.line column rest
          ∙ ap (λ (xs : List Column). front ++ spaced begins (map (padded_in c.args.line) xs)) (sym more)
          ∙ c.loop-column.invariant.2,
    )
