use Rattle.std.proofs.Common.{◌≡◌, ◌∙◌, ◌++◌, ◌+◌, List, ℕ, [], ◌∷◌, Vec, Global, map, ap, sym, subst}
use Rattle.std.specs.Prelude.{slice_index}
use Rattle.std.proofs.lemmas.List.{map-append}
use Rattle.state_monoid.specs.Explored.{AreColumns}
use Rattle.state_monoid.specs.Functions.{map_map}
use Rattle.state_monoid.proofs.Joining.{columns_more}
use Rattle.state_monoid.proofs.joins.columns.Goals as goal

pub loop-letter-preserved : goal.loop-letter-preserved
loop-letter-preserved c =
    let rows : List (List ℕ) = map (λ row. row.items) c.args.rows.now in
    let columns : List (List ℕ) = map (λ column. column.items) c.loop-letter.columns.items in
    let n : ℕ = c.loop-letter.letter in
    let is : c.in_ok-column.field-0.items ≡ map (λ row. slice_index row n) rows =
    c.in_ok-column.ensures ∙ sym (map_map (λ (row : List ℕ). slice_index row n) (λ (row : Vec ℕ Global). row.items) c.args.rows.now) in
    let pushed : map (λ column. column.items) c.push.new.self.items ≡ columns ++ c.in_ok-column.field-0.items ∷ [] =
    ap (λ (l : List (Vec ℕ Global)). map (λ column. column.items) l) c.in_ok-push.ensures.items ∙ map-append (λ (column : Vec ℕ Global). column.items) c.loop-letter.columns.items (c.in_ok-column.field-0 ∷ []) in
    subst (λ (l : List (List ℕ)). AreColumns rows (n + 1) l) (sym pushed) (columns_more rows columns c.in_ok-column.field-0.items n c.loop-letter.invariant is)
