use Rattle.std.proofs.Common.{◌≡◌, ◌∙◌, ◌++◌, ◌∷◌, [], ap, length, rules}
use Rattle.std.specs.Prelude.{max}
use Rattle.text_columns.specs.Columns.{Column}
use Rattle.text_columns.proofs.Cells.{cells_put, kept_put, with_cells}
use Rattle.text_columns.proofs.column.Column.push.Goals as goal

pub invariant_of-self-2 : goal.invariant_of-self-2
invariant_of-self-2 c =
    let ends : c.push.new.self.items ≡ c.self.inside.ends.items ++ c.len.result ∷ [] = search rules in
    let bytes : c.extend_from_slice.new.self.items ≡ c.self.inside.bytes.items ++ c.args.cell.now = search rules in
    let end : c.len.result ≡ length c.extend_from_slice.new.self.items = search rules in
    let wide : c.max-self-inside.result ≡ max c.self.inside.width (length c.args.cell.now) = search rules in
    kept_put c.self.inside.title.items c.self.inside.align c.self.inside.ends.items c.self.inside.bytes.items c.args.cell.now c.push.new.self.items c.extend_from_slice.new.self.items c.len.result
    c.self.inside.width c.max-self-inside.result c.self.invariant ends bytes end wide

pub returns-clause-ok : goal.returns-clause-ok
returns-clause-ok c =
    let ends : c.push.new.self.items ≡ c.self.inside.ends.items ++ c.len.result ∷ [] = search rules in
    let bytes : c.extend_from_slice.new.self.items ≡ c.self.inside.bytes.items ++ c.args.cell.now = search rules in
    let end : c.len.result ≡ length c.extend_from_slice.new.self.items = search rules in
    let cells =
    cells_put c.self.inside.ends.items c.self.inside.bytes.items c.args.cell.now c.push.new.self.items c.extend_from_slice.new.self.items c.len.result c.self.invariant.ends_are ends bytes end in
    ap (with_cells c.self.inside.title.items c.self.inside.align) cells ∙ ap (λ (v : Column). with_cells v.title v.align (v.cells ++ c.args.cell.now ∷ [])) c.self.view_is
