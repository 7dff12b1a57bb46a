use Rattle.std.proofs.Common.{◌≡◌, ◌∙◌, ap, sym, length, rules}
use Rattle.text_columns.specs.Columns.{Column}
use Rattle.text_columns.proofs.Cells.{length-cells_from}
use Rattle.text_columns.proofs.column.Column.len.Goals as goal

pub returns : goal.returns
returns c =
    let many : c.len.result ≡ length c.self.inside.ends.items = search rules in
    many ∙ sym (length-cells_from 0 c.self.inside.ends.items c.self.inside.bytes.items) ∙ ap (λ (v : Column). length v.cells) c.self.view_is
