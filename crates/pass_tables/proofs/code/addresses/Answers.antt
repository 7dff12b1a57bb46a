use Rattle.std.proofs.Common.{◌≡◌, ℕ, ◌∙◌, ap, map, arith}
use Rattle.std.specs.Prelude.{codes}
use Rattle.std.specs.List.{range_with_len}
use Rattle.text_columns.specs.declared.column.Align.TheVariants.{Left}
use Rattle.pass_tables.specs.Tables.{address_text, hexadecimal_text, texts}
use Rattle.pass_tables.proofs.Cells.{next_place}
use Rattle.pass_tables.proofs.code.addresses.Goals as goal

pub loop-k-preserved : goal.loop-k-preserved
loop-k-preserved c =
    next_place address_text (codes "address") Left c.loop-k.k (hexadecimal_text c.address.result) c.loop-k.column c.put_word.new.column c.loop-k.invariant c.in_ok-put_word.ensures
    (ap hexadecimal_text c.address.ensures)

pub returns : goal.returns
returns c =
    let all : c.loop-k.k ≡ c.args.count = omega (arith, c.loop-k-test.false, c.loop-k.auto.k-end) in
    c.loop-k.invariant ∙ ap (λ (n : ℕ). texts (codes "address") (map address_text (range_with_len 0 n))) all
