use Rattle.std.proofs.Common.{◌≡◌, ℕ, ◌+◌, [], ◌∷◌, ◌++◌, ◌∙◌, ap, sym, get_or, map, take}
use Rattle.std.proofs.lemmas.List.{map_push}
use Rattle.llp_tables.specs.EntryTable.{entry_of}
use Rattle.text_columns.specs.declared.column.Align.TheVariants.{Left}
use Rattle.pass_tables.specs.Tables.{pairs_in}
use Rattle.pass_tables.specs.PairTexts.{part_text}
use Rattle.pass_tables.proofs.Cells.{more_cells}
use Rattle.pass_tables.proofs.Walked.{behind_next, pairs_more}
use Rattle.pass_tables.proofs.pairs.parts.Goals as goal

pub loop-terminal-preserved : goal.loop-terminal-preserved
loop-terminal-preserved c =
    let word = c.args.word.now in
    let i = c.loop-terminal.terminal-index in
    let told = part_text c.args.part c.args.reading.now.grammar.now (entry_of c.args.reading.now.tables.now) in
    let so_far = c.loop-terminal.invariant in
    let more : map told (pairs_in (take (i + 1) word)) ≡ map told (pairs_in (take i word)) ++ told (c.loop-terminal.before, get_or word i 0) ∷ [] =
    ap (map told) (pairs_more word i c.loop-terminal-test.true)
    ∙ map_push told (pairs_in (take i word)) (get_or (0 ∷ word) i 0, get_or word i 0)
    ∙ ap (λ (b : ℕ). map told (pairs_in (take i word)) ++ told (b, get_or word i 0) ∷ []) (sym so_far.before_is) in
    record {
      column_is = more_cells c.args.title.now Left (map told (pairs_in (take i word))) (map told (pairs_in (take (i + 1) word))) (told (c.loop-terminal.before, get_or word i 0) ∷ []) c.loop-terminal.column c.put_part.new.column
          so_far.column_is c.in_ok-put_part.ensures more;
      before_is = behind_next 0 word i;
    }
