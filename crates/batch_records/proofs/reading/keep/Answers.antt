use Rattle.std.proofs.Common.{◌∙◌, ◌≤◌, ◌∷◌, [], ◌++◌, length, sym, arith, length-append}
use Rattle.std.proofs.lemmas.List.{take_all, take-append-le}
use Rattle.batch_records.specs.Batch.{most_records}
use Rattle.batch_records.proofs.reading.keep.Goals as goal

pub returns-in_ok-push : goal.returns-in_ok-push
returns-in_ok-push c =
    let all = c.args.records.now.items ++ c.args.next ∷ [] in
    c.in_ok-push.ensures.items
    ∙ sym (take_all most_records all (let room = c.if-len-lt-MOST_RECORDS.true in omega (arith, c.len.ensures, length-append c.args.records.now.items (c.args.next ∷ []))))

pub returns-else-len-lt-MOST_RECORDS : goal.returns-else-len-lt-MOST_RECORDS
returns-else-len-lt-MOST_RECORDS c =
    let kept = c.args.records.now.items in
    let full : most_records ≤ length kept = (let h = c.if-len-lt-MOST_RECORDS.false in omega (arith, c.len.ensures)) in
    sym (take-append-le most_records kept (c.args.next ∷ []) full ∙ take_all most_records kept c.requires)
