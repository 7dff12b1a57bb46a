use Rattle.std.proofs.Common.{◌≡◌, ◌∙◌, ap, ◌-◌, length, drop, arith, length-drop}
use Rattle.std.proofs.lemmas.List.{take_all}
use Rattle.byteorder.specs.Endian.{little_number}
use Rattle.batch_records.specs.Batch.{no_length, cut_off}
use Rattle.batch_records.proofs.reading.record_at.Goals as goal

pub returns-then-rest-lt-LENGTH : goal.returns-then-rest-lt-LENGTH
returns-then-rest-lt-LENGTH c =
    let long : length (drop c.args.place c.args.input.now) ≡ length c.args.input.now - c.args.place = length-drop c.args.place c.args.input.now in
    no_length (let h = c.requires.within in omega arith) (let h = c.if-rest-lt-LENGTH.true in omega arith)

pub returns-then-rest-length : goal.returns-then-rest-length
returns-then-rest-length c =
    let rest = drop c.args.place c.args.input.now in
    let many = length c.args.input.now - c.args.place in
    let long : length rest ≡ many = length-drop c.args.place c.args.input.now in
    let number : c.read_u32-length.result ≡ little_number 4 rest =
    c.read_u32-length.ensures ∙ ap (little_number 4) (take_all many rest (omega (arith, long))) in
    cut_off (let h = c.if-rest-lt-LENGTH.false in omega (arith, long)) (let h = c.if-rest-length.true in omega (arith, number, long))
