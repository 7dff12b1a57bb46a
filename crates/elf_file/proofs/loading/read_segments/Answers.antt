use Rattle.std.proofs.Common.{◌+◌, ◌*◌, refl}
use Rattle.std.proofs.lemmas.Result.{err_from_is_err_and}
use Rattle.elf_file.proofs.Headers.{headers-added, headers-refused}
use Rattle.elf_file.proofs.loading.read_segments.Goals as goal

pub returns-in_err-earlier : goal.returns-in_err-earlier
returns-in_err-earlier c =
    let p = err_from_is_err_and c.from_residual.result c.from_residual.ensures.1 in
    rw (p.1, p.2) (headers-refused c.args.file.now c.args.count c.loop-number.number c.args.start (c.args.start + 32 * c.loop-number.number) c.loop-number.earlier _ _ c.loop-number-test.true refl c.loop-number.invariant c.in_err-earlier.ensures)

pub loop-number-preserved : goal.loop-number-preserved
loop-number-preserved c =
    headers-added c.args.file.now c.args.count c.loop-number.number c.args.start (c.args.start + 32 * c.loop-number.number) c.loop-number.earlier _ _ c.loop-number-test.true refl c.loop-number.invariant c.in_ok-earlier.ensures
