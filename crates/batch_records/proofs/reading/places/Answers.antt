use Rattle.std.proofs.Common.{◌<◌, arith}
use Rattle.std.proofs.lemmas.List.Elements.{All-from_get_or}
use Rattle.batch_records.proofs.Reached.{next_reached, few_kept, broken_at, too_many_records, batch_read}
use Rattle.batch_records.proofs.reading.places.Goals as goal

pub returns-in_default-clause-fault : goal.returns-in_default-clause-fault
returns-in_default-clause-fault c = broken_at c.args.input.now _ _ _ c.requires.small c.loop-place.invariant c.in_default.ensures

pub keep-requires : goal.keep-requires
keep-requires c = few_kept _ _ _ _ c.loop-place.invariant

pub loop-place-preserved : goal.loop-place-preserved
loop-place-preserved c =
    next_reached c.args.input.now _ _ _ _ _ (All-from_get_or (λ b. b < 256) c.args.input.now 0 (λ k l. let fits = c.type_inv.input k in omega arith)) c.loop-place.invariant c.in-Some.ensures c.in_ok-keep.ensures

pub returns-then-count-gt-MOST_RECORDS-clause-fault : goal.returns-then-count-gt-MOST_RECORDS-clause-fault
returns-then-count-gt-MOST_RECORDS-clause-fault c =
    too_many_records c.args.input.now _ _ _ c.requires.small c.loop-place.invariant (λ h. let ended = c.loop-place-test.false in omega arith) c.if-count-gt-MOST_RECORDS.true

pub returns-clause-batch : goal.returns-clause-batch
returns-clause-batch c =
    batch_read c.args.input.now _ _ _ c.requires.small c.loop-place.invariant (λ h. let ended = c.loop-place-test.false in omega arith) (let few = c.if-count-gt-MOST_RECORDS.false in omega arith)
