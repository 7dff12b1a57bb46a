-- The keys of the stretches so far, and the stretches that are left.
use Rattle.std.proofs.Common.{◌≡◌, ◌++◌, length}
use Rattle.list_cuts.specs.Cuts.{start_of}
use Rattle.name_pass.specs.RowKeys.{keys_from}
use Rattle.name_pass.proofs.declared.join_keys.Given as goal

abbrev pub invariant-loop-part : goal.invariant-loop-part
invariant-loop-part l = (l.yielded ++ l.part-iterator.rest.items ≡ l.fn.parts.items)
    × (l.keys.items ≡ keys_from l.input.text l.input.tokens.now l.input.rows.now 0 (start_of l.ends (length l.yielded)))
