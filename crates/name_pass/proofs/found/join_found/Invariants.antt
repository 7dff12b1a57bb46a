-- What is found for the stretches so far, and the stretches that are left.
use Rattle.std.proofs.Common.{◌≡◌, ◌++◌, length}
use Rattle.list_cuts.specs.Cuts.{start_of}
use Rattle.name_pass.specs.Found.{AreFound}
use Rattle.name_pass.proofs.found.join_found.Given as goal

abbrev pub invariant-loop-part : goal.invariant-loop-part
invariant-loop-part l = (l.yielded ++ l.part-iterator.rest.items ≡ l.fn.parts.items)
    × AreFound l.scopes.text.now l.scopes.tokens.now l.scopes.rows.now 0 (start_of l.ends (length l.yielded)) l.all.words.items l.all.numbers.items l.all.least
