-- Where the walk stands before the stretch that comes next, and what the stretches before it are handed.
use Rattle.std.proofs.Common.{◌≡◌, ℕ, ◌<◌, length, get_or}
use Rattle.tree_passes.specs.Stretches.{IsHanded, nowhere, standing_before}
use Rattle.tree_passes.proofs.standings.hand_out.Given as goal

abbrev pub invariant-loop-pieces : goal.invariant-loop-pieces
invariant-loop-pieces l = record {
  stands : l.standing ≡ standing_before l.parse.numbers.now l.parse.ends.now l.pieces-index;
  many : length l.handed.items ≡ l.pieces-index;
  handed : (c : ℕ) → c < l.pieces-index → IsHanded l.parse.numbers.now l.parse.ends.now c (get_or l.handed.items c nowhere);
}
