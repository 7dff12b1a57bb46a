-- A worked schedule: two chunks with the sums 4 and 5, and two seats.
use Rattle.std.specs.Prelude.{ℕ, List, [], ◌∷◌, Some, None}
use Rattle.board_core.specs.declared.steps.Event.{Event}
use Rattle.board_core.specs.declared.steps.Event.TheVariants.{Claim, Done, Show, Look, Seal, Split, Join}
use Rattle.board_core.specs.declared.steps.Status.TheVariants.{A, P}
use Rattle.board_core.specs.declared.steps.Reply.{Reply}
use Rattle.board_core.specs.declared.steps.Reply.TheVariants.{Drew, Looked, Did, NewSeat, Passed}
use Rattle.word_monoid.specs.Instances.{count}
use Rattle.board_core.specs.Schedules.{start, replies}

abbrev pub its_steps : List Event
its_steps =
    Split 0 1 ∷ Claim 1 ∷ Claim 0 ∷ Show 1 0 ∷ Look 0 0 ∷ Seal 0 1 ∷ Show 0 1 ∷ Seal 0 1 ∷ Look 1 1 ∷
    Done 1 0 ∷ Claim 1 ∷ Claim 1 ∷ Join 0 0 ∷ []

abbrev pub its_replies : List (Reply ℕ)
its_replies =
    NewSeat 1 ∷ Drew (Some 0) ∷ Drew (Some 1) ∷ Did ∷ Looked (A 4) ∷ Passed ∷ Did ∷ Did ∷ Looked (P 9) ∷
    Did ∷ Drew None ∷ Passed ∷ Passed ∷ []

abbrev pub replies_of_steps : List (Reply ℕ)
replies_of_steps = let sums : List ℕ = 4 ∷ 5 ∷ [] in replies count sums (start count sums 2) its_steps
