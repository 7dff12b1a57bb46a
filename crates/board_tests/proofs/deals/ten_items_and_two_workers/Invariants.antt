use Rattle.std.proofs.Common.{◌≡◌, ◌*◌, replicate}
use Rattle.board_tests.proofs.deals.ten_items_and_two_workers.Given as goal

abbrev pub ghosts-deals : goal.ghosts-deals
ghosts-deals g a = record { items = replicate 10 7; good = λ k x. x ≡ k * 10 }
