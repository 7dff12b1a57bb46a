use Rattle.board_tests.proofs.Rows.{four_and_five}
use Rattle.board_tests.proofs.status_boards.two_seats_look.Goals as goal

pub looks-requires-clause-names : goal.looks-requires-clause-names
looks-requires-clause-names g c = four_and_five
