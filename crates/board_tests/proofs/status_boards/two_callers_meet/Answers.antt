use Rattle.board_tests.proofs.Rows.{four_and_five}
use Rattle.board_tests.proofs.status_boards.two_callers_meet.Goals as goal

pub meets-requires-clause-names : goal.meets-requires-clause-names
meets-requires-clause-names g c = λ κs. four_and_five
