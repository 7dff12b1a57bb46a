use Rattle.board_tests.proofs.Rows.{four_fives}
use Rattle.board_tests.proofs.status_boards.two_loads.Goals as goal

pub looks_back-requires-clause-names : goal.looks_back-requires-clause-names
looks_back-requires-clause-names g c = four_fives
