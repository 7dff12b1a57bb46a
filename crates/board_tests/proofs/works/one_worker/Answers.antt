use Rattle.board_tests.proofs.Rows.{three_chunks}
use Rattle.board_tests.proofs.works.one_worker.Goals as goal

pub works-requires-clause-names : goal.works-requires-clause-names
works-requires-clause-names g c = three_chunks
