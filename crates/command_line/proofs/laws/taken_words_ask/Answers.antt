use Rattle.command_line.proofs.Matched.{no_code, no_view, taken_asked, unknown}
use Rattle.command_line.proofs.laws.taken_words_ask.Goals as goal

pub returns : goal.returns
returns c = record { asks = taken_asked; no_code = no_code; no_view = no_view; unless = unknown }
