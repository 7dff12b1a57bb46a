use Rattle.std.proofs.Common.{refl}
use Rattle.clap.proofs.OnLiterals.{clap_on_literals}
use Rattle.diagnostic_texts.specs.Explained.{explanations}
use Rattle.command_line.proofs.laws.worked_words.Goals as goal

pub returns : goal.returns
unfolding clap_on_literals explanations
returns c = record { build = refl; fold = refl; fold_run = refl; fold_twice = refl; fold_valued = refl; fold_elsewhere = refl; options = refl; show = refl; show_all = refl; show_places = refl; show_states = refl; show_pairs = refl; page = refl; page_options = refl; page_and_pass = refl; pass_and_page = refl; page_twice = refl; page_elsewhere = refl; no_pass = refl; passless = refl; two_passes = refl; batch = refl; batch_options = refl; fold_batch = refl; emu = refl; dump = refl; asm = refl; table = refl; word = refl; empty_word = refl; entries = refl; word_and_entries = refl; entries_valued = refl; entries_elsewhere = refl; valueless = refl; two_words = refl; drill = refl; seedless = refl; explain = refl; unknown = refl; codeless = refl; two_codes = refl; explain_shared = refl; bare = refl; too_many = refl; help = refl }
