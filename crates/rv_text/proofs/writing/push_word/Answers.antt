use Rattle.std.proofs.Common.{◌≡◌, None, sym, ◌∙◌}
use Rattle.rv_isa.specs.Encoding.{decoded}
use Rattle.rv_text.proofs.writing.push_word.Goals as goal

pub returns-in-None : goal.returns-in-None
returns-in-None c = let e : decoded c.args.word ≡ None = sym c.decode.ensures.decoded ∙ c.in-None.is in rw e c.push_raw.ensures
