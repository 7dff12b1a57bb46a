use Rattle.std.proofs.Common.{◌∙◌, ap, map}
use Rattle.std.proofs.lemmas.Result.{IfOk-weaker}
use Rattle.std.proofs.Common.{rules}
use Rattle.source_meaning.specs.Grammar.{terminal_number}
use Rattle.front_end.proofs.Placing.{numbers_of}
use Rattle.front_end.proofs.words.word_of.Goals as goal

pub returns : goal.returns
returns g c = IfOk-weaker c.map.result _ _ (λ v given. given terminal_number (search rules) ∙ (ap (map terminal_number) c.kinds.ensures ∙ numbers_of c.args.tokens.now)) c.map.ensures.values
