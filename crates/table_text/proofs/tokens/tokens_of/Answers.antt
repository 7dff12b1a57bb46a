use Rattle.std.proofs.Common.{length, not, eqb, ◌||◌, rules, tests}
use Rattle.std.proofs.lemmas.Iterator.{YieldsList-from_map, items_from_collect}
use Rattle.std.proofs.lemmas.Iterator.Consumers.{YieldsList-at, YieldsList-from_filter}
use Rattle.std.proofs.lemmas.Iterator.Splits.{YieldsList-from_slice_split}
use Rattle.table_text.specs.Tokens.{token_of}
use Rattle.table_text.proofs.tokens.tokens_of.Goals as goal

pub returns : goal.returns
returns c = items_from_collect _ c.collect.ensures.ran
    (YieldsList-from_map _ (token_of c.args.grammar.now) (YieldsList-at c.map.ensures.source
    (YieldsList-from_filter _ (λ w. not (eqb (length w) 0))
    (YieldsList-from_slice_split _ (λ b. eqb b 32 || eqb b 9) c.args.text.now (cc) (cc) (cc) (λ x b q k. search (rules, tests)))
    (cc) (λ x b q k. search (rules, tests))))
    c.map.ensures.closure (λ x r q k. search (rules, tests)))
