use Rattle.std.proofs.Common.{◌≡◌, ◌∙◌, ap, arith, ◌+◌, List, length, map, slice_index_or}
use Rattle.source_meaning.specs.Lexemes.{tokens, place_of}
use Rattle.ast_rows.specs.TokenRows.{TokenRow}
use Rattle.front_end.proofs.Placing.{places_are, starts_of}
use Rattle.front_end.proofs.places.place.Goals as goal

pub returns : goal.returns
returns c = λ are.
    c.number_or.ensures
    ∙ (ap (λ ns. slice_index_or ns c.args.token (length c.args.source.now)) (c.starts.ensures ∙ (ap (λ (rs : List TokenRow). map (λ r. r.start) rs) are.are ∙ starts_of (tokens c.args.source.now)))
    ∙ places_are c.args.source.now 0 (tokens c.args.source.now) (c.tokens_are_sliced.ensures c.args.source.now) c.args.token
    ∙ ap (place_of c.args.source.now (tokens c.args.source.now)) (let e : 0 + c.args.token ≡ c.args.token = omega arith in e))
