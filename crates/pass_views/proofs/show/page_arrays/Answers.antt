use Rattle.pass_views.proofs.Showing.{code_only, passed_on, types_only}
use Rattle.pass_views.proofs.show.page_arrays.Goals as goal

pub returns-clause-ok : goal.returns-clause-ok
returns-clause-ok g c = λ states pairs are_states are_pairs.
    let meaning = c.in_ok-analysis.ensures in
    let last = c.in_ok-code.ensures in
    record {
      states_are = are_states;
      tokens_are = c.requires.tokens;
      pairs_are = are_pairs;
      parse_are = c.requires.parse;
      rows_are = c.requires.rows;
      names_are = meaning.names;
      types_are = meaning.types;
      frames_are = last.frames;
      places_are = last.places;
      code_are = last.code;
    }

pub returns-in_err-analysis-clause-stopped : goal.returns-in_err-analysis-clause-stopped
returns-in_err-analysis-clause-stopped g c =
    let text = c.args.source.now in
    passed_on text c.from_residual.result c.in_err-analysis.field-0.0 c.from_residual.ensures.1
    (λ none all are. let types = types_only text all.of_types are.types_are in none types.0 types.1) c.in_err-analysis.ensures.stopped

pub returns-in_err-code-clause-stopped : goal.returns-in_err-code-clause-stopped
returns-in_err-code-clause-stopped g c =
    let text = c.args.source.now in
    passed_on text c.from_residual-in_err-code.result c.in_err-code.field-0.0 c.from_residual-in_err-code.ensures.1
    (λ none all are. let code = code_only text all.of_code are.code_are in none code.0 code.1) c.in_err-code.ensures.stopped
