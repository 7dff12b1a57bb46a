use Rattle.std.proofs.Common.{◌≡◌, ◌∙◌, ℕ, List, Some, length, ap, sym, subst, arith, Err}
use Rattle.std.proofs.lemmas.List.{length-map}
use Rattle.source_meaning.specs.Lexemes.{tokens, place_of}
use Rattle.source_meaning.specs.Grammar.{ast}
use Rattle.source_meaning.specs.Scope.{Fault, earliest, scope_faults}
use Rattle.ast_rows.specs.TokenRows.{TokenRow, row_of}
use Rattle.row_rules.specs.Formed.{IsFormed}
use Rattle.name_pass.specs.Spelling.{spelled}
use Rattle.verdict.specs.Verdict.{IsVerdict, Diagnosed}
use Rattle.front_end.specs.Laws.Counting.{rows_few}
use Rattle.front_end.proofs.Faulty.{some_fault}
use Rattle.front_end.proofs.Judging.{scope_told}
use Rattle.front_end.proofs.phases.named.Goals as goal

pub resolve-requires-clause-tokens : goal.resolve-requires-clause-tokens
resolve-requires-clause-tokens g c = let h = rows_few c.args.source.now c.args.tokens.now c.requires.lexed in omega arith

pub returns-in-Err-Diagnostic-clause-refused : goal.returns-in-Err-Diagnostic-clause-refused
returns-in-Err-Diagnostic-clause-refused g c = λ t are fold.
    let text = c.args.source.now in
    let f : Fault = record { at = c.in-Err-Diagnostic.at; code = c.in-Err-Diagnostic.code } in
    let formed : IsFormed (length c.args.tokens.now) (spelled text c.args.tokens.now) (ast t) =
    subst (λ (rs : List TokenRow). IsFormed (length rs) (spelled text rs) (ast t)) (sym c.requires.lexed.are) (c.programs_are_formed.ensures text t are.tree are.shaped) in
    let e = c.in-Err-Diagnostic.ensures.fault c.in-Err-Diagnostic.code c.in-Err-Diagnostic.at (ap Err c.in-Err-Diagnostic.field-0-is) (ast t) are.are formed in
    let many : length c.args.tokens.now ≡ length (tokens text) = ap length c.requires.lexed.are ∙ length-map (tokens text) row_of in
    subst (λ (k : ℕ). IsVerdict fold text (Diagnosed c.in-Err-Diagnostic.code k)) (sym (c.place.ensures c.requires.lexed ∙ ap (place_of text (tokens text)) c.from.ensures))
    (scope_told fold text t c.requires.lexed.fits c.requires.lexed.lexical are.tree f are.shaped (subst (λ (k : ℕ). earliest (scope_faults k (ast t)) ≡ Some f) many e))

pub returns-in-Err-Diagnostic-clause-faulty : goal.returns-in-Err-Diagnostic-clause-faulty
returns-in-Err-Diagnostic-clause-faulty g c = λ t are none.
    let text = c.args.source.now in
    let f : Fault = record { at = c.in-Err-Diagnostic.at; code = c.in-Err-Diagnostic.code } in
    let formed : IsFormed (length c.args.tokens.now) (spelled text c.args.tokens.now) (ast t) =
    subst (λ (rs : List TokenRow). IsFormed (length rs) (spelled text rs) (ast t)) (sym c.requires.lexed.are) (c.programs_are_formed.ensures text t are.tree are.shaped) in
    let e = c.in-Err-Diagnostic.ensures.fault c.in-Err-Diagnostic.code c.in-Err-Diagnostic.at (ap Err c.in-Err-Diagnostic.field-0-is) (ast t) are.are formed in
    let many : length c.args.tokens.now ≡ length (tokens text) = ap length c.requires.lexed.are ∙ length-map (tokens text) row_of in
    some_fault (scope_faults (length (tokens text)) (ast t)) f (subst (λ (k : ℕ). earliest (scope_faults k (ast t)) ≡ Some f) many e) none
