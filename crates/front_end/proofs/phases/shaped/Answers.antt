use Rattle.std.proofs.Common.{◌≡◌, ◌∙◌, ℕ, Some, sym, subst, ap, Err}
use Rattle.source_meaning.specs.Lexemes.{tokens, place_of}
use Rattle.source_meaning.specs.Grammar.{ast}
use Rattle.source_meaning.specs.Scope.{Fault, earliest}
use Rattle.source_meaning.specs.Shape.{shape_faults}
use Rattle.verdict.specs.Verdict.{IsVerdict, Diagnosed}
use Rattle.front_end.proofs.Faulty.{some_fault}
use Rattle.front_end.proofs.Judging.{shape_told}
use Rattle.front_end.proofs.phases.shaped.Goals as goal

pub returns-in-Err-Diagnostic-clause-refused : goal.returns-in-Err-Diagnostic-clause-refused
returns-in-Err-Diagnostic-clause-refused g c = λ fold.
    let text = c.args.source.now in
    let t = c.requires.parsed.0 in
    let e = c.in-Err-Diagnostic.ensures.fault c.in-Err-Diagnostic.code c.in-Err-Diagnostic.at (ap Err c.in-Err-Diagnostic.field-0-is) t c.requires.parsed.1 in
    subst (λ (k : ℕ). IsVerdict fold text (Diagnosed c.in-Err-Diagnostic.code k)) (sym (c.place.ensures c.requires.lexed ∙ ap (place_of text (tokens text)) c.from.ensures))
    (shape_told fold text t c.requires.lexed.fits c.requires.lexed.lexical c.requires.parsed.1.0 (record { at = c.in-Err-Diagnostic.at; code = c.in-Err-Diagnostic.code }) e)

pub returns-in-Err-Diagnostic-clause-faulty : goal.returns-in-Err-Diagnostic-clause-faulty
returns-in-Err-Diagnostic-clause-faulty g c = λ t tree none.
    let f : Fault = record { at = c.in-Err-Diagnostic.at; code = c.in-Err-Diagnostic.code } in
    let u = c.requires.parsed.0 in
    let e = c.in-Err-Diagnostic.ensures.fault c.in-Err-Diagnostic.code c.in-Err-Diagnostic.at (ap Err c.in-Err-Diagnostic.field-0-is) u c.requires.parsed.1 in
    let same = c.one_tree_of_text.ensures c.args.source.now u t c.requires.parsed.1.0 tree in
    some_fault (shape_faults (ast t)) f (subst (λ k. earliest (shape_faults (ast k)) ≡ Some f) same e) none
