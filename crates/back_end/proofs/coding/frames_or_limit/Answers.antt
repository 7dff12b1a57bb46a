use Rattle.std.proofs.Common.{◌≡◌, ◌∙◌, Err, sym, ap, subst, arith}
use Rattle.std.specs.List.{find}
use Rattle.std.specs.Prelude.{nat_lt}
use Rattle.limits.specs.Limits.{most_frame}
use Rattle.source_meaning.specs.Lexemes.{tokens, place_of}
use Rattle.source_meaning.specs.Grammar.{ast}
use Rattle.source_meaning.specs.Frames.{frame}
use Rattle.verdict.specs.Verdict.{Verdict, IsVerdict, Limited, folded_if}
use Rattle.back_end.proofs.Large.{found_none, none_found, one_found}
use Rattle.back_end.proofs.coding.frames_or_limit.Goals as goal

pub place-requires : goal.place-requires
place-requires g c = let h = c.requires.lexed.fits in omega arith

pub returns-in-Ok-clause-ok : goal.returns-in-Ok-clause-ok
returns-in-Ok-clause-ok g c = λ fold t k rows deep.
    let p = folded_if fold (ast t) in
    let is = c.in-Ok.ensures.ok p (c.compiled_programs_are_clean.ensures fold c.args.source.now t k).shaped rows deep in
    record { frames_are = is.1; none_large = none_found (find (λ f. nat_lt most_frame (frame f).bytes) p) is.0 }

pub returns-in-Err-Large-clause-refused : goal.returns-in-Err-Large-clause-refused
returns-in-Err-Large-clause-refused g c = λ fold t k rows deep.
    let text = c.args.source.now in
    let p = folded_if fold (ast t) in
    let e = c.in-Err-Large.ensures.large c.in-Err-Large.at c.in-Err-Large.bytes (ap Err c.in-Err-Large.field-0-is) p (c.compiled_programs_are_clean.ensures fold text t k).shaped rows deep in
    let f = one_found (find (λ h. nat_lt most_frame (frame h).bytes) p) c.in-Err-Large.at c.in-Err-Large.bytes e in
    let at : place_of text (tokens text) f.0.at ≡ c.place.result = ap (place_of text (tokens text)) (f.2 ∙ sym c.from.ensures) ∙ sym (c.place.ensures c.requires.lexed) in
    subst (λ (v : Verdict). IsVerdict fold text v) (λ i. Limited 602 (at i) (f.3 i)) (c.limits_come_last.ensures.frame fold text t f.0 k f.1)

pub returns-in-Err-Large-clause-large : goal.returns-in-Err-Large-clause-large
returns-in-Err-Large-clause-large g c = λ fold t k rows deep none.
    let p = folded_if fold (ast t) in
    let shaped = (c.compiled_programs_are_clean.ensures fold c.args.source.now t k).shaped in
    let e = c.in-Err-Large.ensures.large c.in-Err-Large.at c.in-Err-Large.bytes (ap Err c.in-Err-Large.field-0-is) p shaped rows deep in
    let f = one_found (find (λ h. nat_lt most_frame (frame h).bytes) p) c.in-Err-Large.at c.in-Err-Large.bytes e in
    found_none (find (λ h. nat_lt most_frame (frame h).bytes) p) f.0 f.1 none
