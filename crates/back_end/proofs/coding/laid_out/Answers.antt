use Rattle.std.proofs.Common.{◌≡◌, ◌∙◌, ◌*◌, ◌≤◌, ◌<◌, ℕ, Err, false, length, sym, ap, subst, arith}
use Rattle.std.proofs.lemmas.List.{length-map}
use Rattle.limits.specs.Limits.{most_code}
use Rattle.source_meaning.specs.Grammar.{ast}
use Rattle.rv_isa.specs.Encoding.{word}
use Rattle.rv_code.specs.Code.{most_long, instructions, words}
use Rattle.verdict.specs.Verdict.{IsVerdict, Limited}
use Rattle.back_end.proofs.Large.{compilable}
use Rattle.back_end.proofs.coding.laid_out.Goals as goal

pub code_columns-requires-clause-program : goal.code_columns-requires-clause-program
code_columns-requires-clause-program g c κs within =
    let t = c.requires.framed.0 in
    let framed = c.requires.framed.1 in
    (ast t, compilable false c.args.source.now t c.args.framed.now c.deref.result.now c.deref.ensures.value framed (c.compiled_programs_are_clean.ensures false c.args.source.now t framed.checked))

pub sizes-requires-clause-program : goal.sizes-requires-clause-program
sizes-requires-clause-program g c κs within =
    let t = c.requires.framed.0 in
    let framed = c.requires.framed.1 in
    (ast t, c.in_ok-columns.ensures (ast t) (compilable false c.args.source.now t c.args.framed.now c.deref.result.now c.deref.ensures.value framed (c.compiled_programs_are_clean.ensures false c.args.source.now t framed.checked)))

pub places-requires-clause-program : goal.places-requires-clause-program
places-requires-clause-program g c κs within =
    let t = c.requires.framed.0 in
    let framed = c.requires.framed.1 in
    let columns = c.in_ok-columns.ensures (ast t) (compilable false c.args.source.now t c.args.framed.now c.deref.result.now c.deref.ensures.value framed (c.compiled_programs_are_clean.ensures false c.args.source.now t framed.checked)) in
    (ast t, columns, c.deref-2.ensures.value ∙ c.in_ok-sizes.ensures (ast t) columns)

pub emit-requires-clause-program : goal.emit-requires-clause-program
emit-requires-clause-program g c κs within =
    let t = c.requires.framed.0 in
    let framed = c.requires.framed.1 in
    let columns = c.in_ok-columns.ensures (ast t) (compilable false c.args.source.now t c.args.framed.now c.deref.result.now c.deref.ensures.value framed (c.compiled_programs_are_clean.ensures false c.args.source.now t framed.checked)) in
    (ast t, columns, c.deref-3.ensures.value ∙ c.in_ok-places.ensures (ast t) columns)

pub returns-in-Ok-clause-ok : goal.returns-in-Ok-clause-ok
returns-in-Ok-clause-ok g c = λ t framed.
    let text = c.args.source.now in
    let p = ast t in
    let columns = c.in_ok-columns.ensures p (compilable false text t c.args.framed.now c.deref.result.now c.deref.ensures.value framed (c.compiled_programs_are_clean.ensures false text t framed.checked)) in
    let is = c.in-Ok.ensures.ok p columns in
    let many : length (words p) ≡ length (instructions p) = length-map (instructions p) word in
    let few : 4 * length (instructions p) ≤ most_code = subst (λ (n : ℕ). 4 * n ≤ most_code) many is.0 in (
      c.limits_come_last.ensures.accepted false text t framed.checked framed.frames.none_large few,
      record { sizes_are = c.in_ok-sizes.ensures p columns; places_are = c.in_ok-places.ensures p columns; words_are = is.1 },
    )

pub returns-in-Ok-clause-few : goal.returns-in-Ok-clause-few
returns-in-Ok-clause-few g c =
    let text = c.args.source.now in
    let t = c.requires.framed.0 in
    let framed = c.requires.framed.1 in
    let p = ast t in
    let columns = c.in_ok-columns.ensures p (compilable false text t c.args.framed.now c.deref.result.now c.deref.ensures.value framed (c.compiled_programs_are_clean.ensures false text t framed.checked)) in
    let is = c.in-Ok.ensures.ok p columns in
    fewer (length c.in-Ok.words.items) (length (words p)) (ap length is.1) is.0
  where
    fewer : (m n : ℕ) → m ≡ n → 4 * n ≤ most_code → m ≤ most_long
    fewer m n e h = omega arith

pub returns-in-Err-Large-clause-refused : goal.returns-in-Err-Large-clause-refused
returns-in-Err-Large-clause-refused g c = λ t framed.
    let text = c.args.source.now in
    let p = ast t in
    let columns = c.in_ok-columns.ensures p (compilable false text t c.args.framed.now c.deref.result.now c.deref.ensures.value framed (c.compiled_programs_are_clean.ensures false text t framed.checked)) in
    let is = c.in-Err-Large.ensures.large c.in-Err-Large.bytes (ap Err c.in-Err-Large.field-0-is) p columns in
    let many : length (words p) ≡ length (instructions p) = length-map (instructions p) word in
    let bytes : c.in-Err-Large.bytes ≡ 4 * length (instructions p) = is.1 ∙ ap (λ (n : ℕ). 4 * n) many in
    let large : most_code < 4 * length (instructions p) = subst (λ (n : ℕ). most_code < n) bytes is.0 in
    subst (λ (n : ℕ). IsVerdict false text (Limited 603 (length text) n)) (sym bytes) (c.limits_come_last.ensures.code false text t framed.checked framed.frames.none_large large)
