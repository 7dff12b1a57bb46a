use Rattle.std.proofs.Common.{◌≡◌, ◌∙◌, ◌*◌, ◌≤◌, ◌<◌, ℕ, Err, length, sym, ap, subst, arith}
use Rattle.std.proofs.lemmas.List.{length-map}
use Rattle.limits.specs.Limits.{most_code}
use Rattle.source_meaning.specs.Grammar.{ast}
use Rattle.rv_isa.specs.Encoding.{word}
use Rattle.rv_code.specs.Code.{most_long, instructions, words}
use Rattle.verdict.specs.Verdict.{IsVerdict, Limited, folded_if}
use Rattle.back_end.proofs.Large.{compilable}
use Rattle.back_end.proofs.coding.emitted.Goals as goal

pub code-requires-clause-program : goal.code-requires-clause-program
code-requires-clause-program g c κs within =
    let fold = c.requires.framed.0 in
    let t = c.requires.framed.1 in
    let framed = c.requires.framed.2 in
    (folded_if fold (ast t), compilable fold c.args.source.now t c.args.framed.now c.deref.result.now c.deref.ensures.value framed (c.compiled_programs_are_clean.ensures fold c.args.source.now t framed.checked))

pub returns-in-Ok-clause-ok : goal.returns-in-Ok-clause-ok
returns-in-Ok-clause-ok g c = λ fold t framed.
    let text = c.args.source.now in
    let p = folded_if fold (ast t) in
    let is = c.in-Ok.ensures.ok p (compilable fold text t c.args.framed.now c.deref.result.now c.deref.ensures.value framed (c.compiled_programs_are_clean.ensures fold text t framed.checked)) in
    let many : length (words p) ≡ length (instructions p) = length-map (instructions p) word in
    let few : 4 * length (instructions p) ≤ most_code = subst (λ (n : ℕ). 4 * n ≤ most_code) many is.0 in
    (c.limits_come_last.ensures.accepted fold text t framed.checked framed.frames.none_large few, is.1)

pub returns-in-Ok-clause-few : goal.returns-in-Ok-clause-few
returns-in-Ok-clause-few g c =
    let text = c.args.source.now in
    let fold = c.requires.framed.0 in
    let t = c.requires.framed.1 in
    let framed = c.requires.framed.2 in
    let p = folded_if fold (ast t) in
    let is = c.in-Ok.ensures.ok p (compilable fold text t c.args.framed.now c.deref.result.now c.deref.ensures.value framed (c.compiled_programs_are_clean.ensures fold text t framed.checked)) in
    fewer (length c.in-Ok.words.items) (length (words p)) (ap length is.1) is.0
  where
    fewer : (m n : ℕ) → m ≡ n → 4 * n ≤ most_code → m ≤ most_long
    fewer m n e h = omega arith

pub returns-in-Err-Large-clause-refused : goal.returns-in-Err-Large-clause-refused
returns-in-Err-Large-clause-refused g c = λ fold t framed.
    let text = c.args.source.now in
    let p = folded_if fold (ast t) in
    let is = c.in-Err-Large.ensures.large c.in-Err-Large.bytes (ap Err c.in-Err-Large.field-0-is) p (compilable fold text t c.args.framed.now c.deref.result.now c.deref.ensures.value framed (c.compiled_programs_are_clean.ensures fold text t framed.checked)) in
    let many : length (words p) ≡ length (instructions p) = length-map (instructions p) word in
    let bytes : c.in-Err-Large.bytes ≡ 4 * length (instructions p) = is.1 ∙ ap (λ (n : ℕ). 4 * n) many in
    let large : most_code < 4 * length (instructions p) = subst (λ (n : ℕ). most_code < n) bytes is.0 in
    subst (λ (n : ℕ). IsVerdict fold text (Limited 603 (length text) n)) (sym bytes) (c.limits_come_last.ensures.code fold text t framed.checked framed.frames.none_large large)
