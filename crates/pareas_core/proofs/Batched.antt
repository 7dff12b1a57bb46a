-- The answers to the sources of a batch.
use Rattle.std.proofs.Common.{◌≡◌, ◌⊎◌, ℕ, zero, suc, Bool, false, List, [], ◌∷◌, length, Some, unwrap_or, inl, inr, refl, sym, ap, ◌∙◌, subst, arith}
use Rattle.std.specs.Prelude.{slice_get}
use Rattle.batch_records.specs.Batch.{IsBatch, IsBatchFault, Records, fault_text}
use Rattle.batch_records.specs.Answering.{Answered, all_bytes}
use Rattle.batch_records.specs.declared.answer.AnswerKind.TheVariants as kinds
use Rattle.batch_records.specs.declared.fault.BatchFault.{BatchFault}
use Rattle.command_line.specs.declared.command.Command.TheVariants.{Build, Batch}
use Rattle.rv_code.specs.Code.{layout_of}
use Rattle.simulation.specs.Behaves.{Behaves}
use Rattle.source_meaning.specs.Ast.{Program}
use Rattle.verdict.specs.Verdict.{Verdict, Diagnosed, Limited, Accepted, IsVerdict, image}
use Rattle.pareas_core.specs.declared.status.Status.TheVariants.{BadBatch}
use Rattle.pareas_core.specs.Output.{Due, done, noted, answer_of, AreAnswers, no_more, next, IsDue, batched, bad_batch}
use Rattle.pareas_core.specs.Batch.{IsAnswerTo, IsFound}
use Rattle.pareas_core.specs.Headline.{CompilesTo, Runs}
use Rattle.pareas_core.specs.Responses.{IsResponse}

same_some : {A : Type 0} (x y : A) → Some x ≡ Some y → x ≡ y
same_some x y e = ap (λ o. unwrap_or o x) e

-- an answer to a source of a batch is due for it alone
answer_is : (sources : List (List ℕ)) (answers : List Answered) → AreAnswers sources answers → (k : ℕ) (text : List ℕ) (a : Answered) → slice_get sources k ≡ Some text → slice_get answers k ≡ Some a → IsAnswerTo text a
answer_is _ _ no_more k text a there is = cc
answer_is _ _ (next {text = other} {v = v} {sources = sources} {answers = answers} said rest) zero text a there is =
    let same : other ≡ text = same_some other text there in
    record {
      verdict = v;
      said = subst (λ t. IsVerdict false t v) same said;
      is_answer = sym (same_some (answer_of other v) a is) ∙ ap (λ t. answer_of t v) same;
    }
answer_is _ _ (next {sources = sources} {answers = answers} said rest) (suc k) text a there is = answer_is sources answers rest k text a there is

-- the verdict on a source whose answer is an image
image_accepted : (text : List ℕ) (v : Verdict) → (answer_of text v).kind ≡ kinds.Image → (p : Program) × (v ≡ Accepted p)
image_accepted text (Accepted p) kind = (p, refl)
image_accepted text (Diagnosed code place) kind = cc
image_accepted text (Limited code place size) kind = cc

image_bytes : (text : List ℕ) (v : Verdict) (p : Program) → v ≡ Accepted p → (answer_of text v).bytes ≡ image p
image_bytes text v p is = ap (λ w. (answer_of text w).bytes) is

compiled_by : (behave : (text : List ℕ) (p : Program) → IsVerdict false text (Accepted p) → Behaves (layout_of p) p (image p)) (text : List ℕ) (a : Answered) (v : Verdict)
    → IsVerdict false text v → a ≡ answer_of text v → a.kind ≡ kinds.Image → CompilesTo false text a.bytes
compiled_by behave text a v said is kind =
    let w = image_accepted text v (sym (ap (λ (x : Answered). x.kind) is) ∙ kind) in
    let accepted : IsVerdict false text (Accepted w.0) = subst (IsVerdict false text) w.1 said in
    let file : a.bytes ≡ image w.0 = ap (λ (x : Answered). x.bytes) is ∙ image_bytes text v w.0 w.1 in
    record { program = w.0; accepted = accepted; is_image = file; behaves = subst (Behaves (layout_of w.0) w.0) (sym file) (behave text w.0 accepted) }

-- an image among the answers
pub image_compiled : ((text : List ℕ) (p : Program) → IsVerdict false text (Accepted p) → Behaves (layout_of p) p (image p)) → (sources : List (List ℕ)) (answers : List Answered)
    → AreAnswers sources answers → (k : ℕ) (text : List ℕ) (a : Answered) → slice_get sources k ≡ Some text → slice_get answers k ≡ Some a → a.kind ≡ kinds.Image → CompilesTo false text a.bytes
image_compiled behave sources answers are k text a there is kind =
    let it = answer_is sources answers are k text a there is in compiled_by behave text a it.verdict it.said it.is_answer kind

-- the answers that were found, by their numbers
pub answers_are : (sources : List (List ℕ)) (answers : List Answered) → length answers ≡ length sources → ((c : ℕ) (x : Answered) → slice_get answers c ≡ Some x → IsFound sources (c, x)) → AreAnswers sources answers
answers_are [] [] long found = no_more
answers_are [] (a ∷ more) long found = absurd (omega arith)
answers_are (text ∷ sources) [] long found = absurd (omega arith)
answers_are (text ∷ sources) (a ∷ more) long found =
    let f = found 0 a refl in
    let same : text ≡ f.text = same_some text f.text f.is_source in
    let said : IsVerdict false text f.answers.verdict = subst (λ t. IsVerdict false t f.answers.verdict) (sym same) f.answers.said in
    let is : answer_of text f.answers.verdict ≡ a = ap (λ t. answer_of t f.answers.verdict) same ∙ sym f.answers.is_answer in
    subst (λ x. AreAnswers (text ∷ sources) (x ∷ more)) is
    (next said (answers_are sources more (omega arith) (λ c x at. let g = found (suc c) x at in record { text = g.text; is_source = g.is_source; answers = g.answers })))

abbrev OneVerdict : Type 0
OneVerdict = (fold : Bool) (text : List ℕ) (v w : Verdict) → IsVerdict fold text v → IsVerdict fold text w → v ≡ w

answers_are_one : OneVerdict → (sources : List (List ℕ)) (a b : List Answered) → AreAnswers sources a → AreAnswers sources b → a ≡ b
answers_are_one one _ _ _ no_more no_more = refl
answers_are_one one _ _ _ (next {text = text} {v = v} {sources = sources} {answers = some} p ps) (next {v = w} {answers = others} q qs) =
    let e = one false text v w p q in
    let r = answers_are_one one sources some others ps qs in
    λ i. answer_of text (e i) ∷ r i

batch_due : (bytes : List ℕ) (e : Due) → IsDue Batch bytes e
    → ((sources : List (List ℕ)) × (answers : List Answered) × IsBatch bytes sources × AreAnswers sources answers × (e ≡ done (all_bytes answers)))
    ⊎ ((fault : BatchFault) × IsBatchFault bytes fault × (e ≡ noted BadBatch (fault_text fault)))
batch_due bytes _ (batched {sources = sources} {answers = answers} is are) = inl (sources, answers, is, are, refl)
batch_due bytes _ (bad_batch {fault = fault} is) = inr (fault, is, refl)

no_batch_run : (wanted : Bool) (bytes source : List ℕ) (steps : ℕ) → Runs Batch bytes wanted source steps → ⊥
no_batch_run wanted bytes source steps r = elim r [ ]

no_batch_build : (wanted : Bool) → Batch ≡ Build wanted → ⊥
no_batch_build wanted is = cc

-- what is due for a batch, and nothing else is
module _ (bytes : List ℕ) (d : Due) (one : OneVerdict) (one_list : (s t : List (List ℕ)) → Records bytes s → Records bytes t → s ≡ t)
    (one_fault : (f g : BatchFault) → IsBatchFault bytes f → IsBatchFault bytes g → f ≡ g) (apart : (f : BatchFault) (s : List (List ℕ)) → IsBatchFault bytes f → IsBatch bytes s → ⊥) where
  pub answered_whole : (sources : List (List ℕ)) (answers : List Answered) → IsBatch bytes sources → AreAnswers sources answers → d ≡ done (all_bytes answers) → IsResponse Batch bytes d
  answered_whole sources answers is are same = record {
    due = subst (IsDue Batch bytes) (sym same) (batched is are);
    only = λ e h. elim (batch_due bytes e h) [
      | inl (others, found, also, those, e_is) ↦
          e_is
          ∙ ap (λ l. done (all_bytes l)) (answers_are_one one sources found answers (subst (λ s. AreAnswers s found) (one_list others sources also.records is.records) those) are)
          ∙ sym same
      | inr (fault, bad, e_is) ↦ absurd (apart fault sources bad is)
    ];
    built = λ wanted build is_done. absurd (no_batch_build wanted build);
    ran = λ wanted source n runs h. absurd (no_batch_run wanted bytes source n runs);
  }

  pub refused_batch : (fault : BatchFault) → IsBatchFault bytes fault → d ≡ noted BadBatch (fault_text fault) → IsResponse Batch bytes d
  refused_batch fault bad same = record {
    due = subst (IsDue Batch bytes) (sym same) (bad_batch bad);
    only = λ e h. elim (batch_due bytes e h) [
      | inl (others, found, also, those, e_is) ↦ absurd (apart fault others bad also)
      | inr (other, also, e_is) ↦ e_is ∙ ap (λ f. noted BadBatch (fault_text f)) (one_fault other fault also bad) ∙ sym same
    ];
    built = λ wanted build is_done. absurd (no_batch_build wanted build);
    ran = λ wanted source n runs h. absurd (no_batch_run wanted bytes source n runs);
  }
