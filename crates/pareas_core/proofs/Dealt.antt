-- What was found of the records of a batch, and the answers in order.
use Rattle.std.proofs.Common.{◌≡◌, ℕ, ◌<◌, All, List, length, map, Some, Result, Ok, Err, false, slice_get, sym, ap, ◌∙◌, subst}
use Rattle.std.specs.Prelude.{IfOk, option_map}
use Rattle.std.proofs.lemmas.List.Elements.{All-weaker}
use Rattle.std.proofs.lemmas.Option.{slice_get-map, slice_get_within, get_or_from_slice_get}
use Rattle.batch_records.specs.Answering.{Answered, source_at}
use Rattle.batch_records.specs.declared.reading.Record.{Record}
use Rattle.par_passes.specs.Crews.{Gave}
use Rattle.pareas_core.specs.Batch.{IsAnswerTo, IsFound}
use Rattle.pareas_core.specs.Output.{AreAnswers}
use Rattle.pareas_core.proofs.Batched.{answers_are}

-- the answer to the source of one record
pub found_at : (input : List ℕ) (records : List Record) (number : ℕ) (r : Record) (a : Answered) → slice_get records number ≡ Some r → IsAnswerTo (source_at input r) a → IsFound (map (source_at input) records) (number, a)
found_at input records number r a there is = record {
  text = source_at input r;
  is_source = slice_get-map (source_at input) records number ∙ ap (option_map (source_at input)) there;
  answers = is;
}

-- all that was found, by what each call gave
pub found_all : {E : Type 0} (chunks : ℕ) (post : ℕ → Result Answered E → Type 0) (sources : List (List ℕ)) → ((n : ℕ) (a : Answered) → n < chunks → post n (Ok a) → IsFound sources (n, a))
    → (pairs : List (ℕ × Answered)) → All (Gave chunks post) pairs → All (IsFound sources) pairs
found_all chunks post sources f pairs h = All-weaker (Gave chunks post) (IsFound sources) (λ p g. f p.0 p.1 g.0 g.1) pairs h

at_place : {X : Type 0} (P : X → Type 0) (xs : List X) → All P xs → (i : ℕ) (x : X) → slice_get xs i ≡ Some x → P x
at_place P xs h i x e = subst P (get_or_from_slice_get xs i x x e) (h i x (slice_get_within xs i x e))

-- what was found, in the order of the records
pub in_order_are : (sources : List (List ℕ)) (found : List (ℕ × Answered)) (answers : List Answered) → All (IsFound sources) found → length answers ≡ length sources
    → ((c : ℕ) (x : Answered) → slice_get answers c ≡ Some x → (i : ℕ) × (slice_get found i ≡ Some (c, x))) → AreAnswers sources answers
in_order_are sources found answers all long at =
    answers_are sources answers long (λ c x e. let w = at c x e in at_place (IsFound sources) found all w.0 (c, x) w.1)

pub both_ok : {X E : Type 0} (r : Result X E) (P Q R : X → Type 0) → ((x : X) → P x → Q x → R x) → IfOk r P → IfOk r Q → IfOk r R
both_ok (Ok x) P Q R f p q = f x p q
both_ok (Err e) P Q R f p q = tt
