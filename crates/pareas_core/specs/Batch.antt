-- What workers find of the sources of a batch.
use Rattle.std.specs.Prelude.{◌≡◌, ℕ, List, Some, slice_get, false}
use Rattle.batch_records.specs.Answering.{Answered}
use Rattle.verdict.specs.Verdict.{Verdict, IsVerdict}
use Rattle.pareas_core.specs.Output.{answer_of}

-- the answer is what is due for a source alone
pub record IsAnswerTo (text : List ℕ) (answer : Answered) : Type 0 where
  pub verdict : Verdict
  pub said : IsVerdict false text verdict
  pub is_answer : answer ≡ answer_of text verdict

-- what stands beside the number of a record is the answer to that record's source
pub record IsFound (sources : List (List ℕ)) (found : ℕ × Answered) : Type 0 where
  pub text : List ℕ
  pub is_source : slice_get sources found.0 ≡ Some text
  pub answers : IsAnswerTo text found.1
