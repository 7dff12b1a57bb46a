-- Bytes that are gathered before they are written, and the answers of a batch one behind the other.
use Rattle.std.proofs.Common.{◌≡◌, ℕ, ◌+◌, ◌<◌, List, [], ◌∷◌, ◌++◌, length, take, drop, get_or, Option, Result, Ok, Err, refl, sym, ap, ◌∙◌, subst, append_assoc}
use Rattle.std.proofs.lemmas.List.{append-nil, take_more, take-append-drop}
use Rattle.std.specs.Prelude.{OnErr}
use Rattle.std.specs.Io.KnownBytes.{Appends}
use Rattle.batch_records.specs.Answering.{Answered, all_bytes, answer_bytes}
use Rattle.pareas_core.specs.Reading.{WritesAllBut, WritesPrefix}
use Rattle.pareas_core.proofs.Appending.{appends_more}

module _ (old mid new : Option (List ℕ)) where
  -- what is written behind a whole list
  pub whole_then_prefix : (xs ys : List ℕ) → Appends old mid xs → WritesPrefix mid new ys → WritesPrefix old new (xs ++ ys)
  whole_then_prefix xs ys h p = record {
    front = xs ++ p.front;
    rest = p.rest;
    parts = ap (λ l. xs ++ l) p.parts ∙ sym (append_assoc xs p.front p.rest);
    written = appends_more old mid new xs p.front h p.written;
  }

  pub whole_then_whole : (xs ys pending : List ℕ) → pending ≡ [] → Appends old mid xs → Appends mid new ys → WritesAllBut pending old new (xs ++ ys)
  whole_then_whole xs ys pending none h k = record {
    front = xs ++ ys;
    parts = sym (append-nil (xs ++ ys)) ∙ ap (λ l. (xs ++ ys) ++ l) (sym none);
    written = appends_more old mid new xs ys h k;
  }

  module _ (xs pending : List ℕ) (p : WritesAllBut pending old mid xs) where
    parted : (more : List ℕ) → xs ++ more ≡ p.front ++ (pending ++ more)
    parted more = ap (λ l. l ++ more) p.parts ∙ append_assoc p.front pending more

    -- what is written behind the pending bytes
    pub pending_then_all_but : (more later : List ℕ) → WritesAllBut later mid new (pending ++ more) → WritesAllBut later old new (xs ++ more)
    pending_then_all_but more later q = record {
      front = p.front ++ q.front;
      parts = parted more ∙ ap (λ l. p.front ++ l) q.parts ∙ sym (append_assoc p.front q.front later);
      written = appends_more old mid new p.front q.front p.written q.written;
    }

    pub pending_then_prefix : (more : List ℕ) → WritesPrefix mid new (pending ++ more) → WritesPrefix old new (xs ++ more)
    pending_then_prefix more q = record {
      front = p.front ++ q.front;
      rest = q.rest;
      parts = parted more ∙ ap (λ l. p.front ++ l) q.parts ∙ sym (append_assoc p.front q.front q.rest);
      written = appends_more old mid new p.front q.front p.written q.written;
    }

    pub pending_then_end : WritesPrefix mid new pending → WritesPrefix old new xs
    pending_then_end q = record {
      front = p.front ++ q.front;
      rest = q.rest;
      parts = p.parts ∙ ap (λ l. p.front ++ l) q.parts ∙ sym (append_assoc p.front q.front q.rest);
      written = appends_more old mid new p.front q.front p.written q.written;
    }

    pub pending_then_whole : Appends mid new pending → Appends old new xs
    pending_then_whole h = subst (Appends old new) (sym p.parts) (appends_more old mid new p.front pending p.written h)

pub prefix_of_more : (old new : Option (List ℕ)) (xs ys all : List ℕ) → all ≡ xs ++ ys → WritesPrefix old new xs → WritesPrefix old new all
prefix_of_more old new xs ys all is p = record {
  front = p.front;
  rest = p.rest ++ ys;
  parts = is ∙ ap (λ l. l ++ ys) p.parts ∙ append_assoc p.front p.rest ys;
  written = p.written;
}

all_bytes_append : (xs ys : List Answered) → all_bytes (xs ++ ys) ≡ all_bytes xs ++ all_bytes ys
all_bytes_append [] ys = refl
all_bytes_append (x ∷ xs) ys = ap (λ l. answer_bytes x ++ l) (all_bytes_append xs ys) ∙ sym (append_assoc (answer_bytes x) (all_bytes xs) (all_bytes ys))

-- one answer more
pub all_bytes_more : (answers : List Answered) (i : ℕ) (a : Answered) (bytes : List ℕ) → i < length answers → a ≡ get_or answers i a → bytes ≡ answer_bytes a
    → all_bytes (take i answers) ++ bytes ≡ all_bytes (take (i + 1) answers)
all_bytes_more answers i a bytes within is are =
    ap (λ l. all_bytes (take i answers) ++ l) (are ∙ sym (append-nil (answer_bytes a)) ∙ ap (λ x. all_bytes (x ∷ [])) is)
    ∙ sym (all_bytes_append (take i answers) (get_or answers i a ∷ []))
    ∙ ap all_bytes (sym (take_more answers i a within))

-- the first answers, and those behind them
pub all_bytes_parts : (answers : List Answered) (n : ℕ) → all_bytes answers ≡ all_bytes (take n answers) ++ all_bytes (drop n answers)
all_bytes_parts answers n = ap all_bytes (sym (take-append-drop n answers)) ∙ all_bytes_append (take n answers) (drop n answers)

pub on_err : {T E P : Type 0} (r : Result T E) → P → OnErr r P
on_err (Ok x) p = tt
on_err (Err e) p = p
