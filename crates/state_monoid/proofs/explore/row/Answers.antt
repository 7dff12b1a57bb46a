use Rattle.std.proofs.Common.{◌≡◌, ◌∙◌, ◌++◌, ◌+◌, ◌<◌, List, ℕ, [], ◌∷◌, length, Err, ap, sym, subst, arith}
use Rattle.std.specs.Prelude.{slice_index_or}
use Rattle.state_monoid.specs.Image.{IsReached}
use Rattle.state_monoid.specs.declared.explore.Origin.{Origin}
use Rattle.state_monoid.specs.declared.fault.BuildFault.TheVariants.{TooMany}
use Rattle.std.proofs.lemmas.Result.{err_from_is_err_and}
use Rattle.state_monoid.specs.Explored.{IsRow, IsNumbered}
use Rattle.word_monoid.specs.Laws.Folds.{get_below}
use Rattle.state_monoid.specs.Places.{item_at, value_get}
use Rattle.state_monoid.proofs.Searching.{reads, same_fault, more_than, numbered_stays, row_more, explored_more}
use Rattle.state_monoid.proofs.explore.row.Goals as goal

pub then-next-requires : goal.then-next-requires
then-next-requires c =
    let cur : List (List ℕ) = c.loop-letter.functions.keys in
    let old : List (List ℕ) = c.args.functions.now.keys in
    let letters : List (List ℕ) = c.args.letters.now.functions.keys in
    let so = c.loop-letter.invariant in
    let inside : c.args.before < length cur = get_below cur c.args.before _ (so.stays c.args.before _ (value_get old c.args.before [] c.requires.before)) in
    let at = item_at cur c.as_slice.result.now c.args.before c.index-as_slice-before.result c.index-as_slice-before.is c.as_slice.ensures.keys inside in
    let lat = item_at letters c.as_slice-function-items.result.now c.loop-letter.letter c.function-item.result c.function-item.is c.as_slice-function-items.ensures.keys
    (let len = ap (λ (l : List (List ℕ)). length l) c.as_slice-function-items.ensures.keys in omega arith) in
    (reads c.args.letters.now.dfa letters old cur c.loop-letter.origins.items c.args.before c.loop-letter.letter c.index-as_slice-before.result c.function-item.result
    c.requires.letters.valid c.requires.letters.some_byte so.explored so.stays c.requires.before at lat).same_length

pub returns-in_err-number-clause-too_many : goal.returns-in_err-number-clause-too_many
returns-in_err-number-clause-too_many c reached is =
    let cur : List (List ℕ) = c.loop-letter.functions.keys in
    let old : List (List ℕ) = c.args.functions.now.keys in
    let letters : List (List ℕ) = c.args.letters.now.functions.keys in
    let so = c.loop-letter.invariant in
    let inside : c.args.before < length cur = get_below cur c.args.before _ (so.stays c.args.before _ (value_get old c.args.before [] c.requires.before)) in
    let at = item_at cur c.as_slice.result.now c.args.before c.index-as_slice-before.result c.index-as_slice-before.is c.as_slice.ensures.keys inside in
    let letter_in : c.loop-letter.letter < length letters = (let len = ap (λ (l : List (List ℕ)). length l) c.as_slice-function-items.ensures.keys in omega arith) in
    let lat = item_at letters c.as_slice-function-items.result.now c.loop-letter.letter c.function-item.result c.function-item.is c.as_slice-function-items.ensures.keys letter_in in
    let read = reads c.args.letters.now.dfa letters old cur c.loop-letter.origins.items c.args.before c.loop-letter.letter c.index-as_slice-before.result c.function-item.result
    c.requires.letters.valid c.requires.letters.some_byte so.explored so.stays c.requires.before at lat in
    let p = err_from_is_err_and c.from_residual-in_err-number.result c.from_residual-in_err-number.ensures.1 in
    let fault = same_fault c.from_residual-in_err-number.result p.0 c.in_err-number.field-0.0 (TooMany reached) p.1 p.2 is in
    let from = c.in_err-number.ensures in
    let reached_next = subst (IsReached c.args.letters.now.dfa) (sym c.then-next.ensures) read.reached in (
      more_than c.args.letters.now.dfa cur c.then-next.result c.number.new.functions.keys so.explored.reached reached_next (from.all reached (ap Err fault)) (from.count reached (ap Err fault)).1 (from.distinct reached (ap Err fault)),
      (from.count reached (ap Err fault)).0,
    )

pub loop-letter-preserved : goal.loop-letter-preserved
loop-letter-preserved c =
    let d = c.args.letters.now.dfa in
    let cur : List (List ℕ) = c.loop-letter.functions.keys in
    let old : List (List ℕ) = c.args.functions.now.keys in
    let letters : List (List ℕ) = c.args.letters.now.functions.keys in
    let so = c.loop-letter.invariant in
    let inside : c.args.before < length cur = get_below cur c.args.before _ (so.stays c.args.before _ (value_get old c.args.before [] c.requires.before)) in
    let at = item_at cur c.as_slice.result.now c.args.before c.index-as_slice-before.result c.index-as_slice-before.is c.as_slice.ensures.keys inside in
    let letter_in : c.loop-letter.letter < length letters = (let len = ap (λ (l : List (List ℕ)). length l) c.as_slice-function-items.ensures.keys in omega arith) in
    let lat = item_at letters c.as_slice-function-items.result.now c.loop-letter.letter c.function-item.result c.function-item.is c.as_slice-function-items.ensures.keys letter_in in
    let read = reads d letters old cur c.loop-letter.origins.items c.args.before c.loop-letter.letter c.index-as_slice-before.result c.function-item.result
    c.requires.letters.valid c.requires.letters.some_byte so.explored so.stays c.requires.before at lat in
    let origin : Origin = record { before = c.args.before; letter = c.loop-letter.letter } in
    let step : IsNumbered cur c.loop-letter.origins.items c.then-next.result origin c.number.new.functions.keys c.number.new.origins.items c.in_ok-number.field-0 = c.in_ok-number.ensures.ok in
    let grown = numbered_stays cur c.loop-letter.origins.items c.then-next.result origin c.number.new.functions.keys c.number.new.origins.items c.in_ok-number.field-0 step in
    let pushed : c.push.new.self.items ≡ c.loop-letter.row.items ++ c.in_ok-number.field-0 ∷ [] = c.in_ok-push.ensures.items in
    record {
      explored = explored_more cur c.loop-letter.origins.items c.then-next.result origin c.number.new.functions.keys c.number.new.origins.items c.in_ok-number.field-0 step d letters
          so.explored (subst (IsReached d) (sym c.then-next.ensures) read.reached) inside letter_in (c.then-next.ensures ∙ read.made);
      stays = λ i f h. grown i f (so.stays i f h);
      row = subst (λ (l : List ℕ). IsRow letters c.number.new.functions.keys (slice_index_or old c.args.before []) l (c.loop-letter.letter + 1)) (sym pushed)
          (row_more cur c.loop-letter.origins.items c.then-next.result origin c.number.new.functions.keys c.number.new.origins.items c.in_ok-number.field-0 step letters
          (slice_index_or old c.args.before []) c.loop-letter.row.items c.loop-letter.letter (c.then-next.ensures ∙ read.from_old) so.row);
    }
