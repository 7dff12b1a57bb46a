use Rattle.std.proofs.Common.{◌≡◌, ◌+◌, ◌≤◌, ℕ, List, length, map, get_or, sym, ap, subst, ◌∙◌, arith}
use Rattle.std.specs.Prelude.{if◌then◌else◌}
use Rattle.std.proofs.lemmas.Bool.{lt-ltb, le-ltb}
use Rattle.std.proofs.lemmas.List.FromFn.{length-map-range_with_len}
use Rattle.limits.specs.Limits.{most_rows}
use Rattle.word_monoid.specs.Folds.{prefixes}
use Rattle.word_monoid.specs.Instances.{count}
use Rattle.rv_code.specs.Code.{Short, Long, most_short}
use Rattle.rv_select.specs.Columns.{ProgramColumns, size_in}
use Rattle.rv_select.specs.Layout.{rows, sums, head_size, words_many}
use Rattle.rv_emit.proofs.used.used_sizes.Goals as goal

-- the words of the head and of all rows
counted : (c : ProgramColumns) (sizes : List ℕ) (head all : ℕ) → sizes ≡ map (size_in c Short) (rows c) → head ≡ head_size Short c → all ≡ get_or (prefixes count sizes) (length sizes) 0 → head + all ≡ words_many Short c
counted c sizes head all is head_is all_is =
    let many : length (map (size_in c Short) (rows c)) ≡ length c.kinds = length-map-range_with_len (size_in c Short) 0 (length c.kinds) in
    let sum : all ≡ get_or (sums Short c) (length c.kinds) 0 = all_is ∙ ap (λ (xs : List ℕ). get_or (prefixes count xs) (length xs) 0) is ∙ ap (λ (n : ℕ). get_or (sums Short c) n 0) many in
    λ i. head_is i + sum i

pub total-requires : goal.total-requires
total-requires g c =
    let columns = c.args.columns.now in
    let many = length-map-range_with_len (size_in columns Short) 0 (length columns.kinds) in
    let few = c.requires.rows in
    record { len = subst (λ (xs : List ℕ). length xs ≤ most_rows) (sym (c.deref.ensures.value ∙ c.in_ok-sizes.ensures)) (omega arith) }

pub returns-in_ok-row_sizes-clause-layout : goal.returns-in_ok-row_sizes-clause-layout
returns-in_ok-row_sizes-clause-layout g c =
    let columns = c.args.columns.now in
    let words = counted columns c.deref.result.now c.head_size.result c.total.result (c.deref.ensures.value ∙ c.in_ok-sizes.ensures) c.head_size.ensures.value c.total.ensures.value in
    let long = c.if-words-gt-MOST_SHORT.true in
    ap (λ b. if b then Long else Short) (sym (lt-ltb most_short (words_many Short columns) (omega (arith, words, long))))

pub returns-else-words-gt-MOST_SHORT-clause-layout : goal.returns-else-words-gt-MOST_SHORT-clause-layout
returns-else-words-gt-MOST_SHORT-clause-layout g c =
    let columns = c.args.columns.now in
    let words = counted columns c.deref.result.now c.head_size.result c.total.result (c.deref.ensures.value ∙ c.in_ok-sizes.ensures) c.head_size.ensures.value c.total.ensures.value in
    let short = c.if-words-gt-MOST_SHORT.false in
    ap (λ b. if b then Long else Short) (sym (le-ltb most_short (words_many Short columns) (omega (arith, words, short))))
