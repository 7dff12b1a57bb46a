-- What stretches have, one behind the other.
use Rattle.std.proofs.Common.{◌≡◌, ℕ, suc, ◌+◌, ◌<◌, List, [], ◌++◌, length, min, refl, sym, ap, ◌∙◌, subst, arith}
use Rattle.source_meaning.specs.declared.kinds.Kind.{Kind}
use Rattle.source_meaning.specs.Grammar.{Prog, Tree, leaves, left_parse}
use Rattle.list_cuts.specs.Cuts.{number_at, AreCuts, start_of}
use Rattle.row_walk.specs.Walk.{made_by}
use Rattle.row_pieces.specs.Pieces.{last_behind, no_row}
use Rattle.row_columns.specs.Numbers.{IsParseOf}
use Rattle.row_columns.specs.RowFaults.{least_in}
use Rattle.row_columns.specs.Stretches.{AreStretch}
use Rattle.row_columns.specs.Laws.Joined.{stretches_join}
use Rattle.row_columns.specs.Laws.RowFaults.{least_joined}
use Rattle.tree_passes.specs.Stretches.{AreColumnsOf, IsCut, rows_of_stretch, standing_before}
use Rattle.tree_passes.proofs.Stretched.{count_before, last_before, rows_before, rows_next, rows_whole}

-- ---- the columns of rows
abbrev pub AreColumnsBefore : (text numbers ends : List ℕ) → ℕ → List Kind → (lows tokens : List ℕ) → Type 0
AreColumnsBefore text numbers ends c kinds lows tokens = (r : Tree Prog) → IsParseOf text numbers r → AreStretch (left_parse r) (leaves r) 0 no_row (rows_before numbers ends c) kinds lows tokens

pub columns_next : (text numbers ends : List ℕ) (cut : IsCut numbers ends) (c : ℕ) → c < length ends → (kinds more_kinds all_kinds : List Kind) (lows more_lows all_lows tokens more_tokens all_tokens : List ℕ) →
    AreColumnsBefore text numbers ends c kinds lows tokens → AreColumnsOf text numbers ends c more_kinds more_lows more_tokens →
    all_kinds ≡ kinds ++ more_kinds → all_lows ≡ lows ++ more_lows → all_tokens ≡ tokens ++ more_tokens → AreColumnsBefore text numbers ends (suc c) all_kinds all_lows all_tokens
columns_next text numbers ends cut c h kinds more_kinds all_kinds lows more_lows all_lows tokens more_tokens all_tokens before these k l t r is =
    let ps = left_parse r in
    let ts = leaves r in
    let done = rows_before numbers ends c in
    let rows = rows_of_stretch numbers ends c in
    let here : AreStretch ps ts (0 + length done) (last_behind no_row done) rows more_kinds more_lows more_tokens = subst (λ (n : ℕ). AreStretch ps ts n (last_behind no_row done) rows more_kinds more_lows more_tokens) (count_before numbers ends cut c h) (subst (λ m. AreStretch ps ts (standing_before numbers ends c).count m rows more_kinds more_lows more_tokens) (last_before numbers ends cut c h) (these r is)) in
    let joined = stretches_join ps ts 0 no_row done rows kinds more_kinds lows more_lows tokens more_tokens (before r is) here in
    let all : AreStretch ps ts 0 no_row (rows_before numbers ends (suc c)) (kinds ++ more_kinds) (lows ++ more_lows) (tokens ++ more_tokens) = subst (λ ms. AreStretch ps ts 0 no_row ms (kinds ++ more_kinds) (lows ++ more_lows) (tokens ++ more_tokens)) (sym (rows_next numbers ends c)) joined in
    record { kinds_are = k ∙ all.kinds_are; lows_are = l ∙ all.lows_are; tokens_are = t ∙ all.tokens_are }

-- where there is one stretch, its columns are those of all rows
pub columns_alone : (text numbers ends : List ℕ) (cut : IsCut numbers ends) → length ends ≡ 1 → (kinds : List Kind) (lows tokens : List ℕ) → AreColumnsOf text numbers ends 0 kinds lows tokens →
    (r : Tree Prog) → IsParseOf text numbers r → AreStretch (left_parse r) (leaves r) 0 no_row (made_by (left_parse r)) kinds lows tokens
columns_alone text numbers ends cut one kinds lows tokens these r is =
    let begun : AreColumnsBefore text numbers ends 0 [] [] [] = λ s at. record { kinds_are = refl; lows_are = refl; tokens_are = refl } in
    let next = columns_next text numbers ends cut 0 (omega arith) [] kinds kinds [] lows lows [] tokens tokens begun these refl refl refl in
    subst (λ ms. AreStretch (left_parse r) (leaves r) 0 no_row ms kinds lows tokens) (ap (rows_before numbers ends) (sym one) ∙ rows_whole numbers ends cut r is.1) (next r is)

-- ---- the least keys of faults
pub least_next : (kinds : List Kind) (lows words ends : List ℕ) (n c : ℕ) → AreCuts ends n → c < length ends → (old more new : ℕ) → old ≡ least_in kinds lows words 0 (start_of ends c) → more ≡ least_in kinds lows words (start_of ends c) (number_at ends c) → new ≡ min old more → new ≡ least_in kinds lows words 0 (number_at ends c)
least_next kinds lows words ends n c cuts h old more new a b e =
    e ∙ (λ i. min (a i) (b i)) ∙ least_joined kinds lows words 0 (start_of ends c) (number_at ends c) (omega arith) (cuts.order c h)
