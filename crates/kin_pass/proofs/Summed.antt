-- Functions, counted row by row in numbers of 32 bits.
use Rattle.std.proofs.Common.{◌≡◌, ℕ, zero, suc, ◌+◌, ◌≤◌, Bool, true, false, List, length, map, get_or, min, refl, ap, ◌∙◌, arith}
use Rattle.std.specs.Prelude.{nat_le, if◌then◌else◌}
use Rattle.std.proofs.lemmas.List.{length-map, get_or-map}
use Rattle.std.proofs.lemmas.List.Sums.{fold_more}
use Rattle.std.proofs.lemmas.List.FromFn.{fill_by_all, get_or-map-range_with_len, length-map-range_with_len}
use Rattle.word_monoid.specs.Folds.{prefix_of, prefixes}
use Rattle.source_meaning.specs.declared.kinds.Kind.{Kind}
use Rattle.source_meaning.specs.declared.kinds.Kind.TheVariants.{Program as ProgramKind}
use Rattle.source_meaning.specs.Rows.{is_function}
use Rattle.ast_rows.specs.FunctionRows.{function_mark, functions_before, owner_at}
use Rattle.ast_rows.specs.Laws.FunctionRows.{mark_most, owner_most}
use Rattle.kin_pass.specs.Sums.{sum32}

-- a mark is a number of 32 bits
pub mark_is_item : (kind : Kind) → nat_le (function_mark kind) 4294967295 ≡ true
mark_is_item kind = by_mark (is_function kind)
  where
    by_mark : (b : Bool) → nat_le (if b then 1 else 0) 4294967295 ≡ true
    by_mark true = refl
    by_mark false = refl

-- the sum of the marks before row k is how many functions stand there
module _ (kinds : List Kind) (few : length kinds ≤ 4294967295) where
  sum_before : (k : ℕ) → k ≤ length kinds → prefix_of sum32 (map function_mark kinds) k ≡ owner_at kinds k
  sum_before zero within = refl
  sum_before (suc k) within =
      let next : suc k ≡ k + 1 = omega arith in
      let many = length-map kinds function_mark in
      let low = owner_most kinds k in
      let most = mark_most (get_or kinds k ProgramKind) in
      let mark : get_or (map function_mark kinds) k 0 ≡ function_mark (get_or kinds k ProgramKind) = get_or-map function_mark kinds k ProgramKind 0 (omega arith) in
      let fits : min (owner_at kinds k + function_mark (get_or kinds k ProgramKind)) 4294967295 ≡ owner_at kinds k + function_mark (get_or kinds k ProgramKind) = omega arith in
      ap (prefix_of sum32 (map function_mark kinds)) next
      ∙ fold_more sum32.join sum32.unit (map function_mark kinds) k 0 (omega arith)
      ∙ (λ i. min (sum_before k (omega arith) i + mark i) 4294967295)
      ∙ fits

  pub owners_summed : prefixes sum32 (map function_mark kinds) ≡ functions_before kinds
  owners_summed =
      let many = length-map kinds function_mark in
      let next : suc (length (map function_mark kinds)) ≡ length kinds + 1 = omega arith in
      fill_by_all (owner_at kinds) (prefixes sum32 (map function_mark kinds)) (length kinds + 1) 0
      (length-map-range_with_len (prefix_of sum32 (map function_mark kinds)) 0 (suc (length (map function_mark kinds))) ∙ next)
      (λ k less.
      get_or-map-range_with_len (prefix_of sum32 (map function_mark kinds)) 0 (suc (length (map function_mark kinds))) k k 0 (omega arith) (omega arith)
      ∙ sum_before k (omega arith))
