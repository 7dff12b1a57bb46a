-- What rows declare, one row or one stretch behind the other.
use denote.Ref.{Bor}
use Rattle.std.proofs.Common.{◌≡◌, ℕ, zero, suc, ◌+◌, ◌-◌, ◌≤◌, Bool, true, false, cond, List, [], ◌∷◌, ◌++◌, map, refl, sym, ap, ◌∙◌, arith}
use Rattle.std.specs.Prelude.{filter}
use Rattle.std.specs.List.{range_with_len}
use Rattle.std.proofs.lemmas.List.{map-append}
use Rattle.std.proofs.lemmas.List.Elements.{filter-append}
use Rattle.source_meaning.specs.declared.kinds.Kind.{Kind}
use Rattle.source_meaning.specs.declared.kinds.Kind.TheVariants.{Function, Param, Var}
use Rattle.source_meaning.specs.Rows.{Row}
use Rattle.ast_rows.specs.TokenRows.{TokenRow}
use Rattle.name_pass.specs.declared.key.NameKey.{NameKey}
use Rattle.name_pass.specs.declared.tally.Tally.{Tally}
use Rattle.name_pass.specs.RowNames.{row, declares, count_step, count_in}
use Rattle.name_pass.specs.RowKeys.{key_of, keys_from}
use Rattle.name_pass.specs.Stretches.{AreDeclared, count_behind}
use Rattle.name_pass.proofs.Ranged.{ranges_join}

-- ---- the count of variables
step_small : (kind : Kind) (n : ℕ) → count_step kind n ≤ n + 1
step_small (Function ty) n = omega arith
step_small (Param ty) n = omega arith
step_small (Var ty) n = omega arith
step_small kind n = omega arith

pub count_small : (rows : List Row) (k : ℕ) → count_in rows k ≤ k
count_small rows zero = omega arith
count_small rows (suc k) = let h = count_small rows k in let s = step_small (row rows k).kind (count_in rows k) in omega arith

-- a row that declares nothing isn't counted
pub not_counted : (kind : Kind) (n : ℕ) → declares kind ≡ false → count_step kind n ≡ n
not_counted (Function ty) n e = absurd (let c : true ≡ false = e in cc)
not_counted (Param ty) n e = absurd (let c : true ≡ false = e in cc)
not_counted (Var ty) n e = absurd (let c : true ≡ false = e in cc)
not_counted kind n e = refl

module _ (text : Bor (List ℕ)) (tokens : List TokenRow) (rows : List Row) where
  abbrev keep : ℕ → Bool
  keep k = declares (row rows k).kind

  abbrev keys : ℕ → ℕ → List NameKey
  keys = keys_from text tokens rows

  -- ---- the keys of a row
  pub key_alone : (k : ℕ) → declares (row rows k).kind ≡ true → keys k 1 ≡ key_of text tokens rows k ∷ []
  key_alone k e = ap (λ (b : Bool). map (key_of text tokens rows) (cond b (k ∷ []) [])) e

  pub none_alone : (k : ℕ) → declares (row rows k).kind ≡ false → keys k 1 ≡ []
  none_alone k e = ap (λ (b : Bool). map (key_of text tokens rows) (cond b (k ∷ []) [])) e

  pub keys_join : (a b c : ℕ) → a ≤ b → b ≤ c → keys a (b - a) ++ keys b (c - b) ≡ keys a (c - a)
  keys_join a b c h l =
      let first = range_with_len a (b - a) in
      let last = range_with_len b (c - b) in
      sym (map-append (key_of text tokens rows) (filter keep first) (filter keep last))
      ∙ ap (map (key_of text tokens rows)) (sym (filter-append keep first last) ∙ ap (filter keep) (ranges_join a b c h l))

  -- ---- one row more
  pub declared_none : (from : ℕ) → AreDeclared text tokens rows from from [] (record { anew = false; variables = 0 })
  declared_none from = record {
    keys_are = ap (keys from) (let e : 0 ≡ from - from = omega arith in e);
    counts = omega arith;
    few = omega arith;
  }

  pub declared_more : (from i : ℕ) (ks ks' : List NameKey) (t t' : Tally) → from ≤ i → AreDeclared text tokens rows from i ks t → ks' ≡ ks ++ keys i 1
      → ((n : ℕ) → count_behind t' n ≡ count_step (row rows i).kind (count_behind t n)) → t'.variables ≤ t.variables + 1 → AreDeclared text tokens rows from (i + 1) ks' t'
  declared_more from i ks ks' t t' le d is counts few = record {
    keys_are =
        is
        ∙ ap (λ l. l ++ keys i 1) d.keys_are
        ∙ ap (λ (n : ℕ). keys from (i - from) ++ keys i n) (let e : 1 ≡ i + 1 - i = omega arith in e)
        ∙ keys_join from i (i + 1) le (omega arith);
    counts =
        ap (count_in rows) (let e : i + 1 ≡ suc i = omega arith in e)
        ∙ ap (count_step (row rows i).kind) d.counts
        ∙ sym (counts (count_in rows from));
    few = let f = d.few in omega arith;
  }

  -- ---- one stretch more
  pub counted_next : (a b before after : ℕ) (ks : List NameKey) (t : Tally) → AreDeclared text tokens rows a b ks t → before ≡ count_in rows a → after ≡ count_behind t before → after ≡ count_in rows b
  counted_next a b before after ks t d here is = is ∙ ap (count_behind t) here ∙ sym d.counts

  pub keys_next : (a b : ℕ) (ks more all : List NameKey) (t : Tally) → a ≤ b → ks ≡ keys 0 a → AreDeclared text tokens rows a b more t → all ≡ ks ++ more → all ≡ keys 0 b
  keys_next a b ks more all t le here d is =
      let z : a ≡ a - 0 = omega arith in
      is
      ∙ (λ i. here i ++ d.keys_are i)
      ∙ ap (λ (n : ℕ). keys 0 n ++ keys a (b - a)) z
      ∙ keys_join 0 a b (omega arith) le
      ∙ ap (keys 0) (let e : b - 0 ≡ b = omega arith in e)
