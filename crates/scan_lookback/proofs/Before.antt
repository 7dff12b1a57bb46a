-- A turn of the look-back keeps that the prefix of the chunks to come, joined with what was found, is the answer.
use Rattle.std.proofs.Common.{◌≡◌, ℕ, suc, ◌+◌, ◌≤◌, List, [], ◌∷◌, ◌++◌, All, Some, slice_get, length, refl, sym, ap, ◌∙◌, subst, arith, add-one, inl, inr, append_assoc, length-append}
use Rattle.std.proofs.lemmas.List.{append-nil}
use Rattle.word_monoid.specs.Monoid.{Ops, IsItem, IsMonoid}
use Rattle.word_monoid.specs.Folds.{prefix_of}
use Rattle.word_monoid.specs.Laws.Folds.{all_at, prefix_item, prefix_next}
use Rattle.scan_lookback.specs.Views.{loading, looking}
use Rattle.scan_lookback.specs.LookSteps.{LastLoaded}
use Rattle.scan_lookback.specs.Held.{Held, held}
use Rattle.scan_lookback.specs.LookBacks.{TellsPrefix, IsLookBack}

module _ {T : Type 0} (ops : Ops T) (laws : IsMonoid ops) (sums : List T) (items : All (IsItem ops) sums) where
  abbrev before : ℕ → T
  before c = prefix_of ops sums c

  before_item : (c : ℕ) → IsItem ops (before c)
  before_item c = prefix_item ops laws sums c items

  pub begins : (c : ℕ) (sum : T) → sum ≡ ops.unit → IsItem ops sum × (ops.join (before c) sum ≡ before c)
  begins c sum is = (subst (IsItem ops) (sym is) laws.unit_is_item, ap (ops.join (before c)) is ∙ laws.unit_right (before c) (before_item c))

  -- the sum of the chunk k was found
  pub takes_part : (k j c : ℕ) (part sum joined : T) → suc k ≡ j → slice_get sums k ≡ Some part → joined ≡ ops.join part sum → IsItem ops sum → ops.join (before j) sum ≡ before c
      → IsItem ops joined × (ops.join (before k) joined ≡ before c)
  takes_part k j c part sum joined next at is ok so_far =
      let part_ok : IsItem ops part = all_at (IsItem ops) sums k part items at in
      let step : before j ≡ ops.join (before k) part = ap before (sym next ∙ sym (add-one k)) ∙ prefix_next ops sums k part at in (
        subst (IsItem ops) (sym is) (laws.join_is_item part sum part_ok ok),
        ap (ops.join (before k)) is ∙ (sym (laws.associative (before k) part sum (before_item k) part_ok ok) ∙ (ap (λ (x : T). ops.join x sum) (sym step) ∙ so_far)),
      )

  -- the prefix of the chunk k was found
  pub takes_whole : (k j c : ℕ) (whole sum joined : T) → suc k ≡ j → whole ≡ before (k + 1) → joined ≡ ops.join whole sum → IsItem ops sum → ops.join (before j) sum ≡ before c
      → IsItem ops joined × (joined ≡ before c)
  takes_whole k j c whole sum joined next at is ok so_far =
      let there : whole ≡ before j = at ∙ ap before (add-one k ∙ next) in
      let same : joined ≡ before c = is ∙ (ap (λ (x : T). ops.join x sum) there ∙ so_far) in
      (subst (IsItem ops) (sym same) (before_item c), same)

-- the load that is noted last
pub last_is : (old now : Held) (j word : ℕ) → now ≡ held old.board (looking old.view j word) → LastLoaded now.view j word
last_is old now j word is = (old.view.looked, ap (λ (s : Held). s.view.looked) is)

-- what a look-back from the chunk c leaves
abbrev pub Ends : ℕ → Held → Held → ℕ → ℕ → Type 0
Ends c old now from steps = (loads : List (ℕ × ℕ)) × (now ≡ held old.board (loading old.view loads)) × IsLookBack c loads × (steps ≡ from + length loads)

-- a look-back from the chunk c has come down to the chunk j: what it has loaded, and a look-back from j on, is one from c on
pub record Down (c j : ℕ) (old now : Held) (from steps : ℕ) : Type 0 where
  pub loads : List (ℕ × ℕ)
  pub noted : now ≡ held old.board (loading old.view loads)
  pub counted : steps ≡ from + length loads
  pub many : length loads + j ≡ c
  pub rest : (more : List (ℕ × ℕ)) → IsLookBack j more → IsLookBack c (loads ++ more)

pub down_none : (c : ℕ) (old : Held) (from : ℕ) → Down c c old old from from
down_none c old from = record { loads = []; noted = ap (λ (l : List (ℕ × ℕ)). held old.board (record { shown = old.view.shown; sealed = old.view.sealed; looked = l; share = old.view.share })) (sym (append-nil old.view.looked)); counted = omega arith; many = omega arith; rest = λ more h. h }

module _ (c j k : ℕ) (next : suc k ≡ j) (old now after : Held) (from steps later word : ℕ) (down : Down c j old now from steps) (load : after ≡ held now.board (looking now.view k word)) (counted : later ≡ steps + 1) where
  more_noted : after ≡ held old.board (loading old.view (down.loads ++ (k, word) ∷ []))
  more_noted = load ∙ (ap (λ (s : Held). held s.board (looking s.view k word)) down.noted
      ∙ ap (λ (l : List (ℕ × ℕ)). held old.board (record { shown = old.view.shown; sealed = old.view.sealed; looked = l; share = old.view.share })) (append_assoc old.view.looked down.loads ((k, word) ∷ [])))

  more_counted : later ≡ from + length (down.loads ++ (k, word) ∷ [])
  more_counted = omega (arith, counted, down.counted, length-append down.loads ((k, word) ∷ []))

  more_many : length (down.loads ++ (k, word) ∷ []) + k ≡ c
  more_many = omega (arith, next, down.many, length-append down.loads ((k, word) ∷ []))

  -- a word that tells no prefix
  pub down_more : (TellsPrefix word → ⊥) → Down c k old after from later
  down_more none = record {
    loads = down.loads ++ (k, word) ∷ [];
    noted = more_noted;
    counted = more_counted;
    many = more_many;
    rest = λ more h. subst (IsLookBack c) (sym (append_assoc down.loads ((k, word) ∷ []) more)) (down.rest ((k, word) ∷ more) (subst (λ (n : ℕ). IsLookBack n ((k, word) ∷ more)) next (refl, inr (none, h))));
  }

  -- a word that tells a prefix
  pub down_ends : TellsPrefix word → Ends c old after from later
  down_ends tells = (down.loads ++ (k, word) ∷ [], more_noted, down.rest ((k, word) ∷ []) (subst (λ (n : ℕ). IsLookBack n ((k, word) ∷ [])) next (refl, inl (tells, refl))), more_counted)

  pub ends_bound : later ≤ from + c
  ends_bound = omega (arith, more_counted, more_many)

pub down_zero : (c j : ℕ) → j ≡ 0 → (old now : Held) (from steps : ℕ) → Down c j old now from steps → Ends c old now from steps
down_zero c j end old now from steps d = (d.loads, d.noted, subst (IsLookBack c) (append-nil d.loads) (d.rest [] (subst (λ (n : ℕ). IsLookBack n []) (sym end) refl)), d.counted)
