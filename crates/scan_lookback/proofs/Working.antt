-- What a worker's two seats hold, as it goes on.
use Rattle.std.proofs.Common.{◌≡◌, ℕ, ◌+◌, ◌<◌, ◌≤◌, List, [], ◌∷◌, ◌++◌, sym, ap, ◌∙◌, subst, arith, map, append_assoc}
use Rattle.std.proofs.lemmas.List.{map-append}
use Rattle.std.proofs.Common.{Result, Ok, Err}
use Rattle.std.specs.Result.{OnErr}
use mathlib.Core.Logic.{dite}
use native.Mathlib.Decide.{ℕ_discrete}
use Rattle.chunk_seats.specs.Tallies.{times, one}
use Rattle.chunk_seats.specs.declared.views.ClaimView.{ClaimView}
use Rattle.chunk_seats.specs.Claims.{claiming, finishing}
use Rattle.chunk_seats.specs.Laws.Totals.{times_snoc, one_same, one_other, one_le}
use Rattle.scan_lookback.specs.declared.views.LookView.{LookView}
use Rattle.std.specs.Prelude.{All}
use Rattle.std.proofs.lemmas.List.Elements.{All-push}
use Rattle.word_monoid.specs.Monoid.{Ops}
use Rattle.word_monoid.specs.Folds.{prefix_of}
use Rattle.std.specs.Prelude.{flat_map}
use Rattle.std.proofs.lemmas.List.{append-nil}
use Rattle.std.proofs.lemmas.List.Elements.{All-nil}
use Rattle.std.proofs.lemmas.Grind.{flat_map-append}
use Rattle.scan_lookback.specs.Views.{looks}
use Rattle.scan_lookback.specs.LookBacks.{IsLookBack, LooksBack}
use Rattle.scan_lookback.specs.Worked.{Even, Tidy}

once_more : (n c : ℕ) (xs : List ℕ) → times n xs ≤ 1 → times c xs ≡ 0 → times n xs + one n c ≤ 1
once_more n c xs once none = dite (ℕ_discrete n c)
    (λ e. let here : times n xs ≡ 0 = ap (λ (m : ℕ). times m xs) e ∙ none in omega (arith, one_le n c))
    (λ ne. omega (arith, one_other n c (λ e. ne (sym e))))

module _ (v : ClaimView) (w : LookView) (c : ℕ) (looked : List (ℕ × ℕ)) (even : Even v w) (fresh : times c v.claimed ≡ 0) where
  -- a chunk more, from the claim to the end
  pub even_more : Even (finishing (claiming v c) c) (looks (w.shown ++ c ∷ []) (w.sealed ++ c ∷ []) looked w.share)
  even_more = record {
    once = λ n. omega (arith, times_snoc n v.claimed c, once_more n c v.claimed (even.once n) fresh);
    done = λ n. omega (arith, times_snoc n v.claimed c, times_snoc n v.done c, even.done n);
    shown = λ n. omega (arith, times_snoc n v.claimed c, times_snoc n w.shown c, even.shown n);
    sealed = λ n. omega (arith, times_snoc n v.claimed c, times_snoc n w.sealed c, even.sealed n);
  }

  pub tidy_sealed : Tidy (claiming v c) (looks (w.shown ++ c ∷ []) (w.sealed ++ c ∷ []) looked w.share)
  tidy_sealed = record {
    once = λ n. omega (arith, times_snoc n w.shown c, even.shown n, once_more n c v.claimed (even.once n) fresh);
    done = λ n. omega (arith, times_snoc n w.sealed c, even.done n, even.sealed n);
    shown = λ n. omega (arith, times_snoc n v.claimed c, times_snoc n w.shown c, even.shown n);
  }

pub on_err : {T E P : Type 0} (r : Result T E) → P → OnErr r P
on_err (Ok x) p = tt
on_err (Err e) p = p

pub tidy_as : (v v' : ClaimView) (w w' : LookView) → v' ≡ v → w' ≡ w → Tidy v w → Tidy v' w'
tidy_as v v' w w' e f = subst (λ (p : ClaimView × LookView). Tidy p.0 p.1) (λ i. (sym e i, sym f i))

pub even_as : (v v' : ClaimView) (w w' : LookView) → v' ≡ v → w' ≡ w → Even v w → Even v' w'
even_as v v' w w' e f = subst (λ (p : ClaimView × LookView). Even p.0 p.1) (λ i. (sym e i, sym f i))

-- one more chunk among the answers
pub answers_more : {L : Type 0} (from to old : List ℕ) (all all' : List (ℕ × L)) (c : ℕ) (x : L) → from ≡ old ++ map (λ (p : ℕ × L). p.0) all → to ≡ from ++ c ∷ [] → all' ≡ all ++ (c, x) ∷ [] → to ≡ old ++ map (λ (p : ℕ × L). p.0) all'
answers_more {L} from to old all all' c x so_far more added =
    more ∙ (ap (λ (l : List ℕ). l ++ c ∷ []) so_far
    ∙ (append_assoc old (map (λ (p : ℕ × L). p.0) all) (c ∷ [])
    ∙ ap (λ (l : List ℕ). old ++ l) (sym (ap (map (λ (p : ℕ × L). p.0)) added ∙ map-append (λ (p : ℕ × L). p.0) all ((c, x) ∷ [])))))

pub all_more : {A : Type 0} (P : A → Type 0) (xs ys : List A) (x : A) → ys ≡ xs ++ x ∷ [] → All P xs → P x → All P ys
all_more P xs ys x is ps p = subst (All P) (sym is) (All-push P xs x ps p)

pub stands_last : (c : ℕ) (xs ys : List ℕ) → ys ≡ xs ++ c ∷ [] → 0 < times c ys
stands_last c xs ys is = omega (arith, ap (times c) is, times_snoc c xs c, one_same c)

abbrev Back : Type 0
Back = ℕ × List (ℕ × ℕ)

-- nothing is looked at yet
pub back_none : (v : LookView) → LooksBack v v
back_none v = record { backs = []; shown = sym (append-nil v.shown); looked = sym (append-nil v.looked); each = All-nil (λ (p : Back). IsLookBack p.0 p.1) }

-- one more look-back
pub back_more : (u v w : LookView) (c : ℕ) (loads : List (ℕ × ℕ)) → LooksBack u v → w ≡ looks (v.shown ++ c ∷ []) (v.sealed ++ c ∷ []) (v.looked ++ loads) v.share → IsLookBack c loads → LooksBack u w
back_more u v w c loads so_far is one = record {
  backs = so_far.backs ++ (c, loads) ∷ [];
  shown = ap (λ (x : LookView). x.shown) is ∙ (ap (λ (l : List ℕ). l ++ c ∷ []) so_far.shown
      ∙ (append_assoc u.shown (map (λ (p : Back). p.0) so_far.backs) (c ∷ []) ∙ ap (λ (l : List ℕ). u.shown ++ l) (sym (map-append (λ (p : Back). p.0) so_far.backs ((c, loads) ∷ [])))));
  looked = ap (λ (x : LookView). x.looked) is ∙ (ap (λ (l : List (ℕ × ℕ)). l ++ loads) so_far.looked
      ∙ (append_assoc u.looked (flat_map (λ (p : Back). p.1) so_far.backs) loads
      ∙ ap (λ (l : List (ℕ × ℕ)). u.looked ++ l) (ap (λ (l : List (ℕ × ℕ)). flat_map (λ (p : Back). p.1) so_far.backs ++ l) (sym (append-nil loads)) ∙ sym (flat_map-append (λ (p : Back). p.1) so_far.backs ((c, loads) ∷ [])))));
  each = All-push (λ (p : Back). IsLookBack p.0 p.1) so_far.backs (c, loads) so_far.each one;
}

-- a start is the join of the sums before its chunk
abbrev pub StartsAt : {T : Type 0} → Ops T → List T → ℕ × T → Type 0
StartsAt ops sums p = p.1 ≡ prefix_of ops sums p.0
