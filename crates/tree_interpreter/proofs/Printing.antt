-- What was printed so far, and what is meant to come.
use Rattle.std.proofs.Common.{◌≡◌, ℕ, ℤ, suc, ◌<◌, ◌^◌, to_z, of_z, List, [], ◌∷◌, ◌++◌, map, Result, Ok, Err, refl, sym, ap, subst, ◌∙◌, arith}
use Rattle.std.proofs.lemmas.List.{append_assoc, append-nil, map-append}
use Rattle.std.proofs.lemmas.Int.{of_z-to_z}
use Rattle.std.specs.Int.{w32, cast_signed}
use Rattle.source_meaning.specs.Meaning.{End, Outcome, Ended, Stopped, Deep as AtDeep, More as AtMore, ends_as}
use Rattle.source_meaning.specs.Operators.{word_of}
use Rattle.tree_interpreter.specs.Resuming.{stacked, behind_said, resume, opened}
use Rattle.tree_interpreter.specs.Running.{AreAdded, AreBegun, CallsTo, WalksTo, told}
use Rattle.tree_interpreter.specs.Walking.{Went, WentOn, Printed, Resumes, Steps, Says, IsSilent, meant, weigh, weigh_rests, resumed, program_in}
use Rattle.tree_interpreter.specs.declared.rests.Rest.{Rest}
use Rattle.tree_interpreter.specs.declared.rests.Rest.TheVariants.{Print}
use Rattle.tree_interpreter.specs.declared.rests.Rests.{Rests}
use Rattle.tree_interpreter.specs.declared.interpreter.Stop.{Stop}
use Rattle.tree_interpreter.specs.declared.interpreter.Stop.TheVariants.{Deep, More, NoMemory}
use Rattle.tree_interpreter.specs.declared.interpreter.Walker.{Walker}

pub none_added : (old : List ℤ) → AreAdded old [] old
none_added old = sym (append-nil (map word_of old))

pub more_added : (old now new : List ℤ) (said more : List ℕ) → AreAdded old said now → AreAdded now more new → AreAdded old (said ++ more) new
more_added old now new said more a b = b ∙ ap (λ ns. ns ++ more) a ∙ append_assoc (map word_of old) said more

-- some numbers were printed, and this is meant to come
pub record SoFar (start : End) (old : List ℤ) (o : End) (now : List ℤ) : Type 0 where
  pub said : List ℕ
  pub added : AreAdded old said now
  pub same : start ≡ behind_said said o

pub at_start : (start : End) (old : List ℤ) → SoFar start old start old
at_start start old = record { said = []; added = none_added old; same = refl }

pub one_more : (start o : End) (old now new : List ℤ) (n : ℕ) (w : Walker) → SoFar start old o now → Printed o n now w new → SoFar start old (meant w) new
one_more start o old now new n w s p = record {
  said = s.said ++ p.said;
  added = more_added old now new s.said p.said s.added p.added;
  same = s.same ∙ ap (behind_said s.said) p.same ∙ λ i. record { outcome = (meant w).outcome; printed = sym (append_assoc s.said p.said (meant w).printed) i };
}

pub all_said : (start o : End) (old now : List ℤ) (q : Outcome) → SoFar start old o now → o ≡ ends_as q → (start.outcome ≡ q) × AreAdded old start.printed now
all_said start o old now q s is =
    let e : start ≡ behind_said s.said (ends_as q) = s.same ∙ ap (behind_said s.said) is in
    (ap (λ z. z.outcome) e, subst (λ ns. AreAdded old ns now) (sym (ap (λ z. z.printed) e ∙ append-nil s.said)) s.added)

pub begun : (start o : End) (old now : List ℤ) → SoFar start old o now → AreBegun old start.printed now
begun start o old now s = record { said = s.said; unsaid = o.printed; all = ap (λ z. z.printed) s.same; added = s.added }

pub none_begun : (old : List ℤ) (words : List ℕ) → AreBegun old words old
none_begun old words = record { said = []; unsaid = words; all = refl; added = none_added old }

-- a step that ends the walk
pub stops_there : (start o : End) (old now new : List ℤ) (n : ℕ) (e : Stop) (w : Walker) → SoFar start old o now → WentOn o n now (Err e) w new → CallsTo start old new (Err e)
stops_there start o old now new n Deep w s h = subst (λ z. CallsTo start old z (Err Deep)) (sym h.1) (all_said start o old now (Stopped AtDeep) s h.0)
stops_there start o old now new n More w s h = subst (λ z. CallsTo start old z (Err More)) (sym h.1) (all_said start o old now (Stopped AtMore) s h.0)
stops_there start o old now new n NoMemory w s h = subst (λ z. AreBegun old start.printed z) (sym h) (begun start o old now s)

-- a step that prints nothing
pub silent_goes : (o : End) (n : ℕ) (old : List ℤ) (y : Result (Unit {0}) Stop) (w : Walker) → Went o n y w → WentOn o n old y w old
silent_goes o n old (Ok u) w h = record { said = []; added = none_added old; same = h.0; fewer = h.1 }
silent_goes o n old (Err Deep) w h = (h, refl)
silent_goes o n old (Err More) w h = (h, refl)
silent_goes o n old (Err NoMemory) w h = refl

pub silent_unless : (r : Rest) → (r ≡ Print → ⊥) → IsSilent r
silent_unless Print h = h refl
silent_unless r h = tt

-- a step that prints
pub says_goes : (w : Walker) (old new : List ℤ) → AreAdded old (w.value ∷ []) new → Says w old (Ok tt) (record w { value = 0 }) new
says_goes w old new is = record {
  went = record {
    said = w.value ∷ [];
    added = is;
    same = refl;
    fewer = omega arith;
  };
}

-- a number behind others, as a word
pub one_said : (old : List ℤ) (word : ℕ) (new : List ℤ) → word < 2 ^ 32 → new ≡ old ++ to_z w32 (of_z w32 (cast_signed w32 word)) ∷ [] → AreAdded old (word ∷ []) new
one_said old word new small is =
    let back : of_z w32 (cast_signed w32 word) ≡ word = of_z-to_z w32 word small in
    let same : word_of (to_z w32 (of_z w32 (cast_signed w32 word))) ≡ word = ap (λ n. word_of (to_z w32 n)) back ∙ back in
    ap (map word_of) is ∙ map-append word_of old (to_z w32 (of_z w32 (cast_signed w32 word)) ∷ []) ∙ ap (λ n. map word_of old ++ n ∷ []) same
