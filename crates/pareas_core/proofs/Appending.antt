-- Known bytes that grow piece by piece.
use Rattle.std.proofs.Common.{◌≡◌, ℕ, List, [], ◌++◌, take, drop, Option, Some, None, refl, sym, ap, ◌∙◌, append_assoc}
use Rattle.std.proofs.lemmas.List.{take-append-drop, append-nil}
use Rattle.std.specs.Io.KnownBytes.{Appends}
use Rattle.pareas_core.specs.Reading.{WritesPrefix}

pub appends_nothing : (known : Option (List ℕ)) → Appends known known []
appends_nothing None = tt
appends_nothing (Some xs) = sym (append-nil xs)

pub appends_more : (old mid new : Option (List ℕ)) (xs ys : List ℕ) → Appends old mid xs → Appends mid new ys → Appends old new (xs ++ ys)
appends_more None mid new xs ys h k = tt
appends_more (Some os) None new xs ys h k = absurd h
appends_more (Some os) (Some ms) None xs ys h k = absurd k
appends_more (Some os) (Some ms) (Some ns) xs ys h k = k ∙ ap (λ l. l ++ ys) h ∙ append_assoc os xs ys

pub start_of : (known : Option (List ℕ)) (bytes : List ℕ) → (p : WritesPrefix known known bytes) × (p.rest ≡ bytes)
start_of known bytes = (record { front = []; rest = bytes; parts = refl; written = appends_nothing known }, refl)

-- a write of the first n bytes of what is left
pub goes_on : (old mid new : Option (List ℕ)) (bytes rest : List ℕ) (n : ℕ) → (p : WritesPrefix old mid bytes) × (p.rest ≡ rest) → Appends mid new (take n rest) → (p : WritesPrefix old new bytes) × (p.rest ≡ drop n rest)
goes_on old mid new bytes rest n p h = (
  record {
    front = p.0.front ++ take n rest;
    rest = drop n rest;
    parts = p.0.parts ∙ ap (λ l. p.0.front ++ l) (p.1 ∙ sym (take-append-drop n rest)) ∙ sym (append_assoc p.0.front (take n rest) (drop n rest));
    written = appends_more old mid new p.0.front (take n rest) p.0.written h;
  },
  refl,
)
