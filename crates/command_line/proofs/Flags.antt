-- The value of a flag is read from its text.
use Rattle.std.proofs.Common.{◌≡◌, Bool, true, false, refl, sym, ap, Option, Some, None, unwrap_or, codes}
use Rattle.std.specs.Option.{option_map_or}
use Rattle.std.specs.Str.{bytes_eq}
use Rattle.std.specs.Str.Parse.{ParsesBool}
use Rattle.std.proofs.lemmas.Slice.Eq.{bytes_eq-Decides}
use Rattle.clap.specs.Matches.{ReadsOne}
use Rattle.clap.specs.Walk.{Text}

module _ (E : Type 0) where
  read : (text : Text) (r : Option Bool) → ReadsOne {T = Bool} {E = E} ParsesBool text r → unwrap_or r false ≡ bytes_eq text (codes "true")
  read text (Some true) h = sym ((bytes_eq-Decides text (codes "true")).1 h)
  read text (Some false) h = rw h refl
  read text None h = go (bytes_eq text (codes "true")) refl
    where
      go : (b : Bool) → bytes_eq text (codes "true") ≡ b → false ≡ b
      go true e = absurd (h.1.0 ((bytes_eq-Decides text (codes "true")).0 e))
      go false e = refl

  pub flag_read : (o : Option Text) (r : Option Bool) → (o ≡ None → r ≡ None) → ((text : Text) → o ≡ Some text → ReadsOne {T = Bool} {E = E} ParsesBool text r)
      → unwrap_or r false ≡ option_map_or (λ text. bytes_eq text (codes "true")) o false
  flag_read None r none some = ap (λ x. unwrap_or x false) (none refl)
  flag_read (Some text) r none some = read text r (some text refl)
