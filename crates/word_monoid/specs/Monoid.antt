-- A monoid over the values that it accepts as items. Each item has a code below 2 ^ 62, which names it.
use Rattle.std.specs.Prelude.{◌≡◌, ℕ, ◌<◌, ◌^◌, Bool, IsTrue}

pub record Ops (T : Type 0) : Type 0 where
  pub accepts : T → Bool
  pub unit : T
  pub join : T → T → T
  pub code : T → ℕ
  pub decode : ℕ → T

module _ {T : Type 0} (ops : Ops T) where
  abbrev pub IsItem : T → Type 0
  IsItem x = IsTrue (ops.accepts x)

  -- a word that is the code of an item
  abbrev pub IsCode : ℕ → Type 0
  IsCode word = (x : T) × IsItem x × (word ≡ ops.code x)

  pub record IsMonoid : Type 0 where
    pub unit_is_item : IsItem ops.unit
    pub join_is_item : (a b : T) → IsItem a → IsItem b → IsItem (ops.join a b)
    pub associative : (a b c : T) → IsItem a → IsItem b → IsItem c → ops.join (ops.join a b) c ≡ ops.join a (ops.join b c)
    pub unit_left : (a : T) → IsItem a → ops.join ops.unit a ≡ a
    pub unit_right : (a : T) → IsItem a → ops.join a ops.unit ≡ a
    pub decodes : (a : T) → IsItem a → ops.decode (ops.code a) ≡ a
    pub fits : (a : T) → IsItem a → ops.code a < 2 ^ 62
