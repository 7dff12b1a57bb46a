-- A part, after writes through the slice that it lends.
use Rattle.core.specs.Prelude.{List, length}
use mathlib.Core.Path.{refl}
use base.Fml.{Fml}
use denote.Array.{Array}
use denote.Follow.{follows}
use denote.Ref.{MutBor}
use denote.RattleType.{RattleType}
use Rattle.list_parts.specs.declared.part.Part.{Part}
use Rattle.list_parts.specs.contracts.part.Part.{the_row}

-- the part's places, with ws in them
abbrev pub part_with : {X : Type 0} → Part X → List X → Part X
part_with part ws = record { start = part.start; len = length ws; items = ws; counted = refl }

-- r is the slice of the part behind s. When the borrow ends, the part has what was written through r
abbrev pub part_follows : (R : RattleType) → MutBor (Part R.Denot) → MutBor (List R.Denot) → Fml
part_follows R s r = follows (the_row R) (Array R 0) s.ghost_name r.ghost_name (part_with s.now)
