-- A list that is cut into chunks of one size, the last of which may be shorter.
use Rattle.std.specs.Prelude.{ℕ, ◌+◌, ◌-◌, ◌*◌, ◌/◌, List, take, drop}

-- the items of chunk c: from c * size up to (c + 1) * size, or the end
abbrev pub chunk_of : {T : Type 0} → ℕ → List T → ℕ → List T
chunk_of size items c = take size (drop (c * size) items)

-- how many chunks this many items make
abbrev pub chunk_count : ℕ → ℕ → ℕ
chunk_count size len = (len + (size - 1)) / size
