-- The sizes that a source, a frame and the code may have. What is above them is refused, by the diagnostic that each line names.
use Rattle.std.specs.Prelude.{ℕ, ◌^◌}

-- the most bytes of a source; a longer one is refused with 601
abbrev pub most_source : ℕ
most_source = 16777216

-- the most bytes of the frame of a function; the first function with a greater one is refused with 602
abbrev pub most_frame : ℕ
most_frame = 65520

-- the most bytes of the code of a program; longer code is refused with 603
abbrev pub most_code : ℕ
most_code = 16777216

-- The most rows of a syntax tree that the passes take. No diagnostic belongs to it, since a source that isn't too large has fewer:
-- at most one more than it has bytes.
abbrev pub most_rows : ℕ
most_rows = 2 ^ 25
