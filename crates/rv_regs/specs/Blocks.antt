-- Stretches of rows by blocks of 32 rows.
use Rattle.std.specs.Prelude.{◌≡◌, ℕ, ◌+◌, ◌*◌, ◌/◌, ◌≤◌, List, length, slice_index_or}
use Rattle.word_monoid.specs.Monoid.{IsItem}
use Rattle.word_monoid.specs.Folds.{prefix_of}
use Rattle.source_meaning.specs.declared.kinds.Kind.{Kind}
use Rattle.depth_rules.specs.declared.segments.Segment.{Segment}
use Rattle.depth_rules.specs.Segments.{joined, segments, segments_by, no_slots}

module _ (kinds : List Kind) (depths : List ℕ) where
  -- the rows before one
  abbrev pub stretch_before : ℕ → Segment
  stretch_before k = prefix_of segments (segments_by kinds depths) k

  -- a stretch behind which the rows before one end is one behind which the rows before another end, once it is followed by those between
  abbrev pub Reaches : (from to : ℕ) (before after : Segment) → Type 0
  Reaches from to before after = (a : Segment) → IsItem segments a → joined a before ≡ stretch_before from → joined a after ≡ stretch_before to

  -- the rows of a block
  abbrev pub IsBlock : ℕ → Segment → Type 0
  IsBlock b x = IsItem segments x × (joined (stretch_before (b * 32)) x ≡ stretch_before (b * 32 + 32))

  -- the rows before each block, and before the rows behind the last whole one
  abbrev pub AreStarts : List Segment → Type 0
  AreStarts starts = (b : ℕ) → b ≤ length kinds / 32 → slice_index_or starts b no_slots ≡ stretch_before (b * 32)
