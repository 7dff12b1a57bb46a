-- What a look finds.
use Rattle.std.specs.Prelude.{◌≡◌, ℕ, ◌+◌, ◌*◌, List, slice_get, Some}
use Rattle.word_monoid.specs.Monoid.{Ops, IsItem}
use Rattle.word_monoid.specs.Folds.{prefix_of}
use Rattle.atomic_table.specs.Seated.{TableId}
use Rattle.scan_lookback.specs.LookBacks.{TellsPrefix}
use Rattle.scan_lookback.specs.LookSteps.{LastLoaded}
use Rattle.scan_lookback.specs.declared.look.Look.{Look}
use Rattle.scan_lookback.specs.declared.look.Look.TheVariants.{Nothing, Sum, Prefix}
use Rattle.scan_lookback.specs.declared.look.Known.{Known}
use Rattle.scan_lookback.specs.declared.look.Known.TheVariants.{Part, Whole}
use Rattle.scan_lookback.specs.declared.unseen.Unseen.{Unseen}

-- the leave to fold the chunk j: a seat of this board has made its last load there, and the word was 0
abbrev pub IsUnseen : TableId → ℕ → Unseen → Type 0
IsUnseen board j u = (u.chunk ≡ j) × (u.seat.now.board ≡ board) × LastLoaded u.seat.now.view j 0

module _ {T : Type 0} (ops : Ops T) (sums : List T) where
  -- x is the sum of the chunk j
  abbrev pub IsSum : ℕ → T → Type 0
  IsSum j x = slice_get sums j ≡ Some x

  -- x is the join of the sums up to the chunk j and with it
  abbrev pub IsPrefix : ℕ → T → Type 0
  IsPrefix j x = x ≡ prefix_of ops sums (j + 1)

  -- the word 0 is nothing; another says the chunk's sum, or its prefix
  abbrev pub Found : ℕ → ℕ → Look T → Type 0
  Found j word Nothing = word ≡ 0
  Found j word (Sum x) = (word ≡ 4 * ops.code x + 1) × IsSum j x
  Found j word (Prefix x) = (word ≡ 4 * ops.code x + 2) × IsPrefix j x

  -- what is known of a chunk after a look at this word, and a fold where it found nothing
  abbrev pub KnownAt : ℕ → ℕ → Known T → Type 0
  KnownAt j word (Part x) = IsSum j x × (TellsPrefix word → ⊥)
  KnownAt j word (Whole x) = IsPrefix j x × IsItem ops x × TellsPrefix word
