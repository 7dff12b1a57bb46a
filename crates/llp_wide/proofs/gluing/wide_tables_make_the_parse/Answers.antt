-- By the law of pieces, for each grammar of the tables.
use Rattle.std.proofs.Common.{ℕ, List, subst}
use Rattle.glue_summary.specs.declared.fault.ParseFault.{ParseFault}
use Rattle.glue_summary.specs.declared.fault.ParseFault.TheVariants.{Syntax, NoMemory}
use Rattle.glue_summary.specs.Stretch.{IsGlued, IsGlueFault, ended_by}
use Rattle.llp_wide.specs.WideEntries.{WideTable, wide_entry_of}
use Rattle.llp_wide.specs.WideParsing.{IsFaultByWide, wide_end}
use Rattle.llp_wide.proofs.WidePieces.{wide_closed, wide_pieces, wide_end_is}
use Rattle.llp_wide.proofs.gluing.wide_tables_make_the_parse.Goals as goal

pub returns-clause-closed : goal.returns-clause-closed
returns-clause-closed c = wide_closed

pub returns-clause-pieces : goal.returns-clause-pieces
returns-clause-pieces c = wide_pieces

pub returns-clause-ok : goal.returns-clause-ok
returns-clause-ok c = λ t word ps is g a wf reduced.
    c.pieces_make_the_parse.ensures.ok g (wide_entry_of t) (wide_pieces g (wide_entry_of t) a.tables) wf word ps (subst (λ end. IsGlued (wide_entry_of t) end (ended_by end word) ps) (wide_end_is g t a) is)

pub returns-clause-fault : goal.returns-clause-fault
returns-clause-fault c = by
  where
    by : (t : WideTable) (word : List ℕ) (fault : ParseFault) → IsGlueFault (wide_entry_of t) (wide_end t) (ended_by (wide_end t) word) fault → IsFaultByWide t word fault
    by t word NoMemory h = tt
    by t word (Syntax at) h = λ g a wf reduced.
        c.pieces_make_the_parse.ensures.fault g (wide_entry_of t) (wide_pieces g (wide_entry_of t) a.tables) wf reduced word at (subst (λ end. IsGlueFault (wide_entry_of t) end (ended_by end word) (Syntax at)) (wide_end_is g t a) h)
