use Rattle.std.proofs.Common.{Some, sym, ap, ◌∙◌, subst}
use Rattle.grammar_file.specs.declared.symbols.Symbol.TheVariants.{Terminal}
use Rattle.llp_tables.specs.CellSlots.{cell_of}
use Rattle.llp_tables.specs.LookbackTable.{HasLookback}
use Rattle.llp_tables.proofs.LookbackRows.{told_member, told_none}
use Rattle.llp_tables.proofs.lookback_rows.member_of.Goals as goal

pub returns-in_ok-symbols-in-Some : goal.returns-in_ok-symbols-in-Some
returns-in_ok-symbols-in-Some c = λ g b tells.
    subst (HasLookback g c.args.a b) (ap Some (sym (c.new.ensures ∙ c.in_ok-symbols-in-Some.ensures.items)))
    (told_member g c.args.a b (cell_of c.args.members.now (Terminal c.args.a)) c.in-Some.closes.now c.in-Some.ensures tells)

pub returns-in-None : goal.returns-in-None
returns-in-None c = λ g b tells. told_none g c.args.a b (cell_of c.args.members.now (Terminal c.args.a)) c.in-None.ensures tells
