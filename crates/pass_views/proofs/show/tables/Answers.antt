use Rattle.std.proofs.Common.{IfErr, IfOk, sym, subst}
use Rattle.command_line.specs.declared.command.Pass.TheVariants.{States, Tokens, Pairs, Parse, Rows, Names, Types, Frames, Places, Code}
use Rattle.pass_views.specs.Stopped.{IsUnshown}
use Rattle.pass_views.specs.Shown.{Shows}
use Rattle.pass_views.proofs.show.tables.Goals as goal

pub returns-in-States-clause-shown : goal.returns-in-States-clause-shown
returns-in-States-clause-shown g c =
    let text = c.args.source.now in
    subst (λ p. IfOk c.tabled.result (λ table. Shows text p table.items)) (sym c.in-States.is) (c.tabled.ensures.shown text States c.state_arrays.ensures.shown)

pub returns-in-States-clause-stopped : goal.returns-in-States-clause-stopped
returns-in-States-clause-stopped g c =
    let text = c.args.source.now in
    subst (λ p. IfErr c.tabled.result (IsUnshown text p)) (sym c.in-States.is) (c.tabled.ensures.stopped text States (λ e. cc) c.state_arrays.ensures.stopped)

pub returns-in-Tokens-clause-shown : goal.returns-in-Tokens-clause-shown
returns-in-Tokens-clause-shown g c =
    let text = c.args.source.now in
    subst (λ p. IfOk c.tabled-in-Tokens.result (λ table. Shows text p table.items)) (sym c.in-Tokens.is) (c.tabled-in-Tokens.ensures.shown text Tokens c.token_arrays.ensures.shown)

pub returns-in-Tokens-clause-stopped : goal.returns-in-Tokens-clause-stopped
returns-in-Tokens-clause-stopped g c =
    let text = c.args.source.now in
    subst (λ p. IfErr c.tabled-in-Tokens.result (IsUnshown text p)) (sym c.in-Tokens.is) (c.tabled-in-Tokens.ensures.stopped text Tokens (λ e. cc) c.token_arrays.ensures.stopped)

pub returns-in-Pairs-clause-shown : goal.returns-in-Pairs-clause-shown
returns-in-Pairs-clause-shown g c =
    let text = c.args.source.now in
    subst (λ p. IfOk c.tabled-in-Pairs.result (λ table. Shows text p table.items)) (sym c.in-Pairs.is) (c.tabled-in-Pairs.ensures.shown text Pairs c.pair_arrays.ensures.shown)

pub returns-in-Pairs-clause-stopped : goal.returns-in-Pairs-clause-stopped
returns-in-Pairs-clause-stopped g c =
    let text = c.args.source.now in
    subst (λ p. IfErr c.tabled-in-Pairs.result (IsUnshown text p)) (sym c.in-Pairs.is) (c.tabled-in-Pairs.ensures.stopped text Pairs (λ e. cc) c.pair_arrays.ensures.stopped)

pub returns-in-Parse-clause-shown : goal.returns-in-Parse-clause-shown
returns-in-Parse-clause-shown g c =
    let text = c.args.source.now in
    subst (λ p. IfOk c.tabled-in-Parse.result (λ table. Shows text p table.items)) (sym c.in-Parse.is) (c.tabled-in-Parse.ensures.shown text Parse c.parse_arrays.ensures.shown)

pub returns-in-Parse-clause-stopped : goal.returns-in-Parse-clause-stopped
returns-in-Parse-clause-stopped g c =
    let text = c.args.source.now in
    subst (λ p. IfErr c.tabled-in-Parse.result (IsUnshown text p)) (sym c.in-Parse.is) (c.tabled-in-Parse.ensures.stopped text Parse (λ e. cc) c.parse_arrays.ensures.stopped)

pub returns-in-Rows-clause-shown : goal.returns-in-Rows-clause-shown
returns-in-Rows-clause-shown g c =
    let text = c.args.source.now in
    subst (λ p. IfOk c.tabled-in-Rows.result (λ table. Shows text p table.items)) (sym c.in-Rows.is) (c.tabled-in-Rows.ensures.shown text Rows c.row_arrays.ensures.shown)

pub returns-in-Rows-clause-stopped : goal.returns-in-Rows-clause-stopped
returns-in-Rows-clause-stopped g c =
    let text = c.args.source.now in
    subst (λ p. IfErr c.tabled-in-Rows.result (IsUnshown text p)) (sym c.in-Rows.is) (c.tabled-in-Rows.ensures.stopped text Rows (λ e. cc) c.row_arrays.ensures.stopped)

pub returns-in-Names-clause-shown : goal.returns-in-Names-clause-shown
returns-in-Names-clause-shown g c =
    let text = c.args.source.now in
    subst (λ p. IfOk c.tabled-in-Names.result (λ table. Shows text p table.items)) (sym c.in-Names.is) (c.tabled-in-Names.ensures.shown text Names c.name_arrays.ensures.shown)

pub returns-in-Names-clause-stopped : goal.returns-in-Names-clause-stopped
returns-in-Names-clause-stopped g c =
    let text = c.args.source.now in
    subst (λ p. IfErr c.tabled-in-Names.result (IsUnshown text p)) (sym c.in-Names.is) (c.tabled-in-Names.ensures.stopped text Names (λ e. cc) c.name_arrays.ensures.stopped)

pub returns-in-Types-clause-shown : goal.returns-in-Types-clause-shown
returns-in-Types-clause-shown g c =
    let text = c.args.source.now in
    subst (λ p. IfOk c.tabled-in-Types.result (λ table. Shows text p table.items)) (sym c.in-Types.is) (c.tabled-in-Types.ensures.shown text Types c.type_arrays.ensures.shown)

pub returns-in-Types-clause-stopped : goal.returns-in-Types-clause-stopped
returns-in-Types-clause-stopped g c =
    let text = c.args.source.now in
    subst (λ p. IfErr c.tabled-in-Types.result (IsUnshown text p)) (sym c.in-Types.is) (c.tabled-in-Types.ensures.stopped text Types (λ e. cc) c.type_arrays.ensures.stopped)

pub returns-in-Frames-clause-shown : goal.returns-in-Frames-clause-shown
returns-in-Frames-clause-shown g c =
    let text = c.args.source.now in
    subst (λ p. IfOk c.tabled-in-Frames.result (λ table. Shows text p table.items)) (sym c.in-Frames.is) (c.tabled-in-Frames.ensures.shown text Frames c.frame_arrays.ensures.shown)

pub returns-in-Frames-clause-stopped : goal.returns-in-Frames-clause-stopped
returns-in-Frames-clause-stopped g c =
    let text = c.args.source.now in
    subst (λ p. IfErr c.tabled-in-Frames.result (IsUnshown text p)) (sym c.in-Frames.is) (c.tabled-in-Frames.ensures.stopped text Frames (λ e. cc) c.frame_arrays.ensures.stopped)

pub returns-in-Places-clause-shown : goal.returns-in-Places-clause-shown
returns-in-Places-clause-shown g c =
    let text = c.args.source.now in
    subst (λ p. IfOk c.tabled-in-Places.result (λ table. Shows text p table.items)) (sym c.in-Places.is) (c.tabled-in-Places.ensures.shown text Places c.place_arrays.ensures.shown)

pub returns-in-Places-clause-stopped : goal.returns-in-Places-clause-stopped
returns-in-Places-clause-stopped g c =
    let text = c.args.source.now in
    subst (λ p. IfErr c.tabled-in-Places.result (IsUnshown text p)) (sym c.in-Places.is) (c.tabled-in-Places.ensures.stopped text Places (λ e. cc) c.place_arrays.ensures.stopped)

pub returns-in-Code-clause-shown : goal.returns-in-Code-clause-shown
returns-in-Code-clause-shown g c =
    let text = c.args.source.now in
    subst (λ p. IfOk c.tabled-in-Code.result (λ table. Shows text p table.items)) (sym c.in-Code.is) (c.tabled-in-Code.ensures.shown text Code c.code_arrays.ensures.shown)

pub returns-in-Code-clause-stopped : goal.returns-in-Code-clause-stopped
returns-in-Code-clause-stopped g c =
    let text = c.args.source.now in
    subst (λ p. IfErr c.tabled-in-Code.result (IsUnshown text p)) (sym c.in-Code.is) (c.tabled-in-Code.ensures.stopped text Code (λ e. cc) c.code_arrays.ensures.stopped)
