use Rattle.std.proofs.Common.{sym, subst, ap, ◌≡◌, ◌∙◌, Some, Err, false, refl, map, string_bytes}
use Rattle.std.specs.Prelude.{option_map}
use Rattle.command_line.specs.Words.{Asked, command_of}
use Rattle.pareas_core.specs.Responses.{HasRead}
use Rattle.pareas_core.proofs.Meeting.{met, failed_read}
use Rattle.pareas_core.proofs.program.pareas.Goals as goal

pub returns : goal.returns
returns g c =
    let command : command_of (map string_bytes c.args.words.now) ≡ Some c.command.inside.command =
    ap (option_map (λ a. a.command)) c.in-Ok.ensures.asked ∙ ap (λ (a : Asked). Some a.command) (sym c.command.view_is) in
    met _ c.command.inside.command command _ c.deref.result.now
    (subst (HasRead c.command.inside.command (g.I.ByteIn.left c.args.input.now) (g.I.ByteIn.left c.read_for.new.input)) (sym c.deref.ensures.value) c.in-Ok-read_for.ensures.ok)
    c.in-Ok-read_for.ensures.worked (λ none. (c.read_for.ensures.undisturbed none).0) _ c.in-Ok-respond.ensures (c.source_behaves.ensures false) _ _ _ c.deliver.ensures

pub returns-in-Err-Failed : goal.returns-in-Err-Failed
returns-in-Err-Failed g c =
    let command : command_of (map string_bytes c.args.words.now) ≡ Some c.command.inside.command =
    ap (option_map (λ a. a.command)) c.in-Ok.ensures.asked ∙ ap (λ (a : Asked). Some a.command) (sym c.command.view_is) in
    let failed = c.in-Err-Failed.ensures.failed (ap Err c.in-Err-Failed.field-0-is) in
    failed_read _ c.command.inside.command command failed.1 _ _ _ failed.0 refl refl refl refl
