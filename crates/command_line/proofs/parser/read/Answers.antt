use Rattle.std.proofs.Common.{◌≡◌, ◌∙◌, ap, refl, sym, subst, inl, inr, None, map, string_bytes}
use Rattle.std.specs.Prelude.{option_and_then, option_map}
use Rattle.clap.specs.Words.{app_of, found_of, rows_of, kind_of, is_simple_and_free, fault_of, IsAmong}
use Rattle.std.proofs.lemmas.Result.{IfErr-weaker, IfOk-weaker}
use Rattle.command_line.specs.Refused.{IsUsage}
use Rattle.command_line.specs.Words.{app, asked, known}
use Rattle.command_line.proofs.Matched.{app_is_free, asked_none, met, got, handed_on, mapped_twice}
use Rattle.command_line.proofs.parser.read.Goals as goal

pub returns-in-Err-clause-refused : goal.returns-in-Err-clause-refused
returns-in-Err-clause-refused c = λ usage.
    let app_is : app_of c.deref_mut.result.now ≡ app = ap app_of c.deref_mut.ensures.value ∙ c.in_ok-command.ensures in
    elim (c.in-Err.ensures.kinds (ap is_simple_and_free app_is ∙ app_is_free)) [
      | inl memory ↦ absurd (c.refused_by.ensures usage memory)
      | inr among ↦ asked_none (map string_bytes c.args.words.now) (kind_of c.in-Err.error) (subst (λ a. IsAmong (kind_of c.in-Err.error) (fault_of a (map string_bytes c.args.words.now))) app_is among)
    ]

pub request-requires : goal.request-requires
request-requires c =
    let app_is : app_of c.deref_mut.result.now ≡ app = ap app_of c.deref_mut.ensures.value ∙ c.in_ok-command.ensures in
    let words = map string_bytes c.args.words.now in
    let one = met _ words words c.in-Ok.matches app_is refl (c.in-Ok.ensures.kinds (ap is_simple_and_free app_is ∙ app_is_free)) c.in-Ok.ensures.ok.2 in
    let name = sym (mapped_twice _ _ _) ∙ sym c.subcommand.ensures.name ∙ ap (option_map (λ p. p.0.now)) c.unwrap.ensures in
    let rows = sym c.subcommand.ensures.rows ∙ ap (option_map (λ p. rows_of (found_of p.1.now))) c.unwrap.ensures in
    (got words c.in-Ok.matches c.unwrap.result.0.now (rows_of (found_of c.unwrap.result.1.now)) one name rows).numbers

pub returns-clause-asked : goal.returns-clause-asked
returns-clause-asked c =
    let app_is : app_of c.deref_mut.result.now ≡ app = ap app_of c.deref_mut.ensures.value ∙ c.in_ok-command.ensures in
    let words = map string_bytes c.args.words.now in
    let one = met _ words words c.in-Ok.matches app_is refl (c.in-Ok.ensures.kinds (ap is_simple_and_free app_is ∙ app_is_free)) c.in-Ok.ensures.ok.2 in
    let name = sym (mapped_twice _ _ _) ∙ sym c.subcommand.ensures.name ∙ ap (option_map (λ p. p.0.now)) c.unwrap.ensures in
    let rows = sym c.subcommand.ensures.rows ∙ ap (option_map (λ p. rows_of (found_of p.1.now))) c.unwrap.ensures in
    let is_asked = (got words c.in-Ok.matches c.unwrap.result.0.now (rows_of (found_of c.unwrap.result.1.now)) one name rows).is_asked ∙ ap (option_and_then known) c.in_ok-request.ensures.asked in
    IfOk-weaker c.known.result _ _ (λ request h. is_asked ∙ h) c.known.ensures.kept

pub returns-clause-refused : goal.returns-clause-refused
returns-clause-refused c =
    let app_is : app_of c.deref_mut.result.now ≡ app = ap app_of c.deref_mut.ensures.value ∙ c.in_ok-command.ensures in
    let words = map string_bytes c.args.words.now in
    let one = met _ words words c.in-Ok.matches app_is refl (c.in-Ok.ensures.kinds (ap is_simple_and_free app_is ∙ app_is_free)) c.in-Ok.ensures.ok.2 in
    let name = sym (mapped_twice _ _ _) ∙ sym c.subcommand.ensures.name ∙ ap (option_map (λ p. p.0.now)) c.unwrap.ensures in
    let rows = sym c.subcommand.ensures.rows ∙ ap (option_map (λ p. rows_of (found_of p.1.now))) c.unwrap.ensures in
    let is_asked = (got words c.in-Ok.matches c.unwrap.result.0.now (rows_of (found_of c.unwrap.result.1.now)) one name rows).is_asked ∙ ap (option_and_then known) c.in_ok-request.ensures.asked in
    IfErr-weaker c.known.result _ _ (λ refusal h usage. is_asked ∙ h usage) c.known.ensures.refused

pub returns-in_err-request-clause-refused : goal.returns-in_err-request-clause-refused
returns-in_err-request-clause-refused c =
    let words = map string_bytes c.args.words.now in
    let app_is : app_of c.deref_mut.result.now ≡ app = ap app_of c.deref_mut.ensures.value ∙ c.in_ok-command.ensures in
    let one = met _ words words c.in-Ok.matches app_is refl (c.in-Ok.ensures.kinds (ap is_simple_and_free app_is ∙ app_is_free)) c.in-Ok.ensures.ok.2 in
    let name = sym (mapped_twice _ _ _) ∙ sym c.subcommand.ensures.name ∙ ap (option_map (λ p. p.0.now)) c.unwrap.ensures in
    let rows = sym c.subcommand.ensures.rows ∙ ap (option_map (λ p. rows_of (found_of p.1.now))) c.unwrap.ensures in
    let is_asked = (got words c.in-Ok.matches c.unwrap.result.0.now (rows_of (found_of c.unwrap.result.1.now)) one name rows).is_asked in
    handed_on (λ refusal. IsUsage refusal → asked words ≡ None) c.from_residual-in_err-request.result c.in_err-request.field-0.0 c.from_residual-in_err-request.ensures.1
    (λ usage. is_asked ∙ ap (option_and_then known) (c.in_err-request.ensures.refused usage))
