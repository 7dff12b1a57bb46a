use Rattle.std.proofs.Common.{refl, inl, inr, sym, ap, ◌∙◌, subst}
use Rattle.std.specs.Io.KnownBytes.{Appends}
use Rattle.pareas_core.specs.Output.{Due}
use Rattle.pareas_core.specs.Reading.{WritesPrefix}
use Rattle.pareas_core.specs.Responses.{IsDelivered, whole, broken_off}
use Rattle.pareas_core.proofs.Meeting.{got, got_prefix, got_all, got_none}
use Rattle.pareas_core.proofs.response.deliver.Goals as goal

pub returns-in_default : goal.returns-in_default
returns-in_default g c =
    let out_is = ap (λ (d : Due). d.out) c.response.view_is in
    broken_off (inl c.in_default.ensures.failed) (got_prefix _ _ _ (subst (WritesPrefix _ _) out_is c.in_default.ensures.prefix)) (got_none (g.E.ByteOut.written c.args.notes.now) _)

pub returns-in_default-write_all : goal.returns-in_default-write_all
returns-in_default-write_all g c =
    let out_is = ap (λ (d : Due). d.out) c.response.view_is in
    let notes_are = c.deref.ensures.value ∙ ap (λ (d : Due). d.notes) c.response.view_is in
    broken_off (inr c.in_default-write_all.ensures.failed) (got_all _ _ _ (subst (Appends _ _) out_is c.in-Ok.ensures.written)) (got_prefix _ _ _ (subst (WritesPrefix _ _) notes_are c.in_default-write_all.ensures.prefix))

pub returns : goal.returns
returns g c =
    let out_is = ap (λ (d : Due). d.out) c.response.view_is in
    let notes_are = c.deref.ensures.value ∙ ap (λ (d : Due). d.notes) c.response.view_is in
    subst (IsDelivered c.args.response.now _ _) (sym (ap (λ (d : Due). d.status) c.response.view_is))
    (whole (record {
      is_status = refl;
      is_out = got _ _ _ (subst (Appends _ _) out_is c.in-Ok.ensures.written);
      are_notes = got _ _ _ (subst (Appends _ _) notes_are c.in-Ok-write_all.ensures.written);
    }) c.in-Ok.ensures.worked c.in-Ok-write_all.ensures.worked)
