use Rattle.std.proofs.Common.{◌≡◌, ◌∙◌, ◌<◌, length, sym, ap, subst}
use Rattle.folded_rows.specs.Columns.{Columns, number_in}
use Rattle.fold_pass.proofs.Rounding.{set_many, told_step}
use Rattle.fold_pass.proofs.rounds.put.Goals as goal

pub loop-i-preserved : goal.loop-i-preserved
loop-i-preserved c =
    let n = c.loop-i.i in
    let inv = c.loop-i.invariant in
    let parent : c.number-parent.result ≡ number_in c.args.columns.now.parents (number_in c.args.fresh.now n) = c.number-parent.ensures ∙ ap (λ (q : Columns). number_in q.parents (number_in c.args.fresh.now n)) c.columns.view_is in
    let same : length c.note-is_new.new.values ≡ length c.loop-i.values = set_many c.note-is_new.result c.loop-i.values c.note-is_new.new.values _ _ c.note-is_new.ensures.values in
    record {
      told =
          told_step c.args.columns.now c.args.fresh.now c.args.told.now n c.args.values.now c.loop-i.values c.note-is_new.new.values c.loop-i.next.items c.push_if.new.next.items c.number-parent.result c.note-is_new.result parent
          c.note-is_new.ensures.is_new c.note-is_new.ensures.values c.in_ok-push_if.ensures (λ o. subst (λ p. p < length c.loop-i.values) (sym parent) (inv.within n c.loop-i-test.true o)) inv.told;
      many = inv.many;
      as_many = same ∙ inv.as_many;
      within = λ i l o. subst (λ m. number_in c.args.columns.now.parents (number_in c.args.fresh.now i) < m) (sym same) (inv.within i l o);
    }
