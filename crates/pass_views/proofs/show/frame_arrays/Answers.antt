use Rattle.std.proofs.Common.{false}
use Rattle.pass_views.proofs.Showing.{are_frames, frames_only, passed_on, unchecked}
use Rattle.pass_views.proofs.show.frame_arrays.Goals as goal

pub returns-clause-shown : goal.returns-clause-shown
returns-clause-shown g c =
    let s = c.in_ok-frames.ensures.ok in
    are_frames c.args.source.now c.in_ok-analysis.analysis.tokens c.in_ok-analysis.analysis.rows c.in_ok-frames.frames c.in_ok-frame_columns.field-0.items s.0 s.1.checked s.1.tokens_are s.1.rows_are s.2
    c.in_ok-frame_columns.ensures

pub returns-in_err-analysis-clause-stopped : goal.returns-in_err-analysis-clause-stopped
returns-in_err-analysis-clause-stopped g c =
    let text = c.args.source.now in
    let last = c.limits_come_last.ensures in
    passed_on text c.from_residual.result c.in_err-analysis.field-0.0 c.from_residual.ensures.1
    (λ none columns is. let h = frames_only text columns is in none h.0 h.1)
    (unchecked text (c.one_verdict.ensures false text) (last.frame false text) (last.code false text) (last.accepted false text) c.in_err-analysis.field-0.0 c.in_err-analysis.ensures.refused)
