use Rattle.std.proofs.Common.{◌≡◌, ◌∙◌, None, false, nat_lt, subst, arith}
use Rattle.std.proofs.lemmas.Result.{IfOk-weaker}
use Rattle.std.specs.List.{find}
use Rattle.limits.specs.Limits.{most_frame}
use Rattle.source_meaning.specs.Frames.{frame}
use Rattle.source_meaning.specs.Grammar.{Tree, Prog, ast}
use Rattle.front_end.specs.Laws.Counting.{tree_few}
use Rattle.pass_views.proofs.Showing.{frames_only, stopped_call_by}
use Rattle.pass_views.proofs.show.frames_of.Goals as goal

pub depths-requires-clause-nodes : goal.depths-requires-clause-nodes
depths-requires-clause-nodes g c κs within =
    let t = c.requires.analyzed in
    let h = tree_few c.args.source.now c.args.analysis.now.rows t.0 t.1.checked.fits (record { tree = t.1.checked.tree; shaped = t.1.checked.shaped; are = t.1.rows_are }) (c.rows_are_few.ensures t.0) in
    omega arith

pub frames_or_limit-requires-clause-nodes : goal.frames_or_limit-requires-clause-nodes
frames_or_limit-requires-clause-nodes g c κs within =
    let t = c.requires.analyzed in
    let h = tree_few c.args.source.now c.args.analysis.now.rows t.0 t.1.checked.fits (record { tree = t.1.checked.tree; shaped = t.1.checked.shaped; are = t.1.rows_are }) (c.rows_are_few.ensures t.0) in
    omega arith

pub frames_or_limit-requires-clause-lexed : goal.frames_or_limit-requires-clause-lexed
frames_or_limit-requires-clause-lexed g c κs within =
    let t = c.requires.analyzed in
    record { fits = t.1.checked.fits; lexical = t.1.checked.lexical; are = t.1.tokens_are }

pub returns-clause-ok : goal.returns-clause-ok
returns-clause-ok g c =
    let t = c.requires.analyzed in
    let deep = c.deref.ensures.value ∙ c.in_ok-depths.ensures (ast t.0) t.1.checked.shaped t.1.rows_are in
    IfOk-weaker c.frames_or_limit.result _ _ (λ f are. (t.0, t.1, are false t.0 t.1.checked t.1.rows_are deep)) c.frames_or_limit.ensures.ok

pub returns-clause-stopped : goal.returns-clause-stopped
returns-clause-stopped g c =
    let text = c.args.source.now in
    let t = c.requires.analyzed in
    let deep = c.deref.ensures.value ∙ c.in_ok-depths.ensures (ast t.0) t.1.checked.shaped t.1.rows_are in
    stopped_call_by text c.frames_or_limit.result (c.frames_or_limit.ensures.refused false t.0 t.1.checked t.1.rows_are deep) (c.frames_or_limit.ensures.large false t.0 t.1.checked t.1.rows_are deep)
    (λ some columns is.
    let h = frames_only text columns is in
    let same : h.0 ≡ t.0 = c.one_tree_of_text.ensures text h.0 t.0 h.1.tree t.1.checked.tree in
    some (subst (λ (u : Tree Prog). find (λ f. nat_lt most_frame (frame f).bytes) (ast u) ≡ None) same h.2))
