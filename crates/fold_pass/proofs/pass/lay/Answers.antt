use Rattle.std.proofs.Common.{◌∙◌}
use Rattle.fold_pass.proofs.Refolded.{parents_many, parents_up, places_many}
use Rattle.fold_pass.proofs.pass.lay.Goals as goal

pub new-requires-clause-parents : goal.new-requires-clause-parents
new-requires-clause-parents c = parents_many c.args.columns.lows.items c.args.kin.parents.items c.requires.kin.parents_are ∙ c.requires.lows

pub new-requires-clause-places : goal.new-requires-clause-places
new-requires-clause-places c = places_many c.args.columns.lows.items c.args.kin.places.items c.requires.kin.places_are ∙ c.requires.lows

pub new-requires-clause-upward : goal.new-requires-clause-upward
new-requires-clause-upward c = parents_up c.args.columns.lows.items c.args.kin.parents.items c.requires.kin.parents_are
