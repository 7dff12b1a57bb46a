use Rattle.state_monoid.specs.Laws.Prefixes.{byte_item}
use Rattle.state_monoid.proofs.laws.bytes_have_items.Goals as goal

pub returns : goal.returns
returns c b h = byte_item c.args.compositions.now b h
