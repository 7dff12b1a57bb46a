use Rattle.std.proofs.Common.{◌≡◌, ◌+◌, ◌*◌, get_or, arith}
use Rattle.scan_lookback.specs.Laws.Coded.{says_sum, reads_sum, says_prefix, reads_prefix}
use Rattle.scan_lookback.proofs.look.read.Goals as goal

pub of_word-requires : goal.of_word-requires
of_word-requires g c =
    let m = c.args.monoid.now in
    let is : c.args.word ≡ 4 * get_or g.N.Codes.sum_codes c.args.j 0 + 1 = omega (arith, c.requires.status) in
    says_sum (g.M.WordMonoid.ops m) (g.met.M.WordMonoid.lawful m) g.N.Chunks.sums g.N.Codes.sum_codes g.N.Codes.prefix_codes c.requires.names c.args.j c.args.word c.requires.chunk is

pub of_word-requires-in_default : goal.of_word-requires-in_default
of_word-requires-in_default g c =
    let m = c.args.monoid.now in
    let is : c.args.word ≡ 4 * get_or g.N.Codes.prefix_codes c.args.j 0 + 2 = omega (arith, c.requires.status) in
    says_prefix (g.M.WordMonoid.ops m) (g.met.M.WordMonoid.lawful m) g.N.Chunks.sums g.N.Codes.sum_codes g.N.Codes.prefix_codes c.requires.names c.args.j c.args.word c.requires.chunk is

pub returns-in-1 : goal.returns-in-1
returns-in-1 g c =
    let m = c.args.monoid.now in
    let is : c.args.word ≡ 4 * get_or g.N.Codes.sum_codes c.args.j 0 + 1 = omega (arith, c.requires.status) in
    reads_sum (g.M.WordMonoid.ops m) (g.met.M.WordMonoid.lawful m) g.N.Chunks.sums g.N.Codes.sum_codes g.N.Codes.prefix_codes c.requires.names c.args.j c.args.word _ c.requires.chunk is c.of_word.ensures

pub returns-in_default : goal.returns-in_default
returns-in_default g c =
    let m = c.args.monoid.now in
    let is : c.args.word ≡ 4 * get_or g.N.Codes.prefix_codes c.args.j 0 + 2 = omega (arith, c.requires.status) in
    reads_prefix (g.M.WordMonoid.ops m) (g.met.M.WordMonoid.lawful m) g.N.Chunks.sums g.N.Codes.sum_codes g.N.Codes.prefix_codes c.requires.names c.args.j c.args.word _ c.requires.chunk is c.of_word-in_default.ensures
