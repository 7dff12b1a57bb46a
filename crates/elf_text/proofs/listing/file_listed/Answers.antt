use Rattle.std.proofs.Common.{◌≡◌, ◌+◌, ◌*◌, ◌++◌, ap, ◌∙◌, arith}
use Rattle.std.specs.Prelude.{flat_map}
use Rattle.std.specs.List.{range_with_len}
use Rattle.elf_file.specs.Load.{half_at, word_at}
use Rattle.elf_text.specs.Listing.{header_listed}
use Rattle.elf_text.proofs.Pushed.{piece_more}
use Rattle.elf_text.proofs.listing.file_listed.Goals as goal

pub loop-number-preserved : goal.loop-number-preserved
loop-number-preserved c =
    let file = c.args.file.now in
    let k = c.loop-number.number in
    let a : c.push_header.new.out.items ≡ c.loop-number.out.items ++ header_listed file (c.word_at-start.result + 32 * k) = c.in_ok-push_header.ensures in
    a ∙ ((λ i. c.loop-number.invariant i ++ header_listed file (c.word_at-start.ensures i + 32 * k))
    ∙ piece_more (λ j. header_listed file (word_at file 28 + 32 * j)) k)

pub returns : goal.returns
returns c =
    let file = c.args.file.now in
    let all : c.loop-number.number ≡ half_at file 44 = omega (arith, c.loop-number-test.false, c.loop-number.auto.number-end, c.half_at-number-end.ensures) in
    c.loop-number.invariant ∙ ap (λ n. flat_map (λ j. header_listed file (word_at file 28 + 32 * j)) (range_with_len 0 n)) all
