use Rattle.board_steps.proofs.Looking as looking
use Rattle.board_steps.proofs.laws.status_board_steps.Goals as goal

pub returns : goal.returns
returns g c =
    let ops = g.M.WordMonoid.ops c.args.monoid.now in
    record {
      shows = λ sums state a n s t part. looking.shows ops sums state s part a n t;
      seals = λ sums state a n s t part. looking.seals ops sums state s part a n t;
      looks = λ sums state a j answer s t part. looking.looks ops sums state s part a j answer t;
      splits = λ sums state a n number s t part. looking.splits ops sums state s part a n number t;
      joins = λ sums state a b s t part. looking.joins ops sums state s part a b t;
    }
