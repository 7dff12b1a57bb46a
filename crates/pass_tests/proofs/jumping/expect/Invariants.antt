use Rattle.pass_tests.proofs.jumping.expect.Given as goal

abbrev pub ghosts-found : goal.ghosts-found
ghosts-found g a = record { name = a.blank.name; parts = a.blank.parts }
