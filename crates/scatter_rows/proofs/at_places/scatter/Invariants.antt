use Rattle.scatter_rows.proofs.at_places.scatter.Given as goal

abbrev pub ghosts-scatter_into : goal.ghosts-scatter_into
ghosts-scatter_into g a = record { places = a.places.now; values = a.values.now; limit = 18446744073709551615 }
