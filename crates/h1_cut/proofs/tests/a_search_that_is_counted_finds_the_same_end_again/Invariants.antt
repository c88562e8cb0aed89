use Rattle.h1_cut.proofs.tests.a_search_that_is_counted_finds_the_same_end_again.Given as goal

abbrev pub ghosts-found_twice : goal.ghosts-found_twice
ghosts-found_twice g a = record { name = a.blank.name; parts = a.blank.parts }
