use Rattle.red_layer.proofs.deferral.place_of.Goals as goal
use Rattle.red_layer.proofs.Entries.{search-has}

pub returns-clause-there : goal.returns-clause-there
returns-clause-there g c =
    search-has c.args.places.now c.args.seq c.search.result c.search.ensures.found c.search.ensures.none
