-- `dontcares::all_tables` meets its contract. Assumes nothing.
use Rattle.dontcares.proofs.all_tables.Goals as goal

pub returns : goal.returns
returns c = rw c.from-m.ensures at c.sets_between.ensures.1
