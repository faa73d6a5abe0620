-- The cases of specs/Cases.antt hold, by computation. Assumes nothing.
use mathlib.Core.Path.{refl}
use Rattle.bits.specs.Lists.{Hold}
use Rattle.text.specs.Numbers.{hex, decimal}
use Rattle.text.specs.Words.{words}
use Rattle.text.specs.Cases.{shown, parted}

pub shown-hold : Hold shown
unfolding hex decimal
shown-hold = refl

pub parted-hold : Hold parted
unfolding words
parted-hold = refl
