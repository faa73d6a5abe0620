-- A load with the number of patterns in H of each gate. Assumes nothing.
use Rattle.std.specs.Prelude.{List, ℕ, Result, Ok, Err}
use Rattle.network.specs.declared.Session.{Session}
use Rattle.network.specs.declared.Refusal.{Refusal}
use Rattle.network.specs.Load.{load_of}
use Rattle.network.specs.Calls.{pattern_counts}
use Rattle.loading.specs.declared.Counted.{Counted}

abbrev pub counted : Result Session Refusal → Result Counted Refusal
counted (Ok s) = Ok (record { session = s; counts = pattern_counts s })
counted (Err r) = Err r

unfoldable pub counted_of : List ℕ → Result Counted Refusal
counted_of bytes = counted (load_of bytes)
