-- What a test answers, and what a call gives that may be refused. Assumes nothing.
use Rattle.std.specs.Prelude.{Result, Ok, Err}
use Rattle.network.specs.declared.Refusal.{Refusal}

-- of a test: nothing, or why it refuses
abbrev pub Answer : Type 0
Answer = Result (Unit {0}) Refusal

-- nothing is refused
abbrev pub Done : Answer
Done = Ok tt

-- the answer alone
abbrev pub answer_of : {T : Type 0} → Result T Refusal → Answer
answer_of (Ok x) = Done
answer_of (Err r) = Err r

-- x, where nothing is refused
abbrev pub giving : {T : Type 0} → Answer → T → Result T Refusal
giving (Ok _) x = Ok x
giving (Err r) x = Err r

-- go on where nothing is refused
abbrev pub onward : {T : Type 0} → Answer → Result T Refusal → Result T Refusal
onward (Ok _) l = l
onward (Err r) l = Err r

-- what is given; d where it is refused
abbrev pub given_or : {T : Type 0} → T → Result T Refusal → T
given_or d (Ok x) = x
given_or d (Err r) = d
