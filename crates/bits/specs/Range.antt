-- Lists, tests, counts and searches over the numbers below a bound: the words in which the rules are written.
-- Each recursion over a bound grows at the end, as a loop that counts up does. Assumes nothing.
use Rattle.std.specs.Prelude.{Bool, true, false, cond, ◌&&◌, ◌||◌, List, [], ◌∷◌, ◌++◌, ℕ, zero, suc, ◌+◌}
use Rattle.std.specs.Prelude.{Option}
use Rattle.std.specs.Prelude.{Some, None}

-- 1 where b holds, else 0
abbrev pub num : Bool → ℕ
num false = 0
num true = 1

infixr 25 ◌⇒◌
-- a implies b
abbrev pub ◌⇒◌ : Bool → Bool → Bool
true ⇒ b = b
false ⇒ b = true

-- p 0, p 1, .., p (n - 1)
abbrev pub places : {A : Type 0} → ℕ → (ℕ → A) → List A
places zero p = []
places (suc n) p = places n p ++ p n ∷ []

-- p holds of every number below n
abbrev pub every : ℕ → (ℕ → Bool) → Bool
every zero p = true
every (suc n) p = every n p && p n

-- p holds of some number below n
abbrev pub any : ℕ → (ℕ → Bool) → Bool
any zero p = false
any (suc n) p = any n p || p n

-- how many numbers below n pass the test
abbrev pub count : ℕ → (ℕ → Bool) → ℕ
count zero p = 0
count (suc n) p = count n p + num (p n)

-- a, a + 1, .. : c numbers
abbrev pub up_from : ℕ → ℕ → List ℕ
up_from a zero = []
up_from a (suc c) = a ∷ up_from (a + 1) c

-- the first number of the list that passes the test
abbrev pub first_in : (ℕ → Bool) → List ℕ → Option ℕ
first_in p [] = None
first_in p (x ∷ xs) = cond (p x) (Some x) (first_in p xs)

-- the smallest number below n that passes the test
abbrev pub smallest : ℕ → (ℕ → Bool) → Option ℕ
smallest n p = first_in p (up_from 0 n)
