-- The operations on a semaphore by their numbers.
use Rattle.std.specs.Prelude.{ℕ, ◌<◌, ◌≡◌, Result, MatchResult}
use Rattle.interface.specs.Semaphores.{up, down}
use Rattle.semaphores.specs.declared.Operation.{Operation}
use Rattle.semaphores.specs.declared.Operation.TheVariants.{Up, Down}
use Rattle.semaphores.specs.declared.NoOperation.{NoOperation}

-- the number of an operation
abbrev pub number_of : Operation → ℕ
number_of Up = up
number_of Down = down

-- a number is read as the operation that has it, and as none where it is past the last
abbrev pub Reads : ℕ → Result Operation NoOperation → Type 0
Reads number read = MatchResult read (λ operation. number_of operation ≡ number) (λ none. down < number)
