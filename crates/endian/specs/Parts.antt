-- Parts of a list of bytes, read and written.
use Rattle.std.specs.Prelude.{ℕ, ◌+◌, ◌<◌, List, ◌++◌, length, take, drop, get_or}

-- every member of a list is a byte
abbrev pub AreBytes : List ℕ → Type 0
AreBytes list = (i : ℕ) → get_or list i 0 < 256

-- so many bytes from a place on; fewer where the list ends before
abbrev pub part : List ℕ → ℕ → ℕ → List ℕ
part bytes at size = take size (drop at bytes)

-- a list with other bytes in it from a place on
abbrev pub written : List ℕ → ℕ → List ℕ → List ℕ
written list at bytes = take at list ++ bytes ++ drop (at + length bytes) list
