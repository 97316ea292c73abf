-- The text of a line in a buffer.
use Rattle.std.specs.Prelude.{ℕ, List, [], ltb, length, if◌then◌else◌}
use Rattle.interface.specs.Journal.{done, short, unknown, ended, spelled}
use Rattle.interface.specs.Journal.{Line as JournalLine}
use Rattle.journal_lines.specs.declared.Line.{Line}
use Rattle.journal_lines.specs.declared.Line.TheVariants.{Done, Cut, Bad, End}

-- a line of the code is this line of the journal
abbrev pub line_of : Line → JournalLine
line_of (Done index kind status answer) = done index kind status answer
line_of Cut = short
line_of (Bad kind) = unknown kind
line_of (End count) = ended count

-- no line has more bytes than this: numbers of 20, 3, 10 and 10 digits, three blanks and the line end
abbrev pub line_bytes : ℕ
line_bytes = 47

-- the text of a line for a buffer: none where the buffer is shorter than the longest line
unfoldable pub fitting : List ℕ → Line → List ℕ
fitting out line = if ltb (length out) line_bytes then [] else spelled (line_of line)
