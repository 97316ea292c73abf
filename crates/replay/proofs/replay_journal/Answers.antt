-- The tables have their lengths, so boot leaves them sound.
use mathlib.Core.Path.{refl}
use borrow.Author.Rules.{rules}
use Rattle.replay.proofs.BufferLaws.{booted_sound}
use Rattle.replay.proofs.replay_journal.Goals as goal

pub replay_all-progress-requires : goal.replay_all-progress-requires
replay_all-progress-requires g c = record { sound_before = booted_sound _ _ refl refl c.boot.ensures.from_boot; waits = search rules }
