-- Blocks that a message goes between.
use Rattle.std.specs.Prelude.{ℕ, ◌≡◌, true, List, length}
use Rattle.words.specs.Sizes.{block_words}
use Rattle.interface.specs.Basics.{word}
use Rattle.interface.specs.Message.{payload_fits}

-- two blocks of a message whose counts fit
pub record Blocks (source target : List ℕ) : Type 0 where
  pub source_length : length source ≡ block_words
  pub target_length : length target ≡ block_words
  pub fits : payload_fits (word source 0) ≡ true
