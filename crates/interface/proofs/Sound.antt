-- Soundness: its facts, that each step that fits keeps it, and that the steps of each rule fit.
pub mod Soundness
pub mod PlaceFacts
pub mod GreatestLaws
pub mod SoundPlaces
pub mod CutSound
pub mod OneRecord
pub mod SoundObjects
pub mod SoundFacts
pub mod RevokeFits
pub mod SemaphoresFit
pub mod CreationsFit
pub mod MessageFits
pub mod RulesFit
