-- The laws that the functions' proofs cite.
pub mod UniformLaws
pub mod AnswerLaws
