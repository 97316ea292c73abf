-- Tables and what they show; steps: what each has to be, and steps in turn; verdicts; and calls on the tables of a state.
pub mod TableLaws
pub mod Steps
pub mod TurnLaws
pub mod VerdictLaws
pub mod ShownLaws
