-- What else follows from the rules: what tables keep, what LOOKUP answers, what calls fill, revoke and create, what the damage report names,
-- what the reasons of null items leave alone, and what boot lends to the root.
pub mod ConsequenceLaws
pub mod LookupLaws
pub mod FilledLaws
pub mod RevokedLaws
pub mod CreatedLaws
pub mod DamageReportLaws
pub mod WithoutReasonsLaws
pub mod BootLendsLaws
