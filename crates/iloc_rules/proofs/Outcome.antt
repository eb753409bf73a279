-- The outcome of lawful schedules: `laws::lawful_schedules_keep_the_outcome`.
pub mod UsedEffects
pub mod LookUps
pub mod TimedOutcomes
pub mod LawfulOutcomes
pub mod KnownWords
pub mod ApartAddresses
pub mod Examples
