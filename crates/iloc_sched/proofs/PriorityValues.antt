-- The priorities.
pub mod Chains
pub mod Found
pub mod Dependents
pub mod DependentsFound
pub mod DependentsCounted
