-- What proofs say piece by piece: no contract of a public function names it.
pub mod Members
pub mod Stands
pub mod Chains
pub mod Choosing
pub mod Ways
