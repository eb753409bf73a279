pub mod Common
pub mod OnTheirWay
pub mod Landing
pub mod Issuing
pub mod RowsOn
pub mod WholeRuns
pub mod ReadOnTime
pub mod Emitting
