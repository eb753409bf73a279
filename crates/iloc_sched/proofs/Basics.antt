-- Lists, numbers, rows and cases: lemmas of no stage, for the other folders.
pub mod Cases
pub mod LastOnes
