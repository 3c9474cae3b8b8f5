-- Every row of the table holds: EveryRow, every_row_holds. A witness of 02, S-10: WitnessOfP.
pub mod Booleans
pub mod Checks
pub mod Search
pub mod Marks
pub mod SearchLaws
pub mod TableLaw
pub mod NotionLaws
pub mod NotionChecks
pub mod Descriptions
pub mod EveryRow
pub mod WitnessOfP
