pub mod FirstFaults
pub mod PeriodsRead
pub mod TextPieces
pub mod FieldsText
