pub mod Begin
pub mod ActiveTable
