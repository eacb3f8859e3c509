pub mod RoomLemmas
pub mod HistoryLemmas
pub mod CallLemmas
pub mod RequestLemmas
pub mod BehindLemmas
pub mod RecorderLemmas
