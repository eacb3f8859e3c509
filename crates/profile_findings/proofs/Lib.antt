pub mod ConnectorLemmas
pub mod PeriodLemmas
