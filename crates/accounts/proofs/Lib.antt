mod HistoryLaws
pub mod ChargingLaws
pub mod SlotsLaws
pub mod SolvencyLaws
pub mod States
pub mod WindowLaws
