pub mod BytesThere
pub mod AttributePlaces
pub mod ElementPlaces
pub mod NodePlaces
pub mod Joined
pub mod NodeEnds
pub mod RowsWithin
