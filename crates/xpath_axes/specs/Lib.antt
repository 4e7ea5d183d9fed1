pub mod Tests
pub mod Walks
pub mod Climbs
pub mod Backs
pub mod Iters
pub mod Told
