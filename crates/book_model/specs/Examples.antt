-- What the worked examples are made of: steps, replies, states and stores.
pub mod Calls
pub mod Fulls
pub mod Nights
pub mod Plays
pub mod Retries
pub mod Rooms
pub mod Runs
pub mod Steps
pub mod Stores
pub mod TwoNights
