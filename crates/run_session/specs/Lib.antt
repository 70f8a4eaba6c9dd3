pub mod Answered
pub mod Asked
pub mod Lasting
pub mod Replays
pub mod Shown
pub mod Sound
