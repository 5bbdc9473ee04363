pub mod Known
pub mod Replay
pub mod Wrong
