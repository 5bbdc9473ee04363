mod Given
mod Walks
