pub mod Causes
pub mod Contents
pub mod Kept
pub mod Numbers
pub mod Plans
pub mod Texts
