pub mod Plans
pub mod Played
pub mod SettingUp
pub mod Units
