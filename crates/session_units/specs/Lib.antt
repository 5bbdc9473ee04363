pub mod Meaning
pub mod Offered
pub mod Names
pub mod Others
pub mod GraphUnits
pub mod AbsoluteUnits
pub mod AliasUnits
pub mod Units
