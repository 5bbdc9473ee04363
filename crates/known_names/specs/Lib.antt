pub mod Laws
pub mod Said
pub mod ScriptLaws
pub mod Speaking
pub mod SpokenLaws
