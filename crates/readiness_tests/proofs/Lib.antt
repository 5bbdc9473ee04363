pub mod FirstChange
