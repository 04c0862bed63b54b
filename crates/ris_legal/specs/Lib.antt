pub mod Account
pub mod Held
pub mod Laws
pub mod Telling
pub mod Turn
