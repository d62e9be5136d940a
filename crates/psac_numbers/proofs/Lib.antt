pub mod Rising
pub mod Statements
pub mod Program
pub mod Scopes
