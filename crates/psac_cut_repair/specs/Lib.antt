pub mod CutMended
pub mod Based
pub mod Creates
pub mod Update
pub mod Modes
pub mod Reaching
