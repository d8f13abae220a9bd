pub mod Halves
pub mod Climbs
pub mod RootSteps
pub mod BothSteps
pub mod Splits
pub mod Made
pub mod Grown
pub mod Equations
