pub mod Address
pub mod Peer
pub mod Texts
pub mod Naming
