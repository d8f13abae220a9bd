pub mod Octets
pub mod Elements
pub mod Answered
pub mod Naturals
pub mod Rests
pub mod CountedLengths
pub mod Ends
pub mod Contents
pub mod Fronts
pub mod Steps
pub mod TextLaws
pub mod Numerals
pub mod StandardFacts
pub mod RisingLists
pub mod OneSet
mod SetOrders
