mod Names
mod Firsts
mod Ends
mod Bits
mod Numbers
mod Texts
mod Decimals
mod Items
mod Forms
mod Taken
mod Read
mod Sets
mod Order
mod Pairs
pub mod Referred
mod Entities
mod Keywords
pub mod Attributes
mod Layouts
mod Shapes
mod Instances
mod Again
mod Headers
mod Contents
mod Files
mod Defaults
pub mod Kept
mod Words
mod Accepted
