pub mod PieceLemmas
mod Printed
mod SaveLemmas
mod CompareLemmas
mod Worked
