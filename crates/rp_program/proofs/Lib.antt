pub mod StartLemmas
pub mod CheckLemmas
pub mod ValidationLemmas
pub mod ServeLemmas
pub mod SaveLemmas
pub mod RunLemmas
