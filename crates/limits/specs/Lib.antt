-- Public contracts: Limits, Reading, Keys, Rates, Figures and Worked. For private functions and proofs only: inner.
pub mod Limits
pub mod Keys
pub mod Rates
pub mod Figures
pub mod Reading
pub mod Worked
pub mod inner
