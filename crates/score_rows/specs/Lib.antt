-- What is claimed: Row and OverCheck, both with Limited and Fit. inner is for private functions only.
pub mod Limited
pub mod Fit
pub mod Row
pub mod OverCheck
pub mod inner
