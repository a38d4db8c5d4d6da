-- All of these modules state what is claimed; none serves private functions only.
pub mod CalmMoments
pub mod Exchange
pub mod InStep
pub mod Progress
pub mod Laws
pub mod WorkedExchange
