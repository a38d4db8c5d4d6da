-- What the public calls claim: Falls and Laws. inner: for private functions only.
pub mod Falls
pub mod Laws
pub mod inner
