-- What the contract of `fb_calls` cites: calls in words, what they promise one after another, and how often memory is tested.
pub mod Outcome
pub mod ListCall
pub mod Told
pub mod Tests
pub mod Theorems
pub mod inner
pub mod laws
