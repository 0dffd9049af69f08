-- What proofs of the leaves share.
pub mod Prelude
