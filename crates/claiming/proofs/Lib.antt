-- The laws that the answers cite.
pub mod SearchLaws
pub mod GrantLaws
pub mod MissLaws
pub mod RowLaws
pub mod ClaimLaws
