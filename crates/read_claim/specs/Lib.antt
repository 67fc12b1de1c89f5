pub mod ReadClaim
