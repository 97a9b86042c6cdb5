-- Demand 3: the one-page guards, the terms of frames, the claim about every list of calls, what follows from it, and what the installed table lets a processor do.
pub mod CallKinds
pub mod OnePage
pub mod Terms
pub mod Lists
pub mod Claim
pub mod Committing
pub mod Consequences
pub mod Installed
