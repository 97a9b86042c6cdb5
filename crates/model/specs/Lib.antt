-- The definitions of document 01, a file for each of its sections, in its order, each as the requests of document 02 have changed it, and a file for
-- a request that adds to none.
pub mod Basics
pub mod Sizes
pub mod Guard
pub mod Policy
pub mod Bits
pub mod Tree
pub mod Devices
pub mod Sync
pub mod Switch
pub mod Approvals
pub mod Refusals
pub mod Calls
pub mod Questions
pub mod Walks
pub mod Cases
pub mod Further
pub mod Orders
pub mod TreeCases
pub mod DeviceCases
pub mod ApprovalCases
