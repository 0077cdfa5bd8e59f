pub mod Answered
pub mod Replies
pub mod Fronts
pub mod Sets
pub mod Drafting
pub mod Responses
pub mod Storage
