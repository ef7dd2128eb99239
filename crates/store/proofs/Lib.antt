-- what a keeper's find and after answer, in the words of the rules
pub mod Finding
pub mod Following
-- calls made in order
pub mod Applying
-- an answer told in another way
pub mod Answering
-- what put does
pub mod Putting
-- a rule that changes one seat
pub mod Changing
