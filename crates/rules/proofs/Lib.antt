-- ---- words and lists

-- two options that hold the same
pub mod Options
-- lists of drafts
pub mod Drafts
-- the newest version up to a time, and the card after a time
pub mod Latest
-- the ready point and the floor
pub mod Ready
-- what lock, drop and the tests do to rows and reading lists
pub mod Rows
-- one version more or less, and the next time that has one
pub mod Versions
-- ---- the invariant, and that each call keeps it

-- what an edit has read
pub mod Seen
-- the invariant, and what its clauses say together
pub mod Inv
-- one seat is changed
pub mod SeatChanged
-- proof, edit, read, write, lock, settle, drop and end, which change a seat and put nothing
pub mod SeatCalls
-- each of the others
pub mod CallStamp
pub mod CallPut
pub mod CallCollect
-- ---- the law

-- the law of one event
pub mod EventOk
-- the invariant and the law of each event, of every run
pub mod RunOk
-- an entry is locked by an edit that holds its lock
pub mod LockOwner
-- what collects leave
pub mod Collected
-- the law
pub mod Law
-- a run goes on
pub mod Runs
-- a new store stands as the law wants it
pub mod NewStores
