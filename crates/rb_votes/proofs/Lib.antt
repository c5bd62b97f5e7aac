pub mod Orders
pub mod Prefixes
mod Rising
mod Ordered
mod Thinned
pub mod Sent
pub mod Fewest
mod Others
mod Seats
mod Taken
mod Thinning
mod Counted
