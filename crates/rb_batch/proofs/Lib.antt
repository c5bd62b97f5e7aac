pub mod Runs
pub mod Greedy
pub mod UnderWay
pub mod Existence
pub mod Divisions
pub mod FirstTooBig
