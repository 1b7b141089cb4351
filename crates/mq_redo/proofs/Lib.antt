mod Alone
mod Begins
pub mod Doing
mod Holding
mod Last
mod Routed
mod Same
mod ServerTail
pub mod Staying
mod Tails
mod TandemTail
mod ForkJoinTail
