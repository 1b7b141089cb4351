mod Steps
mod Forks
mod Counting
mod Rows
mod Behind
mod Walks
mod Gathering
mod Came
