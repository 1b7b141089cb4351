pub mod Order
pub mod NumberLists
