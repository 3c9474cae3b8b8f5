-- What the theorem of `examples` says. A reviewer reads Meaning and StarredRows, in this order.
pub mod Meaning
pub mod StarredRows
