-- What the contracts of `layout` cite. A reviewer reads Sizes, then Layout.
pub mod Sizes
pub mod Layout
