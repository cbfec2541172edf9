pub mod Decimal
pub mod Parted
pub mod Printed
pub mod Exact
pub mod Forms
