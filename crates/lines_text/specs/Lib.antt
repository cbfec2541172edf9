pub mod Decimal
pub mod Line
pub mod Parsed
pub mod Printed
