pub mod Leading
pub mod Ledger
