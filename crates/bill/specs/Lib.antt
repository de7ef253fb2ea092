pub mod Bill
pub mod BillAnswer
pub mod Rows
