pub mod Text
pub mod Print
pub mod TextLaws
pub mod WriteLaws
pub mod Tokens
pub mod Form
pub mod FormLaws
pub mod LengthLaws
